-- What requests have to do with contents that are sent in steps.
use Rattle.std.specs.Prelude.{ℕ, ◌==◌, ◌&&◌, Bool, true, false, List, Option, None, Some}
use Rattle.std.specs.List.{list_any}
use Rattle.dep_types.specs.declared.target.Resource.{Resource}
use Rattle.dep_types.specs.declared.target.Resource.TheVariants.{Object, FileSet, File}
use Rattle.dep_types.specs.declared.target.Method.{Method}
use Rattle.dep_types.specs.declared.target.Method.TheVariants.{Get, Put, Delete}
use Rattle.dep_answers.specs.Laws.{file_read}
use Rattle.dep_answers.specs.declared.performed.FileId.{FileId}
use Rattle.dep_head.specs.Head.{HeadParts}
use Rattle.dep_router.specs.Targets.{target}
use Rattle.dep_router.specs.declared.routed.Routed.{Routed}
use Rattle.dep_router.specs.declared.routed.Routed.TheVariants.{To, NotFound, NotAllowed}
use Rattle.dep_hub.specs.declared.claim.Files.{Files}
use Rattle.dep_hub.specs.declared.claim.Files.TheVariants.{One, All}
use Rattle.dep_hub.specs.declared.claim.Claim.{Claim}
use Rattle.dep_hub.specs.declared.claim.Claim.TheVariants.{Takes, Reads, Neither}
use Rattle.dep_hub.specs.declared.rest.Behind.{Behind}
use Rattle.dep_hub.specs.declared.rest.Behind.TheVariants.{Content, Waits}
use Rattle.dep_hub.specs.declared.connections.Connection.{Connection}

-- a file is one of these
abbrev pub has_file : Files → (object file : ℕ) → Bool
has_file (One n f) object file = (n == object) && (f == file)
has_file (All n) object file = n == object

-- a PUT or a DELETE takes the files of its resource
abbrev pub taken_of : Resource → Claim
taken_of (Object n) = Takes (All n)
taken_of (FileSet n) = Takes (All n)
taken_of (File n f) = Takes (One n f)
taken_of resource = Neither

-- a file is read, if one is
abbrev pub file_claim : Option FileId → Claim
file_claim None = Neither
file_claim (Some id) = Reads id.object id.file

-- a GET reads the content of a file, by its own path or by its path in the bag
abbrev pub read_claim : Resource → Claim
read_claim resource = file_claim (file_read resource)

abbrev pub claim_to : Resource → Method → Claim
claim_to resource Put = taken_of resource
claim_to resource Delete = taken_of resource
claim_to resource Get = read_claim resource
claim_to resource method = Neither

abbrev pub claim_by : Routed → Claim
claim_by (To t) = claim_to t.resource t.method
claim_by NotFound = Neither
claim_by (NotAllowed methods) = Neither

-- what the request of a head has to do with them
abbrev pub claim_of : HeadParts → Claim
claim_of head = claim_by (target head.method head.path)

-- ---- what stands in the way of a request

-- a content of these files is being sent there
abbrev pub sends_of : Files → Behind → Bool
sends_of files (Content r) = has_file files r.file.object r.file.file
sends_of files behind = false

-- the request that waits there takes the file
abbrev pub waits_to_take : (object file : ℕ) → Behind → Bool
waits_to_take n f (Waits (Takes files)) = has_file files n f
waits_to_take n f behind = false

-- What takes files waits for their contents that are being sent, and what reads one for requests that wait to
-- take it.
abbrev pub is_in_the_way : Claim → Behind → Bool
is_in_the_way (Takes files) behind = sends_of files behind
is_in_the_way (Reads n f) behind = waits_to_take n f behind
is_in_the_way Neither behind = false

-- something stands in its way
abbrev pub has_to_wait : List Connection → Claim → Bool
has_to_wait connections claim = list_any (λ c. is_in_the_way claim c.behind) connections

-- a request that waits has to wait still
abbrev pub waits_on : List Connection → Behind → Bool
waits_on connections (Waits claim) = has_to_wait connections claim
waits_on connections behind = false

-- ---- hubs that have to look

-- a content is being sent
abbrev pub is_content : Behind → Bool
is_content (Content r) = true
is_content behind = false

-- that, or a request waits
abbrev pub is_pending : Behind → Bool
is_pending (Content r) = true
is_pending (Waits claim) = true
is_pending behind = false

-- so it is with some connection
abbrev pub is_any_pending : List Connection → Bool
is_any_pending connections = list_any (λ c. is_pending c.behind) connections

-- a request waits
abbrev pub is_waiting : Behind → Bool
is_waiting (Waits claim) = true
is_waiting behind = false

-- so it is with some connection
abbrev pub is_any_waiting : List Connection → Bool
is_any_waiting connections = list_any (λ c. is_waiting c.behind) connections

-- the request that waits with some connection takes the file
abbrev pub any_waits_to_take : List Connection → (object file : ℕ) → Bool
any_waits_to_take connections n f = list_any (λ c. waits_to_take n f c.behind) connections

-- the content that is being sent is one that a waiting request takes
abbrev pub is_awaited_by : List Connection → Behind → Bool
is_awaited_by connections (Content r) =
    any_waits_to_take connections r.file.object r.file.file
is_awaited_by connections behind = false
