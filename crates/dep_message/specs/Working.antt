-- Words of private functions: the bytes that are kept, and what is known of the first request of them.
use Rattle.std.specs.Prelude.{◌≡◌, ◌⊎◌, ℕ, ◌<◌, ◌≤◌, Bool, true, false, List, [], ◌++◌, length, take, None, Some, Option, Result, Ok, MatchResult}
use Rattle.std.specs.declared.alloc.AllocError.{AllocError}
use Rattle.dep_head.specs.Head.{HeadParts, IsHeadText, head_end, head_limit}
use Rattle.dep_body.specs.Framing.{framing}
use Rattle.dep_body.specs.Body.{IsPartOfBody}
use Rattle.dep_body.specs.Feeding.{HasFed}
use Rattle.dep_body.specs.declared.frame.Framing.{Framing}
use Rattle.dep_body.specs.declared.frame.Framing.TheVariants.{Empty, Length, Chunked as InChunks}
use Rattle.dep_message.specs.Giving.{BeginsWith, BeginsWithHead}
use Rattle.dep_message.specs.Heads.{is_due}
use Rattle.dep_message.specs.Places.{Reading, Open, Shut}
use Rattle.dep_message.specs.Stream.{IsContinueText, IsFaultText, IsRequestText, Waits}
use Rattle.dep_message.specs.declared.first.FirstHead.{FirstHead}
use Rattle.dep_message.specs.declared.first.FramedHead.{FramedHead}
use Rattle.dep_message.specs.declared.first.FirstHead.TheVariants as H
use Rattle.dep_message.specs.declared.intake.Standing.{Standing}
use Rattle.dep_message.specs.declared.intake.Standing.TheVariants.{Live, Closed, Dead}
use Rattle.dep_message.specs.declared.message.Message.{Message}
use Rattle.dep_message.specs.declared.progress.ChunkedRequest.{ChunkedRequest}
use Rattle.dep_message.specs.declared.progress.FirstItem.{FirstItem}
use Rattle.dep_message.specs.declared.progress.Found.{Found}
use Rattle.dep_message.specs.declared.progress.Found.TheVariants as F
use Rattle.dep_message.specs.declared.progress.Progress.{Progress}
use Rattle.dep_message.specs.declared.progress.Progress.TheVariants.{Searched, Sized, Chunked, First}
use Rattle.dep_body.specs.declared.used.UsedBytes.{UsedBytes}
use Rattle.dep_message.specs.declared.unparsed.Unparsed.{Unparsed}

-- no head ends in so many bytes
pub record IsSearched (searched : ℕ) (bytes : List ℕ) : Type 0 where
  pub within : searched ≤ length bytes
  pub no_end : head_end (take searched bytes) ≡ None

-- a head, and the framing of the body that may come
pub record IsBegun (limit : ℕ) (continued : Bool) (front : List ℕ) (head : HeadParts) (frame : Framing)
    : Type 0 where
  pub is_head : IsHeadText front head
  pub framed : framing limit head ≡ Ok frame
  pub due_is : is_due continued head frame ≡ false

-- a body framed so has just so many bytes
abbrev pub HasBodySize : Framing → ℕ → Type 0
HasBodySize Empty size = size ≡ 0
HasBodySize (Length n) size = size ≡ n
HasBodySize InChunks size = ⊥

-- a head whose body has just so many bytes
pub record HasSizedHead (limit : ℕ) (continued : Bool) (front : List ℕ) (head : HeadParts) (size : ℕ)
    : Type 0 where
  pub frame : Framing
  pub begun : IsBegun limit continued front head frame
  pub size_is : HasBodySize frame size

-- the bytes behind a head, of which those in the buffer are the last: none are there, unless the others are just the body
abbrev pub StandsApart : (size : ℕ) → (behind buffer : List ℕ) → Type 0
StandsApart size behind buffer = (buffer ≡ []) ⊎ (length behind ≡ size)

-- the bytes that were used are the head, and behind it what the reader was fed, which is no whole body in chunks
pub record ReadsChunks (limit : ℕ) (continued : Bool) (request : ChunkedRequest) : Type 0 where
  pub front : List ℕ
  pub fed : List ℕ
  pub used_is : request.used.items ≡ front ++ fed
  pub begun : IsBegun limit continued front request.head InChunks
  pub limit_is : request.reader.limit ≡ limit
  pub has_fed : HasFed request.reader fed
  pub part : IsPartOfBody limit InChunks fed

-- the bytes of the buffer behind those that were used and are in memory no more; those of a body of known length
-- stand apart, and none are in the buffer
abbrev pub bytes_with : Progress → List ℕ → List ℕ
bytes_with (Searched n) buffer = buffer
bytes_with (Sized request) buffer = request.used.items ++ request.behind
bytes_with (Chunked request) buffer = request.used.items ++ buffer
bytes_with (First first) buffer = first.used.items ++ buffer

-- all bytes that no item has used
abbrev pub kept_bytes : Unparsed → List ℕ
kept_bytes unparsed = bytes_with unparsed.progress unparsed.buffer

-- it stands first: a request is just the bytes that were used, and where a `100 Continue` is due, none were
abbrev pub IsItem : ℕ → Bool → (used buffer : List ℕ) → Found → Type 0
IsItem limit continued used buffer (F.Message m) = IsRequestText limit continued used m
IsItem limit continued used buffer F.Continue =
    (used ≡ []) × BeginsWith (IsContinueText limit continued) buffer
IsItem limit continued used buffer (F.Fault refusal head_only) =
    BeginsWith (λ text. IsFaultText limit continued text refusal head_only) (used ++ buffer)

abbrev pub IsFirstItem : ℕ → Bool → (buffer : List ℕ) → FirstItem → Type 0
IsFirstItem limit continued buffer first = IsItem limit continued first.used.items buffer first.item

-- what is known of the first request is so
abbrev pub IsKnownProgress : ℕ → Bool → List ℕ → Progress → Type 0
IsKnownProgress limit continued buffer (Searched n) = IsSearched n buffer
IsKnownProgress limit continued buffer (Sized request) =
    (buffer ≡ []) × HasSizedHead limit continued request.used.items request.head request.length
IsKnownProgress limit continued buffer (Chunked request) = ReadsChunks limit continued request
IsKnownProgress limit continued buffer (First first) = IsFirstItem limit continued buffer first

-- the request before is done with, and nothing is known of the next
abbrev pub IsUnsearched : Unparsed → Type 0
IsUnsearched unparsed = unparsed.progress ≡ Searched 0

-- this was known of the first request, and was taken out of what is kept
pub record HasLeft (unparsed : Unparsed) (progress : Progress) : Type 0 where
  pub fresh : IsUnsearched unparsed
  pub known : IsKnownProgress unparsed.limit unparsed.continued unparsed.buffer progress

-- nothing is known of the first request yet, whose head is the first bytes of the buffer
pub record IsAtHead (unparsed : Unparsed) (first : FramedHead) : Type 0 where
  pub fresh : IsUnsearched unparsed
  pub within : first.length ≤ length unparsed.buffer
  pub begun : IsBegun unparsed.limit unparsed.continued (take first.length unparsed.buffer) first.head first.framing

-- what the intake knows of the first request in its buffer is so
abbrev pub IsWorking : Unparsed → Type 0
IsWorking unparsed = IsKnownProgress unparsed.limit unparsed.continued unparsed.buffer unparsed.progress

-- where the reading stands
abbrev pub reading_of : Standing → Unparsed → Reading
reading_of Live unparsed =
    record { limit = unparsed.limit; place = Open unparsed.continued (kept_bytes unparsed); is_dead = false }
reading_of Closed unparsed = record { limit = unparsed.limit; place = Shut; is_dead = false }
reading_of Dead unparsed = record { limit = unparsed.limit; place = Shut; is_dead = true }

-- just these bytes are kept
pub record KeepsBytes (limit : ℕ) (continued : Bool) (bytes : List ℕ) (unparsed : Unparsed) : Type 0 where
  pub limit_is : unparsed.limit ≡ limit
  pub continued_is : unparsed.continued ≡ continued
  pub bytes_are : kept_bytes unparsed ≡ bytes
  pub known : IsWorking unparsed

-- the head that stands first in the bytes
abbrev pub FindsHead : ℕ → Bool → List ℕ → FirstHead → Type 0
FindsHead limit continued bytes (H.Head first) =
    (first.length ≤ length bytes)
    × IsBegun limit continued (take first.length bytes) first.head first.framing
FindsHead limit continued bytes H.Continue = BeginsWith (IsContinueText limit continued) bytes
FindsHead limit continued bytes (H.Fault refusal head_only) =
    BeginsWith (λ text. IsFaultText limit continued text refusal head_only) bytes
FindsHead limit continued bytes H.Nothing = (head_end bytes ≡ None) × (length bytes < head_limit)

-- a request that was found was shown, and nothing else is
abbrev pub ShowsFound : {X : Type 0} → (sees : X → X → Message → Type 0) → (before after : X)
    → Found → (shown : Bool) → Type 0
ShowsFound sees before after (F.Message m) shown = (shown ≡ true) × sees before after m
ShowsFound sees before after F.Continue shown = (shown ≡ false) × (after ≡ before)
ShowsFound sees before after (F.Fault refusal head_only) shown = (shown ≡ false) × (after ≡ before)

-- the first item was found
abbrev pub first_found : Found → UsedBytes → Progress
first_found item used = First (record { item = item; used = used })

-- the first item was found, or isn't complete
abbrev pub IsReadTo : ℕ → Bool → List ℕ → Progress → Type 0
IsReadTo limit continued bytes (Searched n) = Waits limit (Open continued bytes)
IsReadTo limit continued bytes (Sized request) = Waits limit (Open continued bytes)
IsReadTo limit continued bytes (Chunked request) = Waits limit (Open continued bytes)
IsReadTo limit continued bytes (First first) = Unit {0}

-- the same bytes are kept, and the first item was read as far as they go: for lack of memory it isn't,
-- and a head is there to be copied
abbrev pub ReadsOn : (old : Unparsed) (bytes : List ℕ) (new : Unparsed) → Result Unit AllocError → Type 0
ReadsOn old bytes new result =
    KeepsBytes old.limit old.continued bytes new
    × MatchResult result (λ _. IsReadTo old.limit old.continued bytes new.progress)
    (λ _. BeginsWithHead bytes)

-- what stands first in the bytes, and what is kept then
abbrev pub FindsFirst : ℕ → Bool → List ℕ → Unparsed → Option Found → Type 0
FindsFirst limit continued bytes new (Some (F.Message m)) =
    (text : List ℕ) × (behind : List ℕ) × (bytes ≡ text ++ behind)
    × IsRequestText limit continued text m × (0 < length text) × KeepsBytes limit false behind new
FindsFirst limit continued bytes new (Some F.Continue) =
    BeginsWith (IsContinueText limit continued) bytes × KeepsBytes limit true bytes new
FindsFirst limit continued bytes new (Some (F.Fault refusal head_only)) =
    BeginsWith (λ text. IsFaultText limit continued text refusal head_only) bytes × (new.limit ≡ limit)
    × IsWorking new
FindsFirst limit continued bytes new None =
    Waits limit (Open continued bytes) × KeepsBytes limit continued bytes new

-- what is found over these bytes: for lack of memory nothing changes, and a head is there to be copied
abbrev pub FindsNext : (old : Unparsed) (bytes : List ℕ) (new : Unparsed)
    → Result (Option Found) AllocError → Type 0
FindsNext old bytes new result =
    MatchResult result (FindsFirst old.limit old.continued bytes new)
    (λ _. KeepsBytes old.limit old.continued bytes new × BeginsWithHead bytes)
