-- What the rules look up in an archive: a state gives it, and so does what was read of the tables. What represents an
-- upload is of any type.
use Rattle.std.specs.Prelude.{ℕ, Bool, false, List, [], is_some, Option, None, Some, bytes_eq, option_map, if◌then◌else◌}
use Rattle.std.specs.List.{filter_map, list_any}
use Rattle.std.specs.Option.{option_map_or}
use Rattle.std.specs.FinMap as finmap
use Rattle.std.specs.FinSet as set
use Rattle.dep_types.specs.State as state
use Rattle.dep_types.specs.State.{State, file_at}
use Rattle.dep_types.specs.Uploads.{is_complete, assembled, segment_length}
use Rattle.dep_types.specs.BagPaths.{bag_paths}
use Rattle.dep_types.specs.declared.config.Config.{Config}
use Rattle.dep_types.specs.declared.counters.Counters.{Counters}
use Rattle.dep_types.specs.declared.target.Resource.{Resource}
use Rattle.dep_types.specs.declared.target.Resource.TheVariants.{Object, Metadata, FileSet, File}
use Rattle.dep_fixity.specs.Fixity.{digests_of}
use Rattle.dep_fixity.specs.declared.field.DigestList.{DigestList}
use Rattle.dep_fixity.specs.declared.hasher.Digests.{Digests}
use Rattle.dep_docs_in.specs.declared.reference.Reference.{Reference}
use Rattle.dep_decisions.specs.Decisions.{references_in, upload_number}
use Rattle.dep_decisions.specs.declared.operation.Operation.{Operation}

-- an entry of a document of references, with what is at the number of its upload
pub record Entry (U : Type 0) : Type 0 where
  pub reference : Reference
  pub upload : Option U
  pub timed_out : Bool

-- what is known of an upload that is there
pub record KnownUpload (U : Type 0) : Type 0 where
  pub size : U → ℕ
  pub count : U → ℕ
  pub segment_length : U → (segment : ℕ) → ℕ
  pub promised : U → DigestList
  pub is_whole : U → Bool
  pub digests : U → Option Digests

pub record LookUps (U : Type 0) : Type 0 where
  pub next : Counters
  pub has_object : ℕ → Bool
  pub has_file : (object file : ℕ) → Bool
  pub has_path : (object : ℕ) → (path : List ℕ) → Bool
  pub tag : Resource → Option ℕ
  pub upload : ℕ → Option U
  pub timed_out : ℕ → Bool
  pub references : Config → Operation → Option (List Reference)
  pub entries : List Reference → List (Entry U)
  pub known : KnownUpload U
  pub repeats : U → (segment : ℕ) → (bytes : List ℕ) → Option Bool

-- ---- a state

-- whether an object has this number
abbrev pub has_object : State → ℕ → Bool
has_object s n = finmap.contains_key s.objects n

-- a path of an object's bag is compared whole
abbrev pub has_bag_path : State → ℕ → (path : List ℕ) → Bool
has_bag_path s n path =
    option_map_or (λ o. list_any (bytes_eq path) (bag_paths o)) (finmap.get s.objects n) false

-- the tag that If-Match is held against, where the resource has one
abbrev pub tag_at : State → Resource → Option ℕ
tag_at s (Object n) = option_map (λ o. o.tag) (finmap.get s.objects n)
tag_at s (Metadata n) = option_map (λ o. o.metadata_tag) (finmap.get s.objects n)
tag_at s (FileSet n) = option_map (λ o. o.files_tag) (finmap.get s.objects n)
tag_at s (File n f) = option_map (λ file. file.tag) (file_at s n f)
tag_at s _ = None

-- what was promised of an upload at its opening
abbrev pub promised_of : state.Upload → DigestList
promised_of u = record { sha256 = u.sha256; sha512 = u.sha512 }

-- the digests of an upload's bytes, where none is missing
abbrev pub assembled_digests : state.Upload → Option Digests
assembled_digests u = if is_complete u then Some (digests_of (assembled u)) else None

-- whether a segment of this number was received, and whether it has these bytes
abbrev pub repeats : state.Upload → (segment : ℕ) → (bytes : List ℕ) → Option Bool
repeats u k bytes = option_map (λ stored. bytes_eq stored bytes) (finmap.get u.segments k)

abbrev pub entry_at : State → Reference → (upload : ℕ) → Entry state.Upload
entry_at s r u = record {
  reference = r;
  upload = finmap.get s.uploads u;
  timed_out = set.contains s.timed_out u;
}

abbrev pub known_of : KnownUpload state.Upload
known_of = record {
  size = λ u. u.size;
  count = λ u. u.count;
  segment_length = segment_length;
  promised = promised_of;
  is_whole = is_complete;
  digests = assembled_digests;
}

-- what the rules look up, in this state
abbrev pub in_state : State → LookUps state.Upload
in_state s = record {
  next = s.next;
  has_object = has_object s;
  has_file = λ n f. is_some (file_at s n f);
  has_path = has_bag_path s;
  tag = tag_at s;
  upload = λ u. finmap.get s.uploads u;
  timed_out = λ u. set.contains s.timed_out u;
  references = references_in;
  entries = λ refs. filter_map (λ r. option_map (entry_at s r) (upload_number r.target)) refs;
  known = known_of;
  repeats = repeats;
}

-- ---- before any digest of an upload is known

-- the same look-ups, of which none has the digests of an upload
abbrev pub without_digests : {U : Type 0} → LookUps U → LookUps U
without_digests l = record l { known = record l.known { digests = λ u. None } }

-- ---- before any upload that references name is looked up

-- the same look-ups, of which none finds what an entry points at
abbrev pub without_entries : {U : Type 0} → LookUps U → LookUps U
without_entries l = record l { entries = λ refs. [] }
