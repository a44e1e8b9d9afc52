-- Words of the laws.
use Rattle.std.specs.Prelude.{◌≡◌, ◌⊎◌, ℕ, ◌+◌, ◌==◌, ◌<◌, ◌≤◌, ◌&&◌, Bool, true, false, List, [], ◌∷◌, length, slice_get, Option, Some, None, IsTrue}
use Rattle.std.specs.Option.{option_map_or}
use Rattle.std.specs.FinMap as map
use Rattle.dep_types.specs.Maps.{first_of}
use Rattle.dep_types.specs.State.{State, Object, File, Upload, file_at}
use Rattle.dep_types.specs.Uploads.{assembled, segment_length}
use Rattle.dep_types.specs.declared.config.Config.{Config}
use Rattle.dep_types.specs.declared.refusal.Refusal.{Refusal}
use Rattle.dep_types.specs.declared.refusal.Refusal.TheVariants.{BadRequest}
use Rattle.dep_types.specs.declared.target.Resource.{Resource}
use Rattle.dep_types.specs.declared.target.Resource.TheVariants.{Object as AnObject, FileSet as AFileSet, File as AFile, Upload as AnUpload}
use Rattle.dep_types.specs.declared.target.Method.{Method}
use Rattle.dep_types.specs.declared.target.Method.TheVariants.{Post, Put, Delete}
use Rattle.dep_types.specs.declared.target.Target.{Target}
use Rattle.dep_fields.specs.declared.kind.Kind.TheVariants.{Segment}
use Rattle.dep_fixity.specs.Fixity.{digests_of, keeps}
use Rattle.dep_docs_in.specs.declared.reference.Reference.{Reference}
use Rattle.dep_docs_in.specs.declared.reference.Pointed.TheVariants.{Upload as Pointing}
use Rattle.dep_decisions.specs.Kinds.{content_kind}
use Rattle.dep_decisions.specs.Decisions.{references_in}
use Rattle.dep_decisions.specs.LookUps.{LookUps, promised_of}
use Rattle.dep_decisions.specs.Rules.{access_refusal, content_refusal, each, has_length, refusal, unless, upload_refusal}
use Rattle.dep_decisions.specs.Effects.{effect}
use Rattle.dep_decisions.specs.declared.operation.Operation.{Operation}

-- ---- numbers

-- a number that was next, or behind the next, and has been given since
pub record IsNew (next after number : ℕ) : Type 0 where
  pub from : next ≤ number
  pub below : number < after

-- what stands at a number stood there before, or its number is new; and what is changed has a new
-- tag
pub record AreGivenOnce (s t : State) : Type 0 where
  pub objects : (n : ℕ) (o : Object) → map.get t.objects n ≡ Some o
      → ((old : Object) × (map.get s.objects n ≡ Some old)) ⊎ IsNew s.next.object t.next.object n
  pub files : (n f : ℕ) (file : File) → file_at t n f ≡ Some file
      → ((old : File) × (file_at s n f ≡ Some old)) ⊎ IsNew s.next.file t.next.file f
  pub uploads : (n : ℕ) (u : Upload) → map.get t.uploads n ≡ Some u
      → ((old : Upload) × (map.get s.uploads n ≡ Some old)) ⊎ IsNew s.next.upload t.next.upload n
  pub tags : (n : ℕ) (o : Object) → map.get t.objects n ≡ Some o
      → (map.get s.objects n ≡ Some o)
      ⊎ ((o.tag ≡ s.next.change) × IsNew s.next.change t.next.change o.tag)

-- an object whose tag was given before was there before, as it is
pub record KeepsObjects (s t : State) : Type 0 where
  pub next : s.next.change ≤ t.next.change
  pub objects : (n : ℕ) (after : Object) → map.get t.objects n ≡ Some after
      → after.tag < s.next.change → map.get s.objects n ≡ Some after

-- ---- objects that are ingested

-- each object that was ingested is so still, if it is there
abbrev pub KeepsIngested : (s t : State) → Type 0
KeepsIngested s t = (n : ℕ) (o now : Object) → map.get s.objects n ≡ Some o → o.ingested ≡ true
    → map.get t.objects n ≡ Some now → now.ingested ≡ true

-- ---- requests that read alone

-- the same is asked for, on the same one's behalf
pub record AskAlike (op other : Operation) : Type 0 where
  pub target : op.target ≡ other.target
  pub behalf : op.fields.on_behalf_of ≡ other.fields.on_behalf_of

-- both are refused alike, and make the same of the archive
pub record EndAlike (config : Config) (s : State) (op other : Operation) : Type 0 where
  pub refusal : refusal config s op ≡ refusal config s other
  pub effect : effect config s op ≡ effect config s other

-- ---- requests that are refused before the digests of an upload are known

-- the first of rules 5 to 14 that applies
abbrev pub refusal_before_room : {U : Type 0} → Config → LookUps U → Operation → Option Refusal
refusal_before_room config l op =
    first_of (access_refusal config l op ∷ content_refusal config l op ∷ [])

-- ---- deposits by reference that are refused by what is there of their uploads

-- a segment of the upload is missing, where it is there
abbrev pub segments_refusal : {U : Type 0} → LookUps U → ℕ → Option Refusal
segments_refusal l u = unless (option_map_or l.known.is_whole (l.upload u) true) BadRequest

-- the first of these uploads that isn't there, or else one that lacks a segment
abbrev pub uploads_refusal : {U : Type 0} → LookUps U → List ℕ → Option Refusal
uploads_refusal l us = first_of (each (upload_refusal l) us ∷ each (segments_refusal l) us ∷ [])

-- ---- files that are replaced or deleted

abbrev pub puts_or_deletes : Method → Bool
puts_or_deletes Put = true
puts_or_deletes Delete = true
puts_or_deletes method = false

-- the file itself, the files of its object, and the object
abbrev pub has_file_in : (object file : ℕ) → Resource → Bool
has_file_in n f (AnObject m) = m == n
has_file_in n f (AFileSet m) = m == n
has_file_in n f (AFile m g) = (m == n) && (g == f)
has_file_in n f resource = false

-- what is asked for replaces the file or deletes it
abbrev pub takes_file : (object file : ℕ) → Target → Bool
takes_file n f t = puts_or_deletes t.method && has_file_in n f t.resource

-- ---- segments

-- a POST to the upload
abbrev pub posted_to : (upload : ℕ) → Target
posted_to u = record { resource = AnUpload u; method = Post }

-- the request sends this segment of an upload, which is there
pub record SendsSegment (s : State) (op : Operation) (number segment : ℕ) (upload : Upload)
    : Type 0 where
  pub target : op.target ≡ posted_to number
  pub kind : content_kind op ≡ Some (Segment segment)
  pub there : map.get s.uploads number ≡ Some upload

-- this holds of each request that sends a segment of an upload that is there
abbrev pub OfSegments : (Config → State → Operation → (u k : ℕ) → Upload → Type 0) → Type 0
OfSegments Law = (config : Config) (s : State) (op : Operation) (u k : ℕ) (upload : Upload)
    → SendsSegment s op u k upload → Law config s op u k upload

-- the number is one of the upload's, and the bytes are as many as the segment of this number has
abbrev pub FitsUpload : Upload → (k : ℕ) → (bytes : List ℕ) → Type 0
FitsUpload upload k bytes =
    (1 ≤ k) × (k ≤ upload.count) × (length bytes ≡ segment_length upload k)

-- each segment that was received stands there with the same bytes
abbrev pub HoldsSegments : (before after : Upload) → Type 0
HoldsSegments before after =
    (k : ℕ) (bytes : List ℕ) → map.get before.segments k ≡ Some bytes
    → map.get after.segments k ≡ Some bytes

-- an upload whose number was given before was there before, and holds each segment that it had then
pub record KeepsSegments (s t : State) : Type 0 where
  pub next : s.next.upload ≤ t.next.upload
  pub segments : (n : ℕ) (after : Upload) → map.get t.uploads n ≡ Some after → n < s.next.upload
      → (before : Upload) × (map.get s.uploads n ≡ Some before) × HoldsSegments before after

-- ---- deposits by reference

-- the object that takes what is deposited there
abbrev pub deposited_object : State → Resource → ℕ
deposited_object s (AnObject n) = n
deposited_object s (AFileSet n) = n
deposited_object s resource = s.next.object

-- the file is the upload that the entry points at, joined by number, with the size that it was opened with,
-- each digest that was promised at its opening and each that the entry promises, and the upload is gone
pub record IsDepositedFrom (s t : State) (r : Reference) (file : File) : Type 0 where
  pub upload : ℕ
  pub target : r.target ≡ Pointing upload
  pub was : Upload
  pub there : map.get s.uploads upload ≡ Some was
  pub content : file.content ≡ assembled was
  pub size : length file.content ≡ was.size
  pub said : IsTrue (has_length r.length was.size)
  pub promised : IsTrue (keeps (promised_of was) (digests_of file.content))
  pub digest : IsTrue (keeps r.digest (digests_of file.content))
  pub name : file.name ≡ r.name
  pub media : file.media ≡ r.media
  pub by_reference : file.by_reference ≡ true
  pub gone : map.get t.uploads upload ≡ None

-- of each entry that a request's document lists, its file is there, under the next numbers in order
abbrev pub AreDeposited : Config → Operation → (s t : State) → Type 0
AreDeposited config op s t = (refs : List Reference) → references_in config op ≡ Some refs
    → (i : ℕ) (r : Reference) → slice_get refs i ≡ Some r
    → (file : File)
    × (file_at t (deposited_object s op.target.resource) (s.next.file + i) ≡ Some file)
    × IsDepositedFrom s t r file
