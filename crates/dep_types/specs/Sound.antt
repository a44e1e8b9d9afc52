-- Which states are sound.
use Rattle.std.specs.Prelude.{◌≡◌, ◌≢◌, ℕ, ◌<◌, ◌≤◌, List, [], Some, None, length, IsTrue, IfSome}
use Rattle.std.specs.FinMap as map
use Rattle.std.specs.FinSet as set
use Rattle.dep_types.specs.State.{State, Object, File, Upload, file_at}
use Rattle.dep_types.specs.Limits.{greatest_moment, IsStorable}
use Rattle.dep_types.specs.Uploads.{sizes_agree, segment_length}
use Rattle.dep_types.specs.Names.{is_good_name, is_media, is_kept_name}

-- a number that was given: at least 1, and below the next
pub record IsGiven (next number : ℕ) : Type 0 where
  pub least : 1 ≤ number
  pub below : number < next

-- its number and its tag were given, and nobody deposited it after the clock
pub record IsSoundFile (s : State) (number : ℕ) (file : File) : Type 0 where
  pub number_given : IsGiven s.next.file number
  pub tag_given : IsGiven s.next.change file.tag
  pub past : file.deposited ≤ s.clock
  pub name : IsTrue (is_good_name file.name)
  pub media : IsTrue (is_media file.media)

-- its number and its tags were given, it was not changed after the clock, its files are sound
pub record IsSoundObject (s : State) (number : ℕ) (o : Object) : Type 0 where
  pub number_given : IsGiven s.next.object number
  pub tag_given : IsGiven s.next.change o.tag
  pub metadata_tag_given : IsGiven s.next.change o.metadata_tag
  pub files_tag_given : IsGiven s.next.change o.files_tag
  pub past : o.changed ≤ s.clock
  pub names : (name : List ℕ) (texts : List (List ℕ)) → map.get o.metadata name ≡ Some texts
      → IsTrue (is_kept_name name) × (texts ≢ [])
  pub files : (f : ℕ) (file : File) → map.get o.files f ≡ Some file → IsSoundFile s f file

-- its sizes agree, and each segment that was received has the length of its number
pub record IsSoundUpload (s : State) (number : ℕ) (u : Upload) : Type 0 where
  pub number_given : IsGiven s.next.upload number
  pub past : u.last ≤ s.clock
  pub counted : 1 ≤ u.count
  pub sizes : IsTrue (sizes_agree u.size u.count u.segment_size)
  pub promised_sha256 : IfSome u.sha256 (λ digest. length digest ≡ 32)
  pub promised_sha512 : IfSome u.sha512 (λ digest. length digest ≡ 64)
  pub segments : (k : ℕ) (bytes : List ℕ) → map.get u.segments k ≡ Some bytes
      → (1 ≤ k) × (k ≤ u.count) × (length bytes ≡ segment_length u k)

-- what each request and each tick keeps: all that is in the state is sound, a file is in one object
pub record IsSound (s : State) : Type 0 where
  pub clock : s.clock ≤ greatest_moment
  pub next_object : 1 ≤ s.next.object
  pub next_file : 1 ≤ s.next.file
  pub next_upload : 1 ≤ s.next.upload
  pub next_change : 1 ≤ s.next.change
  pub object_bound : IsStorable s.next.object
  pub file_bound : IsStorable s.next.file
  pub upload_bound : IsStorable s.next.upload
  pub change_bound : IsStorable s.next.change
  pub objects : (n : ℕ) (o : Object) → map.get s.objects n ≡ Some o → IsSoundObject s n o
  pub one_place : (n m f : ℕ) (a b : File) → file_at s n f ≡ Some a → file_at s m f ≡ Some b
      → n ≡ m
  pub uploads : (n : ℕ) (u : Upload) → map.get s.uploads n ≡ Some u → IsSoundUpload s n u
  pub timed_out : (n : ℕ) → IsTrue (set.contains s.timed_out n)
      → IsGiven s.next.upload n × (map.get s.uploads n ≡ None)
