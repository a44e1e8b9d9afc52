-- What is sound stays so once the clock and the counters have gone on.
use Rattle.std.proofs.Common.{ℕ, ◌≤◌, le_trans, lt_of_lt_of_le}
use Rattle.dep_types.specs.State.{State, Object, File, Upload}
use Rattle.dep_types.specs.Sound.{IsSoundObject, IsSoundFile, IsSoundUpload, IsGiven}

pub record Later (s t : State) : Type 0 where
  pub clock : s.clock ≤ t.clock
  pub object : s.next.object ≤ t.next.object
  pub file : s.next.file ≤ t.next.file
  pub upload : s.next.upload ≤ t.next.upload
  pub change : s.next.change ≤ t.next.change

pub given_later : (a b n : ℕ) → a ≤ b → IsGiven a n → IsGiven b n
given_later a b n h g = record { least = g.least; below = lt_of_lt_of_le g.below h }

module _ (s t : State) (later : Later s t) where
  pub file_later : (n : ℕ) (f : File) → IsSoundFile s n f → IsSoundFile t n f
  file_later n f h = record {
    number_given = given_later _ _ n later.file h.number_given;
    tag_given = given_later _ _ f.tag later.change h.tag_given;
    past = le_trans h.past later.clock;
    name = h.name;
    media = h.media;
  }

  pub object_later : (n : ℕ) (o : Object) → IsSoundObject s n o → IsSoundObject t n o
  object_later n o h = record {
    number_given = given_later _ _ n later.object h.number_given;
    tag_given = given_later _ _ o.tag later.change h.tag_given;
    metadata_tag_given = given_later _ _ o.metadata_tag later.change h.metadata_tag_given;
    files_tag_given = given_later _ _ o.files_tag later.change h.files_tag_given;
    past = le_trans h.past later.clock;
    names = h.names;
    files = λ f file e. file_later f file (h.files f file e);
  }

  pub upload_later : (n : ℕ) (u : Upload) → IsSoundUpload s n u → IsSoundUpload t n u
  upload_later n u h = record {
    number_given = given_later _ _ n later.upload h.number_given;
    past = le_trans h.past later.clock;
    counted = h.counted;
    sizes = h.sizes;
    promised_sha256 = h.promised_sha256;
    promised_sha512 = h.promised_sha512;
    segments = h.segments;
  }
