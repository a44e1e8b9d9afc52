-- What the archive keeps, and what the clock does to it.
use Rattle.std.specs.Prelude.{ℕ, ◌-◌, min, max, nat_lt, Bool, false, not, List, Option, option_and_then}
use Rattle.std.specs.Option.{option_map_or}
use Rattle.std.specs.FinMap as map
use Rattle.std.specs.FinSet as set
use Rattle.dep_types.specs.Limits.{greatest_moment}
use Rattle.dep_types.specs.Maps.{Numbered, Named, Numbers}
use Rattle.dep_types.specs.declared.counters.Counters.{Counters}
use Rattle.dep_types.specs.declared.config.Config.{Config}

-- under each name its texts
abbrev pub Texts : Type 0
Texts = Named (List (List ℕ))

-- a file of an object: bytes with their name and media type; moments are in seconds of Unix time
pub record File : Type 0 where
  pub name : List ℕ
  pub media : List ℕ
  pub content : List ℕ
  pub tag : ℕ
  pub deposited : ℕ
  pub behalf : Option (List ℕ)
  pub by_reference : Bool

-- an object with its metadata and its files, a tag for each, and the moment of its last change
pub record Object : Type 0 where
  pub ingested : Bool
  pub metadata : Texts
  pub files : Numbered File
  pub tag : ℕ
  pub metadata_tag : ℕ
  pub files_tag : ℕ
  pub changed : ℕ

-- a staged upload: the sizes that it was opened with, what digests were promised, what was received
pub record Upload : Type 0 where
  pub size : ℕ
  pub count : ℕ
  pub segment_size : ℕ
  pub sha256 : Option (List ℕ)
  pub sha512 : Option (List ℕ)
  pub last : ℕ
  pub segments : Numbered (List ℕ)

-- the clock, the next numbers, objects, staged uploads, and the numbers of those that timed out
pub record State : Type 0 where
  pub clock : ℕ
  pub next : Counters
  pub objects : Numbered Object
  pub uploads : Numbered Upload
  pub timed_out : Numbers

-- what a new store keeps
abbrev pub empty_state : State
empty_state = record {
  clock = 0;
  next = record { object = 1; file = 1; upload = 1; change = 1 };
  objects = map.empty;
  uploads = map.empty;
  timed_out = set.empty;
}

-- a file of an object
abbrev pub file_at : State → ℕ → ℕ → Option File
file_at s n f = option_and_then (λ o. map.get o.files f) (map.get s.objects n)

-- the state with an upload at this number
abbrev pub with_upload : State → ℕ → Upload → State
with_upload s u it = record s { uploads = map.insert s.uploads u it }

-- the upload was left alone for longer than is allowed
abbrev pub is_idle : Config → ℕ → Upload → Bool
is_idle config clock u = nat_lt config.staging_max_idle (clock - u.last)

-- whether there is such an upload, and it is idle
abbrev pub expires : Config → ℕ → Numbered Upload → ℕ → Bool
expires config clock uploads u = option_map_or (is_idle config clock) (map.get uploads u) false

-- the uploads that the tick drops
abbrev pub expired : Config → ℕ → Numbered Upload → Numbered Upload
expired config clock uploads = map.retain_keys uploads (expires config clock uploads)

-- the uploads that the tick leaves
abbrev pub unexpired : Config → ℕ → Numbered Upload → Numbered Upload
unexpired config clock uploads = map.retain_keys uploads (λ u. not (expires config clock uploads u))

-- the clock at a moment
abbrev pub clock_at : State → ℕ → ℕ
clock_at s moment = max s.clock (min moment greatest_moment)

-- the clock goes to the moment and never back; uploads left idle go, and their numbers are
-- remembered
abbrev pub tick : Config → State → ℕ → State
tick config s moment = record s {
  clock = clock_at s moment;
  uploads = unexpired config (clock_at s moment) s.uploads;
  timed_out = set.union s.timed_out
      (set.from_list (map.keys (expired config (clock_at s moment) s.uploads)));
}
