-- A file that is made of an upload.
use Rattle.std.specs.Prelude.{◌≡◌, ℕ, ◌≤◌, List, Some, IsTrue}
use Rattle.std.specs.FinMap as map
use Rattle.dep_types.specs.State.{State, Object, File, Upload}
use Rattle.dep_types.specs.Uploads.{is_complete}
use Rattle.dep_row_maps.specs.Laws.{HasOneSize}

-- each of its segments was received, and no other, and all but the last have its segment size
pub record HasItsSegments (it : Upload) : Type 0 where
  pub complete : IsTrue (is_complete it)
  pub within : (k : ℕ) (bytes : List ℕ) → map.get it.segments k ≡ Some bytes → (1 ≤ k) × (k ≤ it.count)
  pub sized : HasOneSize it

-- the object has the file, and the upload is gone
abbrev pub deposited : State → (n : ℕ) → Object → (f : ℕ) → File → (u : ℕ) → State
deposited s n o f file u = record s {
  objects = map.insert s.objects n (record o { files = map.insert o.files f file });
  uploads = map.remove s.uploads u;
}
