-- An object from its row, its metadata and its files.
use Rattle.std.specs.Prelude.{◌≡◌, ℕ, Some, option_map}
use Rattle.std.specs.FinMap as map
use Rattle.dep_types.specs.Maps.{Numbered}
use Rattle.dep_types.specs.State.{State, Object, File, Texts}
use Rattle.dep_types.specs.Rows.{object_row}
use Rattle.dep_types.specs.declared.rows.ObjectRow.{ObjectRow}
use Rattle.dep_row_maps.specs.TablesAre.{with_object}
use Rattle.dep_objects.specs.declared.objects.DescribedObject.{DescribedObject}

-- the object of a row, with these metadata and these files
abbrev pub object_of : ObjectRow → Texts → Numbered File → Object
object_of row texts files = record {
  ingested = row.ingested;
  metadata = texts;
  files = files;
  tag = row.object_tag;
  metadata_tag = row.metadata_tag;
  files_tag = row.files_tag;
  changed = row.changed;
}

-- the object of this number, without its files
abbrev pub described_object : ℕ → Object → DescribedObject
described_object n o = record { row = object_row n o; metadata = o.metadata }

-- the object of this number is there, and is the one that is described
abbrev pub IsDescribed : State → ℕ → DescribedObject → Type 0
IsDescribed s n found = Some found ≡ option_map (described_object n) (map.get s.objects n)

-- in place of an object's row, this one makes of it this object, with the metadata and files it had
pub record Rewrites (s : State) (row : ObjectRow) (o : Object) : Type 0 where
  pub was : Object
  pub there : map.get s.objects row.object ≡ Some was
  pub is_row : row ≡ object_row row.object o
  pub metadata : o.metadata ≡ was.metadata
  pub files : o.files ≡ was.files

-- the state with such an object in its place is so
abbrev pub PutsRow : ObjectRow → State → (becomes : State → Type 0) → Type 0
PutsRow row s becomes = (o : Object) → Rewrites s row o → becomes (with_object s row.object o)
