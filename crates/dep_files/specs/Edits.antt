-- What is made of the files of an object.
use Rattle.std.specs.Prelude.{◌≡◌, ℕ, List, Some}
use Rattle.std.specs.FinMap as map
use Rattle.sha2.specs.Sha512.{sha512}
use Rattle.sqlite_trees.specs.Tree.{put_row}
use Rattle.dep_types.specs.State.{State, Object, File}
use Rattle.dep_types.specs.Rows.{file_row}
use Rattle.dep_types.specs.declared.rows.FileRow.{FileRow}
use Rattle.dep_tables.specs.Rowids.{put_next}
use Rattle.dep_tables.specs.Rows.{sha512_values, stored_file}
use Rattle.dep_tables.specs.Tables.{Tables}
use Rattle.dep_tables.specs.declared.owner.BlockOwner.TheVariants as owner
use Rattle.dep_row_maps.specs.Stored.{blocks_of, put_blocks}
use Rattle.dep_row_maps.specs.TablesAre.{with_object}

-- the part that a content has that came whole
abbrev pub only_part : ℕ
only_part = 1

-- the state with a file put in its object under its number, in the place of one that was there
abbrev pub with_file : State → (n : ℕ) → Object → (f : ℕ) → File → State
with_file s n o f file = with_object s n (record o { files = map.insert o.files f file })

-- the state without the file of this number in its object
abbrev pub without_file : State → (n : ℕ) → Object → (f : ℕ) → State
without_file s n o f = with_object s n (record o { files = map.remove o.files f })

-- the state without any file in the object, which stays
abbrev pub without_files : State → (n : ℕ) → Object → State
without_files s n o = with_object s n (record o { files = map.empty })

-- a file's row is put in, its content in blocks of the only part, and its SHA-512
abbrev pub with_whole_file : FileRow → (value content : List ℕ) → Tables → Tables
with_whole_file row value content t = record t {
  files = put_row (stored_file row) t.files;
  blocks = put_blocks (owner.File row.file) only_part 0 (blocks_of content) t.blocks;
  sha512s = put_next (sha512_values (owner.File row.file) value) t.sha512s;
}

-- where the row, the SHA-512 and the content are those of a file, the state with it in the object of
-- the row is so
abbrev pub PutsFile : FileRow → (value content : List ℕ) → State → (becomes : State → Type 0)
    → Type 0
PutsFile row value content s becomes = (o : Object) (file : File)
    → map.get s.objects row.object ≡ Some o → row ≡ file_row row.object row.file file
    → value ≡ sha512 file.content → content ≡ file.content
    → becomes (with_file s row.object o row.file file)

-- where an object has a file of this number, the state without it is so
abbrev pub DropsFile : (f : ℕ) → State → (becomes : State → Type 0) → Type 0
DropsFile f s becomes = (n : ℕ) (o : Object) (it : File) → map.get s.objects n ≡ Some o
    → map.get o.files f ≡ Some it → becomes (without_file s n o f)
