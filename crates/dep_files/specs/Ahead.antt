-- The files of an object that are read before a request lists them.
use Rattle.std.specs.Prelude.{◌≡◌, ◌<◌, ◌-◌, ◌+◌, ℕ, List, ◌++◌, length, take, Some, Result, IfOk, IfSome}
use Rattle.std.specs.List.{slice_get}
use Rattle.std.specs.Option.{option_map_or}
use Rattle.std.specs.FinMap as map
use Rattle.dep_types.specs.Maps.{Numbered}
use Rattle.dep_types.specs.State.{State, Object, File}
use Rattle.dep_types.specs.Rows.{sha512s_of}
use Rattle.dep_types.specs.declared.rows.FileRow.{FileRow}
use Rattle.dep_row_maps.specs.ReadLaws.{file_rows}
use Rattle.dep_types.specs.declared.store_fault.StoreFault.{StoreFault}
use Rattle.dep_files.specs.Held.{IsReadPart}
use Rattle.dep_files.specs.declared.ahead.ReadFiles.{ReadFiles}
use Rattle.dep_files.specs.declared.ahead.FilesAhead.{FilesAhead}

-- the number behind that of the last of these rows, and 0 where there is none
abbrev pub number_behind : List FileRow → ℕ
number_behind rows = option_map_or (λ row. row.file + 1) (slice_get rows (length rows - 1)) 0

-- of these files of an object they are the first, and so are their SHA-512 values
pub record AreFilesSoFar (n : ℕ) (files : Numbered File) (read : ReadFiles) : Type 0 where
  pub rows : read.rows.items ≡ take (length read.rows.items) (file_rows n files)
  pub sha512s : read.sha512s.items ≡ take (length read.sha512s.items) (sha512s_of files)

-- where they are, they are it still with what is read behind them
abbrev pub ReadsFilesOn : ℕ → Numbered File → ReadFiles → Result ReadFiles StoreFault → Type 0
ReadsFilesOn n files read result = AreFilesSoFar n files read → IfOk result (AreFilesSoFar n files)

-- of each state the files that were read are its own
abbrev pub AreFilesAhead : State → FilesAhead → Type 0
AreFilesAhead s ahead = IfSome ahead.held.read (IsReadPart (λ n o read. AreFilesSoFar n o.files read) s)

-- the object has in the second state the files that it had in the first, and behind these what was added
abbrev pub AddsFiles : (s t : State) → (n : ℕ) → Type 0
AddsFiles s t n = (before after : Object) → map.get s.objects n ≡ Some before
    → map.get t.objects n ≡ Some after
    → (added : List (ℕ × File)) × (map.entries after.files ≡ map.entries before.files ++ added)
