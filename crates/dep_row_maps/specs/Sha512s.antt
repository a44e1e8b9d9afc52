-- How tables of version 1 gain the SHA-512 of each file.
use Rattle.std.specs.Prelude.{◌≡◌, ℕ, pos, List, [], map as each, filter, Some}
use Rattle.std.specs.List.{AllByRecursion}
use Rattle.std.specs.FinMap as map
use Rattle.sha2.specs.Sha512.{sha512}
use Rattle.sqlite_value.specs.Order.{Row}
use Rattle.sqlite_value.specs.declared.value.Value.TheVariants.{Int}
use Rattle.sqlite_trees.specs.Tree.{rowid}
use Rattle.dep_types.specs.Maps.{Numbered}
use Rattle.dep_types.specs.Sound.{IsSound}
use Rattle.dep_types.specs.State.{State, Object, File}
use Rattle.dep_tables.specs.Rowids.{IsOrdered, replaced, is_after}
use Rattle.dep_tables.specs.Rows.{stored_format, sha512_values}
use Rattle.dep_tables.specs.Tables.{Tables}
use Rattle.dep_tables.specs.Versions.{our_version}
use Rattle.dep_tables.specs.declared.owner.BlockOwner.TheVariants as owner
use Rattle.dep_tables.specs.declared.sha512s.FileSha512.{FileSha512}
use Rattle.dep_row_maps.specs.Owned.{put_each}
use Rattle.dep_row_maps.specs.TablesAre.{TablesAre, OlderTablesAre, files_at}

-- the values of files, as rows of `sha512s`
abbrev pub value_rows : List FileSha512 → List Row
value_rows values = each (λ v. sha512_values (owner.File v.file) v.value) values

-- version 2, with these values and no other
abbrev pub upgraded : List FileSha512 → Tables → Tables
upgraded values t = record t {
  format = replaced (stored_format our_version) t.format;
  sha512s = put_each (value_rows values) [];
}

-- each row of `files` whose number is above 0 has a value, in the order of their numbers
abbrev pub AreNumbered : Tables → List FileSha512 → Type 0
AreNumbered t values =
    each (λ v. Int (pos v.file)) values ≡ each rowid (filter (is_after 0) t.files)

-- each is that of the content of the file of its number
abbrev pub AreOfContents : Numbered Object → List FileSha512 → Type 0
AreOfContents objects = AllByRecursion (λ v. (n : ℕ) (file : File)
    → map.get (files_at objects n) v.file ≡ Some file → v.value ≡ sha512 file.content)

-- the tables of version 1 that are a sound state's are it also with these values
abbrev pub TablesUpgraded : Type 0
TablesUpgraded = (t : Tables) (s : State) → OlderTablesAre t s → IsSound s → IsOrdered t.files
    → (values : List FileSha512) → AreNumbered t values → AreOfContents s.objects values
    → TablesAre (upgraded values t) s
