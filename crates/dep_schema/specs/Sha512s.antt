-- The SHA-512 of the bytes that stand in the tables, file after file.
use Rattle.std.specs.Prelude.{◌≡◌, ◌⊎◌, ℕ, pos, List, codes, Option, IfSome, find, option_map}
use Rattle.std.specs.List.{AllByRecursion, Contains}
use Rattle.sqlite.specs.Order.{Row}
use Rattle.sqlite.specs.declared.types.Value.TheVariants.{Int}
use Rattle.sqlite_trees.specs.Tree.{rowid}
use Rattle.dep_fixity.specs.declared.hasher.Digests.{Digests}
use Rattle.dep_row_maps.specs.Sha512s.{AreNumbered}
use Rattle.dep_tables.specs.Rowids.{is_after}
use Rattle.dep_schema.specs.Fixity.{AreDigestsOf}
use Rattle.dep_tables.specs.Tables.{Tables}
use Rattle.dep_tables.specs.declared.owner.BlockOwner.TheVariants as owner
use Rattle.dep_tables.specs.declared.sha512s.FileSha512.{FileSha512}

abbrev pub next_file_text : List ℕ
next_file_text = codes "SELECT file FROM files WHERE file > ?1 ORDER BY file LIMIT 1"

-- the least number of a file above this one
abbrev pub IsFileAfter : Tables → ℕ → Option ℕ → Type 0
IsFileAfter t after found =
    option_map (λ n. Int (pos n)) found ≡ option_map rowid (find (is_after after) t.files)

-- it is the SHA-512 of the file's blocks
abbrev pub IsSha512OfFile : Tables → FileSha512 → Type 0
IsSha512OfFile t v =
    (digests : Digests) × AreDigestsOf t (owner.File v.file) digests × (v.value ≡ digests.sha512)

-- the next file behind a number, with its value
abbrev pub IsValueAfter : Tables → ℕ → Option FileSha512 → Type 0
IsValueAfter t after found =
    IsFileAfter t after (option_map (λ v. v.file) found) × IfSome found (IsSha512OfFile t)

-- each file with a number above 0 has its value, in the order of their numbers
pub record AreValuesOf (t : Tables) (values : List FileSha512) : Type 0 where
  pub numbered : AreNumbered t values
  pub each : AllByRecursion (IsSha512OfFile t) values

-- it is 0, or the number of a file
abbrev pub IsReached : Tables → ℕ → Type 0
IsReached t after =
    (after ≡ 0) ⊎ ((row : Row) × Contains t.files row × (rowid row ≡ Int (pos after)))
