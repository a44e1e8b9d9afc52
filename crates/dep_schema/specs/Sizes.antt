-- What has to be known of a file before its content is sent.
use Rattle.std.specs.Prelude.{◌≡◌, ℕ, pos, List, [], ◌∷◌, codes, Option, option_map}
use Rattle.sqlite.specs.declared.types.Value.TheVariants.{Int}
use Rattle.sqlite_value.specs.Order.{Row, column}
use Rattle.dep_tables.specs.Rowids.{row_at}
use Rattle.dep_tables.specs.Rows.{HasKinds}
use Rattle.dep_tables.specs.Tables.{Tables}
use Rattle.dep_tables.specs.declared.columns.ColumnKind.TheVariants as kind
use Rattle.dep_schema.specs.declared.sizes.FileSize.{FileSize}

abbrev pub find_size_text : List ℕ
find_size_text = codes "SELECT object, size FROM files WHERE file = ?1"

abbrev pub size_values : FileSize → Row
size_values f = Int (pos f.object) ∷ Int (pos f.size) ∷ []

-- two numbers
abbrev pub IsSizeRow : Row → Type 0
IsSizeRow = HasKinds (kind.Number ∷ kind.Number ∷ [])

-- the object and the size of a stored row
abbrev pub shown_size : Row → Row
shown_size stored = column stored 2 ∷ column stored 5 ∷ []

-- what the tables keep of a file, if they have it
abbrev pub IsSizeOf : Tables → ℕ → Option FileSize → Type 0
IsSizeOf t file found = option_map size_values found ≡ option_map shown_size (row_at t.files file)
