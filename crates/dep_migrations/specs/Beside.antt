-- Our tables and indexes made in a database that has tables of others.
use Rattle.std.specs.Prelude.{◌≡◌, ◌+◌, ℕ, false, List, Some, None, codes, slice_get}
use Rattle.sqlite.specs.Schema.{Schema}
use Rattle.sqlite.specs.Table.{Table}
use Rattle.sqlite.specs.Effect.{Database}
use Rattle.sqlite_schema.specs.declared.schema.Index.{Index}
use Rattle.sqlite_schema.specs.Names.{table_named, view_named}
use Rattle.sqlite_catalog.specs.Change.{next_tree, indexed, is_used}
use Rattle.dep_tables.specs.Adding.{AreFreeFor, created_all}
use Rattle.dep_tables.specs.Indexes.{Indexes}
use Rattle.dep_tables.specs.Schema.{our_tables, sha512s_table, files_table, files_index, uploads_table, uploads_index}

-- no table and no view is named `format`
pub record LacksFormat (schema : Schema) : Type 0 where
  pub table : table_named schema (codes "format") ≡ None
  pub view : view_named schema (codes "format") ≡ None

-- no table, index or view has one of our names
pub record AreFree (schema : Schema) : Type 0 where
  pub tables : AreFreeFor our_tables schema
  pub files_index : is_used schema files_index.name ≡ false
  pub uploads_index : is_used schema uploads_index.name ≡ false

-- the same of the names that version 2 has beside those of version 1
pub record AreNewNamesFree (schema : Schema) : Type 0 where
  pub table : is_used schema sha512s_table.name ≡ false
  pub files_index : is_used schema files_index.name ≡ false
  pub uploads_index : is_used schema uploads_index.name ≡ false

abbrev pub with_tables : Schema → Schema
with_tables = created_all our_tables

-- the index of the files behind them, and then that of the uploads
abbrev pub with_files_index : Schema → Schema
with_files_index schema =
    indexed (with_tables schema) (record files_table { tree = next_tree schema + 5 }) files_index

abbrev pub with_ours : Schema → Schema
with_ours schema =
    indexed (with_files_index schema) (record uploads_table { tree = next_tree schema + 6 }) uploads_index

-- The name of an index was free, and each name that is free now was. The index is made where the table is of ours.
pub record AddsIndex (table : Table) (index : Index) (old new : Database) : Type 0 where
  pub free : is_used old.schema index.name ≡ false
  pub keeps : (name : List ℕ) → is_used new.schema name ≡ false → is_used old.schema name ≡ false
  pub made : (at tree : ℕ) → table_named old.schema table.name ≡ Some at
      → slice_get old.schema.tables at ≡ Some (record table { tree = tree })
      → Indexes (record table { tree = tree }) index old new

-- both are added, one after the other
abbrev pub AddsIndexes : Database → Database → Type 0
AddsIndexes old new = (mid : Database) × AddsIndex files_table files_index old mid
    × AddsIndex uploads_table uploads_index mid new
