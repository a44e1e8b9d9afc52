-- The tables of a new store, alone and beside those of others.
use Rattle.std.specs.Prelude.{◌≡◌, [], ◌∷◌}
use Rattle.dep_migrations.specs.Beside.{AreFree, with_ours}
use Rattle.dep_tables.specs.Adding.{HasCounters}
use Rattle.dep_tables.specs.Rows.{stored_format}
use Rattle.dep_tables.specs.Schema.{our_schema}
use Rattle.dep_tables.specs.Tables.{Tables, tables_of, IsOf, tables_from}
use Rattle.dep_tables.specs.Versions.{our_version}
use Rattle.dep_tables.specs.declared.state.StateRow.{StateRow}
use Rattle.sqlite.specs.Effect.{Database}
use Rattle.sqlite.specs.Schema.{Schema}
use Rattle.sqlite.specs.State.{State}
use Rattle.sqlite.specs.Tree.{Trees}
use Rattle.sqlite_catalog.specs.Change.{next_tree, KeepsRows}
use Rattle.sqlite_catalog.specs.Listing.{IsSound}
use Rattle.dep_row_maps.specs.Laws as laws

-- the schema of a database with no table at all
abbrev pub no_schema : Schema
no_schema = record { tables = []; indexes = []; views = [] }

-- the connection sees this schema and these tables
pub record SeesOf (its : Schema) (s : State) (tables : Tables) : Type 0 where
  pub ours : IsOf its s
  pub rows : tables_of s ≡ tables

-- the connection sees these tables, in the schema of our version
abbrev pub SeesTables : State → Tables → Type 0
SeesTables = SeesOf our_schema

abbrev pub first_state : StateRow
first_state = record { clock = 0; next = record { object = 1; file = 1; upload = 1; change = 1 } }

-- the tables of a new store
abbrev pub new_store_tables : Tables
new_store_tables = laws.first_tables (stored_format our_version ∷ [])

-- what a database becomes in which our first tables are made
pub record IsBeside (old : Database) (trees : Trees) : Type 0 where
  pub sound : IsSound (with_ours old.schema) trees
  pub rows : tables_from (next_tree old.schema) trees ≡ new_store_tables
  pub others : KeepsRows old.schema.tables old.trees trees

-- Our first tables are made, and our names were free.
pub record GainsOurs (old new : Database) : Type 0 where
  pub free : AreFree old.schema
  pub made : HasCounters old.schema → (new.schema ≡ with_ours old.schema) × IsBeside old new.trees
