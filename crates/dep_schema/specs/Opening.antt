-- What the tables are once a database was opened, or was not.
use Rattle.std.specs.Prelude.{◌≡◌, ℕ, IsTrue}
use Rattle.sqlite.specs.Schema.{Schema}
use Rattle.sqlite.specs.State.{State, HasCleanDisk, Survives}
use Rattle.sqlite.specs.Held.{Held, state}
use Rattle.sqlite_trees.specs.declared.store.Store.{Ghosts}
use Rattle.dep_tables.specs.Adding.{HasCounters}
use Rattle.dep_tables.specs.Tables.{Tables, tables_of, IsOf, IsKnownSchema}
use Rattle.dep_tables.specs.Versions.{our_version, older_version, HasVersion}
use Rattle.dep_migrations.specs.Beside.{LacksFormat, AreFree}
use Rattle.dep_migrations.specs.FirstTables.{no_schema, new_store_tables}
use Rattle.dep_transactions.specs.OpenTables.{HoldsOf, StaysFile, IsOpenWithOf}
use Rattle.dep_schema.specs.Openable.{HoldsNone, IsOpenBeside, SeesTheSame, CommitsOpen}
use Rattle.dep_schema.specs.OpenFaults.{ShowsOrMakes, FailsToOpen}
use Rattle.dep_transactions.specs.OpenTables.{begun}
use Rattle.dep_schema.specs.declared.opening.OpenFault.{OpenFault}

-- what the transaction that opened a database has made of it, by the schema that was there
pub record IsPrepared (old new : State) (version : ℕ) : Type 0 where
  pub opened : IsTrue old.is_open
  pub fresh : old.now.schema ≡ no_schema → StaysFile new new_store_tables
  pub found : (its : Schema) → IsKnownSchema its → IsOf its old
      → HasVersion version (tables_of old) × IsOpenWithOf its new (tables_of old)
  pub still : version ≡ older_version → SeesTheSame old new
  -- with no `format` our first tables stand beside those of others
  pub made : LacksFormat old.now.schema → version ≡ our_version
  pub free : LacksFormat old.now.schema → AreFree old.now.schema
  pub beside : LacksFormat old.now.schema → HasCounters old.now.schema → IsOpenBeside old new

module _ {S : Type 0} (g : Ghosts S) (old new : Held S) where
  -- the version and the tables of a new store, where there was no table at all
  abbrev pub RepresentsFresh : ℕ → Type 0
  RepresentsFresh version = HasCleanDisk (state g new) → HoldsNone (state g old).now.trees
      → StaysFile (state g new) new_store_tables × (version ≡ our_version)

  -- the version and the tables that there were, where they were of one of our versions
  abbrev pub RepresentsFound : ℕ → Type 0
  RepresentsFound version = HasCleanDisk (state g new) → (its : Schema) → IsKnownSchema its
      → (tables : Tables) → HoldsOf its (state g old).now.trees tables
      → HasVersion version tables × IsOpenWithOf its (state g new) tables

  -- our first tables beside those of others, where there was no `format`
  abbrev pub RepresentsAdded : Type 0
  RepresentsAdded = HasCleanDisk (state g new) → LacksFormat (state g old).now.schema
      → HasCounters (state g old).now.schema → IsOpenBeside (state g old) (state g new)

  -- why a database was opened with this version
  abbrev pub OpensBy : ℕ → Type 0
  OpensBy version = HasCleanDisk (state g new) → ShowsOrMakes g (begun old) version

  -- why it was not opened, by this fault
  abbrev pub RefusesBy : OpenFault → Type 0
  RefusesBy fault = HasCleanDisk (state g new) → FailsToOpen g old new fault

  -- no store that was shut is open
  abbrev pub WasOpen : Type 0
  WasOpen = IsTrue (state g new).is_open → IsTrue (state g old).is_open

  -- a crash leaves what it left before, or what an open commits
  abbrev pub SurvivesOpen : Type 0
  SurvivesOpen = Survives (state g old) (state g new) (CommitsOpen (state g old))
