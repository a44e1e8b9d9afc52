-- What the calls say that make the tables of a new store.
use Rattle.std.specs.Prelude.{◌≡◌, IsTrue, Result, OnOk}
use Rattle.dep_migrations.specs.Beside.{AreFree, with_ours}
use Rattle.dep_migrations.specs.FirstTables.{no_schema, SeesTables, first_state, new_store_tables}
use Rattle.dep_tables.specs.Adding.{Puts}
use Rattle.dep_tables.specs.Rows.{stored_format, stored_state}
use Rattle.dep_tables.specs.Schema.{format_table}
use Rattle.dep_tables.specs.Versions.{our_version}
use Rattle.sqlite.specs.Effect.{Database}
use Rattle.sqlite.specs.Schema.{Schema}
use Rattle.sqlite.specs.State.{State, HasCleanDisk}
use Rattle.sqlite_catalog.specs.Change.{created, next_tree}

-- the row of the version is put in beside the tables of others
abbrev pub PutsFormat : Schema → Database → Database → Type 0
PutsFormat others = Puts (next_tree others) (stored_format our_version)

-- the same of the row of the clock and the counters
abbrev pub PutsState : Schema → Database → Database → Type 0
PutsState others = Puts (next_tree (created others format_table)) (stored_state first_state)

-- both are, one after the other
abbrev pub PutsFirstRows : Schema → Database → Database → Type 0
PutsFirstRows others old new =
    (next : Database) × PutsFormat others old next × PutsState others next new

module _ {A E : Type 0} (old new : State) (result : Result A E) where
  -- inside a transaction, with our tables beside those of others, an Ok does this
  abbrev pub FillsOurs : (Schema → Database → Database → Type 0) → Type 0
  FillsOurs does = HasCleanDisk new → IsTrue old.in_transaction → (others : Schema) → AreFree others
      → old.now.schema ≡ with_ours others → OnOk result (does others old.now new.now)

  -- there, with no table at all, an Ok makes those of a new store
  abbrev pub MakesFirst : Type 0
  MakesFirst = HasCleanDisk new → IsTrue old.in_transaction → old.now.schema ≡ no_schema
      → OnOk result (SeesTables new new_store_tables)
