-- What can be opened, and what an open leaves of the tables.
use Rattle.std.specs.Prelude.{◌≡◌, ◌⊎◌, ℕ, false, IsTrue}
use Rattle.sqlite.specs.Schema.{Schema}
use Rattle.sqlite.specs.Tree.{Trees}
use Rattle.sqlite.specs.State.{State}
use Rattle.sqlite_catalog.specs.Listing.{IsSound}
use Rattle.dep_tables.specs.Adding.{HasCounters}
use Rattle.dep_tables.specs.Tables.{Tables, tables_of, IsKnownSchema, IsKnown}
use Rattle.dep_tables.specs.Versions.{IsKnownVersion, HasVersion}
use Rattle.dep_migrations.specs.Beside.{LacksFormat, AreFree, with_ours}
use Rattle.dep_migrations.specs.FirstTables.{no_schema, new_store_tables, IsBeside}
use Rattle.dep_transactions.specs.OpenTables.{Holds, HoldsOf}

-- no table at all
abbrev pub HoldsNone : Trees → Type 0
HoldsNone = IsSound no_schema

-- between transactions, with our first tables beside those of others
pub record IsOpenBeside (old new : State) : Type 0 where
  pub is_open : IsTrue new.is_open
  pub settled : new.in_transaction ≡ false
  pub committed : new.now ≡ new.committed
  pub schema : new.now.schema ≡ with_ours old.now.schema
  pub trees : IsBeside old.now new.now.trees

-- the tables have a version that is known
abbrev pub HasKnownVersion : Tables → Type 0
HasKnownVersion tables = (version : ℕ) × IsKnownVersion version × HasVersion version tables

-- a database with no table at all, one with no table `format`, or one with the tables of one of our versions and a
-- version that is known
abbrev pub IsOpenable : State → Type 0
IsOpenable s =
    (s.now.schema ≡ no_schema)
    ⊎ (LacksFormat s.now.schema ⊎ (IsKnown s × HasKnownVersion (tables_of s)))

-- what is committed by the schema that is there: what is there where it is one of ours, the tables of a new store where
-- there is none, and the same beside the tables of others where our names are free
pub record CommitsBySchema (s : State) (trees : Trees) : Type 0 where
  pub found : IsKnown s → trees ≡ s.now.trees
  pub new : s.now.schema ≡ no_schema → Holds trees new_store_tables
  pub free : LacksFormat s.now.schema → AreFree s.now.schema
  pub beside : LacksFormat s.now.schema → HasCounters s.now.schema → IsBeside s.now trees

-- what `open` may commit, by what it finds in an open store
pub record CommitsOpen (s : State) (trees : Trees) : Type 0 where
  pub found : IsTrue s.is_open → (its : Schema) → IsKnownSchema its → (tables : Tables)
      → HoldsOf its s.now.trees tables → HoldsOf its trees tables
  pub new : IsTrue s.is_open → HoldsNone s.now.trees → Holds trees new_store_tables
  pub free : LacksFormat s.now.schema → AreFree s.now.schema
  pub beside : LacksFormat s.now.schema → HasCounters s.now.schema → IsBeside s.now trees

-- between transactions, with the store open and what the connection saw
pub record SeesTheSame (old new : State) : Type 0 where
  pub was_open : IsTrue old.is_open
  pub is_open : IsTrue new.is_open
  pub now : new.now ≡ old.now
  pub committed : new.committed ≡ old.now
