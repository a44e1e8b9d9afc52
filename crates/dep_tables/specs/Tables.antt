-- The rows of all tables, and the states of a connection that have them. The tables of version 1 have the same trees;
-- they have no `sha512s`, so nothing is said of what stands in its place.
use Rattle.std.specs.Prelude.{◌≡◌, ◌⊎◌, ℕ, ◌+◌, true, List}
use Rattle.sqlite.specs.Order.{Row}
use Rattle.sqlite.specs.Schema.{Schema}
use Rattle.sqlite.specs.Tree.{Trees}
use Rattle.sqlite.specs.Effect.{Database}
use Rattle.sqlite.specs.State.{State, Shows}
use Rattle.sqlite_catalog.specs.Listing.{IsSound}
use Rattle.dep_tables.specs.Rowids.{AreOrdered}
use Rattle.dep_tables.specs.Schema.{older_schema, our_schema}

-- of each table the rows that its tree has, the rowid in front of each
pub record Tables : Type 0 where
  pub format : List Row
  pub state : List Row
  pub objects : List Row
  pub metadata : List Row
  pub files : List Row
  pub uploads : List Row
  pub segments : List Row
  pub timed_out : List Row
  pub blocks : List Row
  pub sha512s : List Row

-- the tables from this tree on, where trees 4, 8, 11 and 13 to 15 from there are indexes
abbrev pub tables_from : ℕ → Trees → Tables
tables_from first trees = record {
  format = trees first;
  state = trees (first + 1);
  objects = trees (first + 2);
  metadata = trees (first + 3);
  files = trees (first + 5);
  uploads = trees (first + 6);
  segments = trees (first + 7);
  timed_out = trees (first + 9);
  blocks = trees (first + 10);
  sha512s = trees (first + 12);
}

-- the tables where their first tree is 0, as in our schema
abbrev pub tables_in : Trees → Tables
tables_in = tables_from 0

-- the tables that a connection sees
abbrev pub tables_of : State → Tables
tables_of s = tables_in s.now.trees

-- the trees list this schema and obey it, and in each table the rowids rise
pub record AreOf (its : Schema) (trees : Trees) : Type 0 where
  pub sound : IsSound its trees
  pub ordered : AreOrdered its.tables trees

-- the database has this schema, and its trees list it and obey it
pub record HasTablesOf (its : Schema) (db : Database) : Type 0 where
  pub schema : db.schema ≡ its
  pub trees : AreOf its db.trees

-- the connection sees this schema
abbrev pub IsOf : Schema → State → Type 0
IsOf its s = HasTablesOf its s.now

-- the database has our schema, and its trees list it and obey it
abbrev pub HasOurTables : Database → Type 0
HasOurTables = HasTablesOf our_schema

-- the connection sees our schema
abbrev pub IsOurs : State → Type 0
IsOurs = IsOf our_schema

-- the connection sees the schema of version 1
abbrev pub IsOlder : State → Type 0
IsOlder = IsOf older_schema

-- the schema of one of our versions
abbrev pub IsKnownSchema : Schema → Type 0
IsKnownSchema its = (its ≡ our_schema) ⊎ (its ≡ older_schema)

-- the connection sees the schema of one of our versions
abbrev pub IsKnown : State → Type 0
IsKnown s = (its : Schema) × IsKnownSchema its × IsOf its s

-- the transaction goes on with these tables
pub record Leads (old new : State) (tables : Tables) : Type 0 where
  pub shows : Shows old new new.now old.committed true
  pub ours : IsOurs new
  pub rows : tables_of new ≡ tables
