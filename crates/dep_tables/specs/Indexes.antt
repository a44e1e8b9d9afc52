-- An index that a statement of its own makes.
use Rattle.std.specs.Prelude.{◌≡◌, false}
use Rattle.sqlite.specs.Table.{Table}
use Rattle.sqlite.specs.Effect.{Database, IsDatabase}
use Rattle.sqlite_schema.specs.declared.schema.Index.{Index}
use Rattle.sqlite_catalog.specs.Change.{indexed, is_used, KeepsRows}

-- Its name was free. The index is made in the next tree, and the tables keep their rows. The trees list the new schema
-- and obey it.
pub record Indexes (table : Table) (index : Index) (old new : Database) : Type 0 where
  pub free : is_used old.schema index.name ≡ false
  pub schema : new.schema ≡ indexed old.schema table index
  pub others : KeepsRows old.schema.tables old.trees new.trees
  pub sound : IsDatabase new
