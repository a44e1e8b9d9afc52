-- The schema of trees that are found again.
use Rattle.std.proofs.Common.{◌≡◌, sym, subst}
use Rattle.sqlite.specs.Tree.{Trees}
use Rattle.sqlite.specs.Effect.{IsDatabase}
use Rattle.sqlite.specs.State.{State, Survives, IsLive}
use Rattle.sqlite.proofs.StateLemmas.{survives_weaker}
use Rattle.sqlite_trees.specs.Objects.{catalog_tree}
use Rattle.sqlite_catalog.proofs.ReadLemmas.{lists_once}
use Rattle.std.proofs.Common.{ℕ}
use Rattle.sqlite.specs.Schema.{Schema}
use Rattle.dep_tables.specs.Tables.{Tables, tables_of, IsOf}
use Rattle.dep_tables.specs.Versions.{HasVersion}
use Rattle.dep_transactions.specs.OpenTables.{HoldsOf, IsOpenWithOf}
use Rattle.dep_schema.specs.Openable.{HoldsNone, CommitsBySchema, CommitsOpen}
use Rattle.dep_migrations.specs.FirstTables.{no_schema, SeesOf}

pub sees_trees : (its : Schema) (s : State) → IsDatabase s.now → (tables : Tables) → HoldsOf its s.now.trees tables → SeesOf its s tables
sees_trees its s live tables held = record {
  ours = record { schema = lists_once (s.now.trees catalog_tree) s.now.schema its live.lists held.ours.sound.lists; trees = held.ours };
  rows = held.rows;
}

pub sees_none : (s : State) → IsDatabase s.now → HoldsNone s.now.trees → s.now.schema ≡ no_schema
sees_none s live none = lists_once (s.now.trees catalog_tree) s.now.schema no_schema live.lists none.lists

pub finds_tables : (its : Schema) (version : ℕ) (s new : State) → IsDatabase s.now → (tables : Tables) → HoldsOf its s.now.trees tables
    → (IsOf its s → HasVersion version (tables_of s) × IsOpenWithOf its new (tables_of s)) → HasVersion version tables × IsOpenWithOf its new tables
finds_tables its version s new live tables held found =
    let sees = sees_trees its s live tables held in
    subst (λ t. HasVersion version t × IsOpenWithOf its new t) sees.rows (found sees.ours)

commits : (s : State) → IsLive s → (trees : Trees) → CommitsBySchema s trees → CommitsOpen s trees
commits s live trees may = record {
  found = λ is_open its known tables held.
      let sees = sees_trees its s (live is_open).0 tables held in
      subst (λ t. HoldsOf its t tables) (sym (may.found (its, known, sees.ours))) held;
  new = λ is_open none. may.new (sees_none s (live is_open).0 none);
  free = may.free;
  beside = may.beside;
}

pub survives_live : (s new : State) → IsLive s → Survives s new (CommitsBySchema s) → Survives s new (CommitsOpen s)
survives_live s new live h = survives_weaker s new (CommitsBySchema s) (CommitsOpen s) (λ clean trees may. commits s live trees may) h
