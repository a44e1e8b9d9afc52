-- An index that a statement of its own makes, over the tables as they are today.
use Rattle.std.proofs.Common.{◌≡◌, ℕ, false, List, [], ◌∷◌, slice_get, None, Some, is_some, Ok, refl, sym, ap, subst, ◌∙◌}
use Rattle.sqlite.specs.Schema.{Schema}
use Rattle.sqlite.specs.Table.{Table}
use Rattle.sqlite.specs.Command.TheVariants.{CreateIndex}
use Rattle.sqlite.specs.Effect.{Database}
use Rattle.sqlite.specs.Listing.{understood}
use Rattle.sqlite.specs.Does.{Tally}
use Rattle.sqlite.specs.State.{State, Writes, ExecutesInside}
use Rattle.sqlite.proofs.Callers.{IsPlain, command_of, statement_of, runs_as}
use Rattle.sqlite_schema.specs.declared.schema.Index.{Index}
use Rattle.sqlite_schema.specs.Names.{same_name, table_named}
use Rattle.sqlite_resolve.specs.Compile.{index_defined_by}
use Rattle.sqlite_catalog.specs.Change.{indexed, next_tree, is_used, KeepsRows}
use Rattle.dep_tables.proofs.Adding.{none_of, placed_before}
use Rattle.dep_tables.proofs.Writes.{went, same_value}
use Rattle.dep_tables.specs.Indexes.{Indexes}

-- a name that is free once an index is made was free before
pub indexed_keeps : (schema : Schema) (table : Table) (index : Index) (name : List ℕ) → is_used (indexed schema table index) name ≡ false → is_used schema name ≡ false
indexed_keeps schema table index name h =
    let made = record index { tree = next_tree schema; table = table.tree } in
    let all = none_of (is_some (table_named schema name)) _ _ h in
    rw (all.0, placed_before (λ i. same_name i.name name) 0 schema.indexes (made ∷ []) all.1) all.2

module _ (sql : List ℕ) (at : ℕ) (table : Table) (index : Index) (old new : State) (count : ℕ) (here : slice_get old.now.schema.tables at ≡ Some table) (defined : index_defined_by table sql ≡ Ok index)
    (command : command_of (understood old.now.schema sql) ≡ CreateIndex at) (plain : IsPlain (understood old.now.schema sql)) (text : statement_of sql (understood old.now.schema sql) ≡ sql)
    (h : ExecutesInside 0 sql [] old new (Ok count)) where
  pub indexes : Indexes table index old.now new.now
  indexes =
      let w = subst (λ t. Writes old new None (CreateIndex at) t [] count) text (runs_as sql [] old new old.now.schema refl (CreateIndex at) command plain count h.0) in
      let all = went (rw here at w.changed) in
      let made = all.1 in
      let both : Ok made.index ≡ Ok index = sym made.defined ∙ defined in
      let same : made.index ≡ index = cc in
      let last : new.now ≡ all.0 = ap (λ (p : Tally × Database). p.1) (same_value all.2) in
      record {
        free = subst (λ (i : Index). is_used old.now.schema i.name ≡ false) same made.free;
        schema = ap (λ (d : Database). d.schema) last ∙ made.is ∙ ap (indexed old.now.schema table) same;
        others = subst (λ (d : Database). KeepsRows old.now.schema.tables old.now.trees d.trees) (sym last) made.rows;
        sound = w.sound;
      }
