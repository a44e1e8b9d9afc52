-- What one plain statement on one table does inside a transaction.
use Rattle.std.proofs.Common.{◌≡◌, ℕ, ◌/◌, List, [], length, filter, slice_get, true, false, Option, Some, Ok, sym, subst, ◌∙◌}
use Rattle.sqlite.specs.Order.{Row}
use Rattle.sqlite.specs.Term.{Term}
use Rattle.sqlite.specs.Table.{Table}
use Rattle.sqlite.specs.Schema.{Schema}
use Rattle.sqlite.specs.Source.TheVariants.{Values}
use Rattle.sqlite.specs.Command.TheVariants.{Insert, Update, Delete, Select}
use Rattle.sqlite.specs.Rowids.TheVariants.{Chosen, Given}
use Rattle.sqlite.specs.Effect.{IsDatabase, value_rows}
use Rattle.sqlite.specs.Listing.{understood, reads_listing}
use Rattle.sqlite.specs.State.{State, Shows, mode_of, ExecutesInside, Shown}
use Rattle.sqlite.specs.Program.{overlay}
use Rattle.sqlite.proofs.Callers.{IsPlain, command_of, statement_of, runs_as, reads_as}
use Rattle.sqlite_schema.specs.declared.schema.Column.{Column}
use Rattle.sqlite_schema.specs.declared.schema.Keys.TheVariants.{Enforced}
use Rattle.sqlite_value.specs.declared.keys.Key.{Key}
use Rattle.sqlite_value.specs.declared.keys.Order.{Order}
use Rattle.sqlite_rules.specs.Edit.{Edit, edit_of, Applies}
use Rattle.sqlite_rules.specs.Action.{works}
use Rattle.sqlite_rules.specs.Calls.{ids_of}
use Rattle.dep_tables.specs.PlainTables.{plain_table}
use Rattle.dep_tables.specs.Query.{one_table, plainly, passes_tests}
use Rattle.dep_tables.proofs.Writes.{inserts, updates, deletes}
use Rattle.dep_tables.proofs.Asking.{Picks, answers}

-- the transaction goes on with this edit
pub record Wrote (schema : Schema) (old new : State) (edit : Edit) : Type 0 where
  pub shows : Shows old new new.now old.committed true
  pub schema_is : new.now.schema ≡ schema
  pub applies : Applies schema Enforced old.now.trees edit new.now.trees
  pub sound : IsDatabase new.now

module _ (schema : Schema) (sql : List ℕ) (params : Row) (old new : State) (ours : old.now.schema ≡ schema) (plain : IsPlain (understood schema sql)) where
  -- a query of one table
  pub selected : (tree : ℕ) (tests shows : List Term) (order : List (Term × Key)) (limit : Term) (names : List (List ℕ))
      → command_of (understood schema sql) ≡ Select (plainly (one_table tree tests shows order limit)) names → reads_listing schema sql ≡ false → overlay old.now.trees [] tree ≡ old.now.trees tree
      → (rows : List Row) → Shown sql params old new rows → Picks (one_table tree tests shows order limit) params (filter (passes_tests params tests) (old.now.trees tree)) rows
  selected tree tests shows order limit names is unlisted own rows h =
      answers tree tests shows order limit old.now params rows own (reads_as sql params old new schema ours (Select (plainly (one_table tree tests shows order limit)) names) is plain unlisted rows h)

  module _ (count : ℕ) (h : ExecutesInside 0 sql params old new (Ok count)) (at : ℕ)
      (name : List ℕ) (tree : ℕ) (columns : List Column) (key : Option ℕ) (primary : List ℕ) (uniques : List (List ℕ)) (orders : List Order)
      (listed : slice_get schema.tables at ≡ Some (plain_table name tree columns key primary uniques orders)) where
    abbrev table : Table
    table = plain_table name tree columns key primary uniques orders

    here : slice_get old.now.schema.tables at ≡ Some table
    here = subst (λ (s : Schema). slice_get s.tables at ≡ Some table) (sym ours) listed

    pub inserted : (terms : List Term) (width : ℕ) → command_of (understood schema sql) ≡ Insert at (Values terms width)
        → Wrote schema old new (edit_of old.now.trees table [] Chosen 0 (value_rows params width (length terms / width) terms))
    inserted terms width is =
        let w = runs_as sql params old new schema ours (Insert at (Values terms width)) is plain count h.0 in
        let made = inserts old.step_limit (mode_of old) params old.now (statement_of sql (understood schema sql)) at name tree columns key primary uniques orders here terms width w.tally new.now w.changed in
        record { shows = h.1; schema_is = made.schema ∙ ours; applies = subst (λ s. Applies s Enforced old.now.trees (edit_of old.now.trees table [] Chosen 0 (value_rows params width (length terms / width) terms)) new.now.trees) ours made.applies; sound = w.sound }

    module _ (free : (olds news : List Row) → works schema Enforced 0 tree olds news ≡ []) where
      idle : (olds news : List Row) → works old.now.schema Enforced 0 tree olds news ≡ []
      idle olds news = subst (λ s. works s Enforced 0 tree olds news ≡ []) (sym ours) (free olds news)

      pub updated : (tests shows : List Term) (order : List (Term × Key)) (limit : Term) → command_of (understood schema sql) ≡ Update at (plainly (one_table tree tests shows order limit)) → overlay old.now.trees [] tree ≡ old.now.trees tree
          → (rows : List Row) × Picks (one_table tree tests shows order limit) params (filter (passes_tests params tests) (old.now.trees tree)) rows × Wrote schema old new (edit_of old.now.trees table (ids_of rows) Given 1 rows)
      updated tests shows order limit is own =
          let q = plainly (one_table tree tests shows order limit) in
          let w = runs_as sql params old new schema ours (Update at q) is plain count h.0 in
          let made = updates old.step_limit (mode_of old) params old.now (statement_of sql (understood schema sql)) at name tree columns key primary uniques orders here idle q w.tally new.now w.changed in (
            made.0,
            answers tree tests shows order limit old.now params made.0 own made.1,
            record { shows = h.1; schema_is = made.2.schema ∙ ours; applies = subst (λ s. Applies s Enforced old.now.trees (edit_of old.now.trees table (ids_of made.0) Given 1 made.0) new.now.trees) ours made.2.applies; sound = w.sound },
          )

      pub deleted : (tests shows : List Term) (order : List (Term × Key)) (limit : Term) → command_of (understood schema sql) ≡ Delete at (plainly (one_table tree tests shows order limit)) → overlay old.now.trees [] tree ≡ old.now.trees tree
          → (rows : List Row) × Picks (one_table tree tests shows order limit) params (filter (passes_tests params tests) (old.now.trees tree)) rows × Wrote schema old new (edit_of old.now.trees table (ids_of rows) Given 0 [])
      deleted tests shows order limit is own =
          let q = plainly (one_table tree tests shows order limit) in
          let w = runs_as sql params old new schema ours (Delete at q) is plain count h.0 in
          let made = deletes old.step_limit (mode_of old) params old.now (statement_of sql (understood schema sql)) at name tree columns key primary uniques orders here idle q w.tally new.now w.changed in (
            made.0,
            answers tree tests shows order limit old.now params made.0 own made.1,
            record { shows = h.1; schema_is = made.2.schema ∙ ours; applies = subst (λ s. Applies s Enforced old.now.trees (edit_of old.now.trees table (ids_of made.0) Given 0 []) new.now.trees) ours made.2.applies; sound = w.sound },
          )
