-- What an INSERT, an UPDATE and a DELETE of one table leave, where no key refers to another table.
use Rattle.std.proofs.Common.{◌≡◌, ◌⊎◌, inl, inr, ℕ, ◌/◌, List, [], ◌∷◌, ◌==◌, length, slice_get, Option, Some, None, Ok, Err, Result, refl, sym, ap, subst, ◌∙◌, append-nil}
use Rattle.sqlite.specs.Order.{Row}
use Rattle.sqlite.specs.Term.{Term}
use Rattle.sqlite.specs.Table.{Table}
use Rattle.sqlite.specs.Tree.{Trees}
use Rattle.sqlite.specs.Source.TheVariants.{Values}
use Rattle.sqlite.specs.Command.TheVariants.{Insert, Update, Delete}
use Rattle.sqlite_schema.specs.declared.program.Program.{Program}
use Rattle.sqlite_schema.specs.declared.schema.Keys.{Keys}
use Rattle.sqlite_rules.specs.Edit.{Edit, edit_of, taken_by, Applies}
use Rattle.std.specs.List.{filter_map, flat_map}
use Rattle.std.proofs.lemmas.Bool.{cases_Bool}
use Rattle.sqlite_schema.specs.declared.schema.Reference.{Reference}
use Rattle.sqlite_schema.specs.Rules.{ParentKey, parent_key}
use Rattle.sqlite_rules.specs.declared.action.Deed.{Deed}
use Rattle.sqlite_rules.specs.Action.{deed_for, work_by, work_for, works}
use Rattle.sqlite_rules.specs.Calls.{ids_of}
use Rattle.sqlite.specs.Rowids.TheVariants.{Chosen, Given}
use Rattle.sqlite.specs.declared.run.Mode.{Mode}
use Rattle.sqlite.specs.Effect.{Database, Answers, value_rows}
use Rattle.sqlite.specs.Does.{Tally, Does, Concludes}
use Rattle.sqlite.specs.Rows.{Written, Task, Inserts, Updates, Deletes, Edited}
use Rattle.sqlite.proofs.Callers.{one_step}
use Rattle.sqlite.specs.Schema.{Schema}
use Rattle.sqlite_schema.specs.declared.schema.Column.{Column}
use Rattle.sqlite_value.specs.declared.keys.Order.{Order}
use Rattle.dep_tables.specs.PlainTables.{plain_table}

-- a part that gave a value did not stop on the way
pub went : {B E R : Type 0} {b : B} {Stops : E → Type 0} → ((stop : E) × Stops stop × (Ok b ≡ Err stop)) ⊎ R → R
went (inl stopped) = absurd (let e = stopped.2 in cc)
went (inr on) = on

pub same_value : {B E : Type 0} {a b : B} → ◌≡◌ {A = Result B E} (Ok a) (Ok b) → a ≡ b
same_value e = cc

concludes : (task : Task) (mode : Mode) (w : Written) (tally : Tally) (after : Database) → Concludes task mode None w (Ok (tally, after))
    → (after ≡ record { schema = task.schema; trees = w.trees }) × (tally.rows ≡ Some (length w.rows))
concludes task mode w tally after h =
    let tested = went h in
    let shown = went tested.2 in
    let e = same_value shown.2 in
    (ap (λ (p : Tally × Database). p.1) e, ap (λ (p : Tally × Database). p.0.rows) e)

-- what puts rows in and takes none out sets off nothing in other tables
module _ (schema : Schema) (keys : Keys) (depth tree : ℕ) (news : List Row) where
  no_work : (child : Table) (ref : Reference) (deed : Option Deed) (key : Option ParentKey) → work_by depth tree [] child ref deed key ≡ None
  no_work child ref None key = refl
  no_work child ref (Some deed) None = refl
  no_work child ref (Some deed) (Some key) = elim (cases_Bool (key.0 == tree)) [ inl e ↦ rw e | inr e ↦ rw e ]

  no_references : (child : Table) (refs : List Reference) → filter_map (work_for schema keys depth tree [] news child) refs ≡ []
  no_references child [] = refl
  no_references child (ref ∷ refs) = rw (no_work child ref (deed_for keys (length news == 0) ref) (parent_key schema.tables ref)) (no_references child refs)

  no_children : (tables : List Table) → flat_map (λ child. filter_map (work_for schema keys depth tree [] news child) child.references) tables ≡ []
  no_children [] = refl
  no_children (t ∷ tables) = rw (no_references t t.references) (no_children tables)

  no_works : works schema keys depth tree [] news ≡ []
  no_works = no_children schema.tables

-- the trees after one edit, and the rows that the statement counts
abbrev pub EditsTo : Task → Trees → Edit → List Row → Written → Type 0
EditsTo task db edit rows w = Edited task.schema task.keys db edit (Ok w.trees) × (w.rows ≡ rows)

module _ (limit : Option ℕ) (keys : Keys) (schema : Schema) (params : Row) (name : List ℕ) (tree : ℕ) (columns : List Column) (key : Option ℕ) (primary : List ℕ) (uniques : List (List ℕ)) (orders : List Order) where
  abbrev table : Table
  table = plain_table name tree columns key primary uniques orders

  abbrev job : Task
  job = record { limit = limit; keys = keys; schema = schema; table = table; params = params }

  inserts_rows : (db : Trees) (terms : List Term) (width : ℕ) (w : Written) → Inserts job (Values terms width) db (Ok w)
      → let edit = edit_of db table [] Chosen 0 (value_rows params width (length terms / width) terms) in EditsTo job db edit edit.news w
  inserts_rows db terms width w h =
      let given = went h in
      let counter = went given.2 in
      let written = went counter.2 in
      let next = went written.2 in
      let rows : given.0 ≡ value_rows params width (length terms / width) terms = given.1.1 ∙ ap (λ ps. value_rows ps width (length terms / width) terms) (append-nil params) in
      let last = same_value next.2 in
      let trees : w.trees ≡ written.0 = ap (λ (it : Written). it.trees) last ∙ same_value next.1 in
      let made = subst (λ all. Edited schema keys db (edit_of db table [] Chosen 0 all) (Ok written.0)) rows written.1 in (
        subst (λ t. Edited schema keys db (edit_of db table [] Chosen 0 (value_rows params width (length terms / width) terms)) (Ok t)) (sym trees) made,
        ap (λ (it : Written). it.rows) last ∙ ap (λ all. (edit_of db table [] Chosen 0 all).news) rows,
      )

updates_rows : (task : Task) (q : Program) (given : Row) (db : Trees) (w : Written) → Updates task q given db (Ok w)
    → (rows : List Row) × Answers (record { schema = task.schema; trees = db }) q given rows × (let edit = edit_of db task.table (ids_of rows) Given 1 rows in EditsTo task db edit edit.news w)
updates_rows task q given db w h =
    let asked = went h in
    let written = went asked.2 in
    let last = same_value written.2 in
    (asked.0, asked.1, (subst (λ t. Edited task.schema task.keys db (edit_of db task.table (ids_of asked.0) Given 1 asked.0) (Ok t)) (sym (ap (λ (it : Written). it.trees) last)) written.1, ap (λ (it : Written). it.rows) last))

deletes_rows : (task : Task) (q : Program) (db : Trees) (w : Written) → Deletes task q db (Ok w)
    → (rows : List Row) × Answers (record { schema = task.schema; trees = db }) q task.params rows × (let edit = edit_of db task.table (ids_of rows) Given 0 [] in EditsTo task db edit (taken_by db edit) w)
deletes_rows task q db w h =
    let asked = went h in
    let written = went asked.2 in
    let last = same_value written.2 in
    (asked.0, asked.1, (subst (λ t. Edited task.schema task.keys db (edit_of db task.table (ids_of asked.0) Given 0 []) (Ok t)) (sym (ap (λ (it : Written). it.trees) last)) written.1, ap (λ (it : Written). it.rows) last))

pub record Changed (keys : Keys) (db : Database) (edit : Edit) (rows : List Row) (tally : Tally) (after : Database) : Type 0 where
  pub schema : after.schema ≡ db.schema
  pub applies : Applies db.schema keys db.trees edit after.trees
  pub counted : tally.rows ≡ Some (length rows)

module _ (limit : Option ℕ) (mode : Mode) (params : Row) (db : Database) (text : List ℕ) (at : ℕ) (name : List ℕ) (tree : ℕ) (columns : List Column) (key : Option ℕ) (primary : List ℕ) (uniques : List (List ℕ)) (orders : List Order)
    (listed : slice_get db.schema.tables at ≡ Some (plain_table name tree columns key primary uniques orders)) where
  abbrev the_table : Table
  the_table = plain_table name tree columns key primary uniques orders

  abbrev task : Task
  task = record { limit = limit; keys = mode.keys; schema = db.schema; table = the_table; params = params }

  ends : (edit : Edit) (rows : List Row) (w : Written) (tally : Tally) (after : Database) → works db.schema mode.keys 0 edit.table.tree (taken_by db.trees edit) edit.news ≡ []
      → EditsTo task db.trees edit rows w → Concludes task mode None w (Ok (tally, after)) → Changed mode.keys db edit rows tally after
  ends edit rows w tally after none made h =
      let end = concludes task mode w tally after h in
      record {
        schema = ap (λ (d : Database). d.schema) end.0;
        applies = subst (Applies db.schema mode.keys db.trees edit) (sym (ap (λ (d : Database). d.trees) end.0)) (one_step db.schema mode.keys db.trees w.trees edit none made.0);
        counted = end.1 ∙ ap (λ all. Some (length all)) made.1;
      }

  pub inserts : (terms : List Term) (width : ℕ) (tally : Tally) (after : Database) → Does limit mode params db text None (Insert at (Values terms width)) (Ok (tally, after))
      → let edit = edit_of db.trees the_table [] Chosen 0 (value_rows params width (length terms / width) terms) in Changed mode.keys db edit edit.news tally after
  inserts terms width tally after h =
      let done = went (rw listed at h) in
      let edit = edit_of db.trees the_table [] Chosen 0 (value_rows params width (length terms / width) terms) in
      ends edit edit.news done.0 tally after (no_works db.schema mode.keys 0 tree edit.news) (inserts_rows limit mode.keys db.schema params name tree columns key primary uniques orders db.trees terms width done.0 done.1) done.2

  module _ (free : (olds news : List Row) → works db.schema mode.keys 0 tree olds news ≡ []) where
    pub updates : (q : Program) (tally : Tally) (after : Database) → Does limit mode params db text None (Update at q) (Ok (tally, after))
        → (rows : List Row) × Answers db q params rows × (let edit = edit_of db.trees the_table (ids_of rows) Given 1 rows in Changed mode.keys db edit edit.news tally after)
    updates q tally after h =
        let done = went (rw listed at h) in
        let made = updates_rows task q params db.trees done.0 done.1 in
        let edit = edit_of db.trees the_table (ids_of made.0) Given 1 made.0 in
        (made.0, made.1, ends edit edit.news done.0 tally after (free (taken_by db.trees edit) edit.news) made.2 done.2)

    pub deletes : (q : Program) (tally : Tally) (after : Database) → Does limit mode params db text None (Delete at q) (Ok (tally, after))
        → (rows : List Row) × Answers db q params rows × (let edit = edit_of db.trees the_table (ids_of rows) Given 0 [] in Changed mode.keys db edit (taken_by db.trees edit) tally after)
    deletes q tally after h =
        let done = went (rw listed at h) in
        let made = deletes_rows task q db.trees done.0 done.1 in
        let edit = edit_of db.trees the_table (ids_of made.0) Given 0 [] in
        (made.0, made.1, ends edit (taken_by db.trees edit) done.0 tally after (free (taken_by db.trees edit) edit.news) made.2 done.2)
