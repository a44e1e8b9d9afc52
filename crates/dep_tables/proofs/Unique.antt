-- No two rows of a table have one key of several columns.
use Rattle.std.proofs.Common.{◌≡◌, inl, inr, ℕ, zero, suc, ℤ, Bool, true, false, not, ◌&&◌, List, [], ◌∷◌, slice_get, Some, refl, ap, subst, is_eq}
use Rattle.std.specs.List.{AllByRecursion, list_any, list_all}
use Rattle.std.proofs.lemmas.Bool.{and_parts, and_from, not-true, cases_Bool}
use Rattle.sqlite.specs.Order.{Row}
use Rattle.sqlite.specs.Table.{Table}
use Rattle.sqlite.specs.Tree.{Trees}
use Rattle.sqlite.specs.Schema.{Schema}
use Rattle.sqlite.specs.declared.types.Value.TheVariants.{Int}
use Rattle.sqlite_value.specs.Order.{value_cmp}
use Rattle.sqlite_value.specs.Keys.{plain}
use Rattle.sqlite_trees.specs.Tree.{rowid, put_row}
use Rattle.sqlite_schema.specs.declared.schema.Index.{Index}
use Rattle.sqlite_schema.specs.declared.schema.Constraint.TheVariants.{Unique}
use Rattle.sqlite_schema.specs.Rules.{Fits, agree, clashes, differ, guards, passes}
use Rattle.sqlite_rules.specs.Lists.{Has}
use Rattle.sqlite_rules.specs.Edit.{is_taken}
use Rattle.sqlite_rules.proofs.ListLemmas.{all_has, some_has, some_from}
use Rattle.sqlite_rules.proofs.TableLemmas.{put_all_keeps}
use Rattle.dep_tables.specs.PlainTables.{index_of}
use Rattle.dep_tables.specs.Rowids.{IsOrdered}
use Rattle.dep_tables.proofs.Tests.{differs_int}

-- the schema has a unique index over these places of the table
pub record IsKey (schema : Schema) (table : Table) (places : List ℕ) : Type 0 where
  pub name : List ℕ
  pub tree : ℕ
  pub at : ℕ
  pub listed : slice_get schema.indexes at ≡ Some (index_of name tree table.tree places)
  pub guards_it : guards (index_of name tree table.tree places) table ≡ true

pub all_at : {X : Type 0} (P : X → Type 0) (xs : List X) (n : ℕ) (x : X) → AllByRecursion P xs → slice_get xs n ≡ Some x → P x
all_at P [] n x all is = absurd (cc)
all_at P (y ∷ ys) zero x all is = let same : y ≡ x = cc in subst P same all.0
all_at P (y ∷ ys) (suc n) x all is = all_at P ys n x all.1 is

list_all_at : {X : Type 0} (p : X → Bool) (xs : List X) (n : ℕ) (x : X) → list_all p xs ≡ true → slice_get xs n ≡ Some x → p x ≡ true
list_all_at p [] n x all is = absurd (cc)
list_all_at p (y ∷ ys) zero x all is = let same : y ≡ x = cc in subst (λ z. p z ≡ true) same (and_parts _ _ all).0
list_all_at p (y ∷ ys) (suc n) x all is = list_all_at p ys n x (and_parts _ _ all).1 is

not_both : (a b : Bool) → a ≡ true → not (a && b) ≡ true → b ≡ false
not_both true b is h = not-true _ h
not_both false b is h = absurd (cc)

pub no_clash : (schema : Schema) (table : Table) (at : ℕ) (places : List ℕ) → (key : IsKey schema table places) → slice_get schema.tables at ≡ Some table
    → (db : Trees) → Fits schema db → (row : Row) → Has (db table.tree) row → clashes plain places (db table.tree) row ≡ false
no_clash schema table at places key listed db fits row there =
    let each = all_at (λ t. AllByRecursion (λ r. passes Unique schema db t r ≡ true) (db t.tree)) schema.tables at table (fits.rules Unique (λ e. cc)) listed in
    let one = list_all_at (λ (i : Index). not (guards i table && clashes i.order i.columns (db table.tree) row)) schema.indexes key.at _ (all_has _ (db table.tree) row each there) key.listed in
    not_both _ _ key.guards_it one

module _ (places : List ℕ) (p : Row → Bool) (id : ℤ) (values : Row) (rows : List Row) (up : IsOrdered rows) (fresh : is_taken rows (Int id ∷ values) ≡ false)
    (agrees : (other : Row) → p other ≡ true → agree plain places other places (Int id ∷ values) ≡ true) where
  abbrev new : Row
  new = Int id ∷ values

  apart : (other : Row) → Has rows other → is_eq (value_cmp (rowid other) (rowid new)) ≡ false
  apart other there = elim (cases_Bool (is_eq (value_cmp (rowid other) (rowid new)))) [
    | inl tied ↦ absurd (let taken = some_from (λ o. is_eq (value_cmp (rowid o) (rowid new))) rows other there tied in cc)
    | inr differs ↦ differs
  ]

  clash : (other : Row) → Has rows other → p other ≡ true → clashes plain places (put_row new rows) new ≡ true
  clash other there same =
      let kept = put_all_keeps (new ∷ []) rows other (and_from _ _ (ap not fresh) refl) there in
      some_from (λ o. agree plain places o places new && differ (rowid o) (rowid new)) (put_row new rows) other kept
      (and_from _ _ (agrees other same) (differs_int (rowid other) id (all_has _ rows other up.1 there) (apart other there)))

  -- a row was put in that clashes with none, so none had its key
  pub no_key : clashes plain places (put_row new rows) new ≡ false → list_any p rows ≡ false
  no_key none = elim (cases_Bool (list_any p rows)) [
    | inl some ↦ absurd (let other = some_has p rows some in let both = clash other.0 other.1 other.2 in cc)
    | inr free ↦ free
  ]
