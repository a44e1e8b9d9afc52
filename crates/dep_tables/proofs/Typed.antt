-- Values of the type of their column, which an UPDATE stores as they are.
use Rattle.std.proofs.Common.{◌≡◌, ℕ, zero, suc, ◌+◌, Bool, true, List, [], ◌∷◌, drop, slice_get, Some, None, refl, ap, subst}
use Rattle.std.proofs.lemmas.Bool.{and_parts}
use Rattle.std.specs.List.{AllByRecursion}
use Rattle.sqlite.specs.Order.{Row, column}
use Rattle.sqlite.specs.Schema.{Schema}
use Rattle.sqlite.specs.Table.{Table}
use Rattle.sqlite.specs.Tree.{Trees}
use Rattle.sqlite.specs.Cast.{cast}
use Rattle.sqlite.specs.Kind.{Kind}
use Rattle.sqlite.specs.Kind.TheVariants as kind
use Rattle.sqlite.specs.declared.types.Value.{Value}
use Rattle.sqlite.specs.declared.types.Value.TheVariants.{Null, Int, Real, Text, Blob}
use Rattle.sqlite_schema.specs.declared.schema.Column.{Column}
use Rattle.sqlite_schema.specs.declared.schema.Constraint.TheVariants.{Datatype}
use Rattle.sqlite_schema.specs.Rules.{is_of, suits, are_typed, passes, Obeys}
use Rattle.sqlite_rules.specs.Lists.{Has}
use Rattle.sqlite_rules.proofs.ListLemmas.{all_has}
use Rattle.dep_tables.specs.PlainTables.{column_of}
use Rattle.dep_tables.proofs.Picked.{drop-none}
use Rattle.dep_tables.proofs.Unique.{all_at}
use Rattle.dep_tables.proofs.Values.{cast_int, cast_null}

-- a whole number, or NULL
pub kept_integer : (v : Value) → is_of kind.Integer v ≡ true → cast kind.Integer v ≡ v
kept_integer Null h = cast_null
kept_integer (Int n) h = cast_int n
kept_integer (Real x) h = absurd (cc)
kept_integer (Text t) h = absurd (cc)
kept_integer (Blob b) h = absurd (cc)

-- the value of each column is of its type, or missing
pub typed_column : (at : ℕ) (cs : List Column) (vs : Row) (n : ℕ) (name : List ℕ) (k : Kind) (needed : Bool) → are_typed None at cs vs ≡ true → slice_get cs n ≡ Some (column_of name k needed) → is_of k (column vs n) ≡ true
typed_column at [] vs n name k needed h is = absurd (cc)
typed_column at (c ∷ cs) [] n name k needed h is = refl
typed_column at (c ∷ cs) (v ∷ vs) zero name k needed h is = let same : c ≡ column_of name k needed = cc in subst (λ (d : Column). suits d v ≡ true) same (and_parts _ _ h).0
typed_column at (c ∷ cs) (v ∷ vs) (suc n) name k needed h is = typed_column (at + 1) cs vs n name k needed (and_parts _ _ h).1 is

column_after : (row : Row) (n : ℕ) → column (drop 1 row) n ≡ column row (suc n)
column_after [] n = refl
column_after (v ∷ vs) n = ap (λ r. column r n) (drop-none vs)

-- a column of a stored row of a table that has no INTEGER PRIMARY KEY
pub stored_column : (schema : Schema) (table : Table) (at : ℕ) → slice_get schema.tables at ≡ Some table → table.key ≡ None → (db : Trees) → Obeys schema db → (row : Row) → Has (db table.tree) row
    → (n : ℕ) (name : List ℕ) (k : Kind) (needed : Bool) → slice_get table.columns n ≡ Some (column_of name k needed) → is_of k (column row (suc n)) ≡ true
stored_column schema table at listed unkeyed db obeys row there n name k needed is =
    let each = all_at (λ t. AllByRecursion (λ r. passes Datatype schema db t r ≡ true) (db t.tree)) schema.tables at table (obeys.rules Datatype) listed in
    let typed = (and_parts _ _ (all_has _ (db table.tree) row each there)).0 in
    subst (λ v. is_of k v ≡ true) (column_after row n) (typed_column 0 table.columns (drop 1 row) n name k needed (subst (λ key. are_typed key 0 table.columns (drop 1 row) ≡ true) unkeyed typed) is)
