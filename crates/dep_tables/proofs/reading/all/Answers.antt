use Rattle.std.proofs.Common.{◌≡◌, ◌∙◌, ◌<◌, ◌+◌, ℕ, List, [], ◌∷◌, ◌++◌, map, take, length, get_or, inr, sym, ap, ap₂, take-suc, add-one, arith}
use Rattle.std.proofs.lemmas.List.{map-append, take_all}
use Rattle.sqlite.specs.Order.{Row}
use Rattle.dep_tables.specs.Rowids.{columns_from}
use Rattle.dep_tables.proofs.Results.{err_then}
use Rattle.dep_tables.proofs.reading.all.Goals as goal

read_next : {R : Type 0} (values : R → Row) (columns : Row → Row) (found : List R) (read : R) (rows : List Row) (i : ℕ) (none : Row) → i < length rows
    → map values found ≡ map columns (take i rows) → values read ≡ columns (get_or rows i none) → map values (found ++ read ∷ []) ≡ map columns (take (i + 1) rows)
read_next values columns found read rows i none less so_far is =
    map-append values found (read ∷ []) ∙ ap₂ (λ xs ys. xs ++ ys) so_far (ap (λ row. row ∷ []) is)
    ∙ sym (map-append columns (take i rows) (get_or rows i none ∷ [])) ∙ ap (map columns) (sym (take-suc rows i none less) ∙ ap (λ n. take n rows) (sym (add-one i)))

not_empty : (rows : List Row) (i : ℕ) → i < length rows → rows ≡ [] → ⊥
not_empty rows i less empty = omega (arith, less, ap length empty)

pub rows-preserved : goal.rows-preserved
rows-preserved g c =
    rw c.in_ok-push.ensures.items (read_next _ _ c.rows.found.items c.in_ok-read.read c.args.rows.now c.rows.row-index c.row-item.result c.rows-test.true c.rows.invariant (c.in_ok-read.ensures.reported ∙ ap (columns_from 0 g.R.FromRow.width) c.row-item.is))

pub returns-clause-reported : goal.returns-clause-reported
returns-clause-reported g c = c.rows.invariant ∙ ap (map (columns_from 0 g.R.FromRow.width)) (take_all c.rows.row-index c.args.rows.now c.rows-test.false)

pub returns-in_err-read-clause-refused : goal.returns-in_err-read-clause-refused
returns-in_err-read-clause-refused g c =
    err_then c.from_residual.result c.from_residual.ensures.1 (λ e is. inr (tt, rw c.kinds.ensures at (c.have_kinds.ensures.0 c.if-not-have_kinds.false), not_empty c.args.rows.now c.rows.row-index c.rows-test.true, cc))

pub returns-in_err-push-clause-refused : goal.returns-in_err-push-clause-refused
returns-in_err-push-clause-refused g c =
    err_then c.from_residual-in_err-push.result c.from_residual-in_err-push.ensures.1 (λ e is. inr (tt, rw c.kinds.ensures at (c.have_kinds.ensures.0 c.if-not-have_kinds.false), not_empty c.args.rows.now c.rows.row-index c.rows-test.true, cc))
