use Rattle.std.proofs.Common.{◌≡◌, ◌≤◌, ◌<◌, ◌∙◌, List, [], ◌∷◌, All, map, length, get_or, inr, ap, subst, arith}
use Rattle.std.proofs.lemmas.List.Elements.{All-cons, All-nil}
use Rattle.dep_tables.specs.Rowids.{columns_from}
use Rattle.dep_tables.specs.Rows.{HasKinds}
use Rattle.dep_tables.proofs.Results.{err_then}
use Rattle.dep_tables.proofs.reading.at_most_one.Goals as goal

-- a list of one row is that row's
one_row : {X Y : Type 0} (f : X → Y) (rows : List X) (row : X) → 1 ≤ length rows → length rows < 2 → row ≡ get_or rows 0 row → f row ∷ [] ≡ map f rows
one_row f [] row some few is = absurd (omega (arith, some))
one_row f (r ∷ []) row some few is = ap (λ x. f x ∷ []) is
one_row f (r ∷ more ∷ rows) row some few is = absurd (omega (arith, few))

one_all : {X : Type 0} (P : X → Type 0) (rows : List X) (row : X) → 1 ≤ length rows → length rows < 2 → row ≡ get_or rows 0 row → P row → All P rows
one_all P [] row some few is this = absurd (omega (arith, some))
one_all P (r ∷ []) row some few is this = All-cons P r [] (subst P is this) (All-nil P)
one_all P (r ∷ more ∷ rows) row some few is this = absurd (omega (arith, few))

pub returns-in_ok-from_row-in-len1-clause-reported : goal.returns-in_ok-from_row-in-len1-clause-reported
returns-in_ok-from_row-in-len1-clause-reported g c =
    ap (λ v. v ∷ []) c.in_ok-from_row-in-len1.ensures.reported ∙ one_row (columns_from 0 g.R.FromRow.width) c.args.rows.now c.row-item.result c.in-len1.len_at_least c.in-len1.len_below c.row-item.is

pub returns-in_err-from_row-in-len1-clause-refused : goal.returns-in_err-from_row-in-len1-clause-refused
returns-in_err-from_row-in-len1-clause-refused g c =
    let kinds = subst (λ k. HasKinds k c.row-item.result) c.kinds.ensures (c.has_kinds.ensures.0 c.if-has_kinds.true) in
    let ours = one_all (HasKinds g.R.FromRow.columns) c.args.rows.now c.row-item.result c.in-len1.len_at_least c.in-len1.len_below c.row-item.is kinds in
    err_then c.from_residual.result c.from_residual.ensures.1 (λ e is. inr (c.in_err-from_row-in-len1.ensures.refused, (ours, omega (arith, c.in-len1.len_below)), (λ none. omega (arith, ap length none, c.in-len1.len_at_least)), cc))
