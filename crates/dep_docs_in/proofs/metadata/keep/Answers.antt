use Rattle.std.proofs.Common.{◌≡◌, ◌==◌, ◌∙◌, ap, length, false, true, rules, sym}
use Rattle.std.proofs.lemmas.Result.{err_from_is_err_and}
use Rattle.std.specs.FinMap as map
use Rattle.dep_docs_in.proofs.Keeping.{none_put, some_put, unmade}
use Rattle.dep_docs_in.proofs.metadata.keep.Goals as goal

pub returns : goal.returns
returns c =
    let some : (length c.as_slice.result.now == 0) ≡ false = search rules in
    some_put c.args.name.now _ c.in_ok-texts.texts c.args.metadata.now _ c.in_ok-texts.ensures (ap (λ l. length l == 0) (sym c.as_slice.ensures) ∙ some) (c.in_ok-insert.ensures.ok ∙ ap (λ n. map.insert c.args.metadata.now n c.in_ok-texts.texts) c.in_ok-copied.ensures)

pub returns-then-is_empty : goal.returns-then-is_empty
returns-then-is_empty c =
    let none : (length c.as_slice.result.now == 0) ≡ true = search rules in
    none_put c.args.name.now _ c.in_ok-texts.texts c.args.metadata.now c.in_ok-texts.ensures (ap (λ l. length l == 0) (sym c.as_slice.ensures) ∙ none)

pub returns-in_err-texts : goal.returns-in_err-texts
returns-in_err-texts c =
    let p = err_from_is_err_and c.from_residual.result c.from_residual.ensures.1 in
    rw (p.1, p.2) (unmade _ _ _ c.in_err-texts.ensures)
