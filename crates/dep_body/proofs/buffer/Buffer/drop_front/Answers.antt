use Rattle.std.proofs.Common.{rules, List, ℕ, ◌++◌, ◌∙◌, ap, take}
use Rattle.std.proofs.lemmas.List.{drop-drop}
use Rattle.dep_body.proofs.buffer.Buffer.drop_front.Goals as goal

pub returns-clause-used : goal.returns-clause-used
returns-clause-used c =
    c.and-used.ensures ∙ (ap (λ (l : List ℕ). l ++ take c.args.count c.as_slice.result.now) c.new.ensures ∙ ap (take c.args.count) c.as_slice.ensures)

-- (a wrong body is refused here by one search)
pub returns-clause-rest : goal.returns-clause-rest
returns-clause-rest c = search (rules, drop-drop)
