use Rattle.std.proofs.Common.{◌≡◌, ◌+◌, ◌-◌, ◌∙◌, sym, arith, length, take, drop, length-drop}
use Rattle.std.proofs.lemmas.List.{take_all}
use Rattle.dep_octets.proofs.Members.{parts_at, parts_none}
use Rattle.dep_octets.proofs.lists.first_part.Goals as goal

pub returns-in-Some-clause-cut : goal.returns-in-Some-clause-cut
returns-in-Some-clause-cut c =
    let text = c.args.text.now in
    let i = c.in-Some.comma in
    let rest : take (length text - (i + 1)) (drop (i + 1) text) ≡ drop (i + 1) text = take_all _ _ (omega (arith, length-drop (i + 1) text)) in
    rw rest (parts_at text i (sym c.first_comma.ensures ∙ c.in-Some.is))

pub returns-in-None-clause-cut : goal.returns-in-None-clause-cut
returns-in-None-clause-cut c = parts_none c.args.text.now (sym c.first_comma.ensures ∙ c.in-None.is)
