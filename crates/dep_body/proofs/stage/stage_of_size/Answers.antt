use Rattle.std.proofs.Common.{◌+◌, ◌<◌, subst, sym, ap, ◌∙◌, arith, length, Some}
use Rattle.dep_body.specs.Standing.{IsSizedLine}
use Rattle.dep_body.proofs.SizeSteps.{sized_none, sized_large, capped_some}
use Rattle.dep_body.proofs.SectionSteps.{sized_zero}
use Rattle.dep_body.proofs.stage.stage_of_size.Goals as goal

pub returns-in_default : goal.returns-in_default
returns-in_default c = λ text content size taken h.
    sized_none c.args.limit content text size (subst (λ v. IsSizedLine c.args.limit content size v text) c.in_default.is h)

pub returns-then-size-eq0 : goal.returns-then-size-eq0
returns-then-size-eq0 c = λ text content size taken h.
    sized_zero c.args.limit content text size _ (subst (λ v. IsSizedLine c.args.limit content size v text) (c.in-Some.is ∙ ap (λ n. Some n) c.if-size-eq0.true) h)
    c.new.ensures.length c.new.ensures.good c.new.ensures.after_cr c.new.ensures.reading

pub returns-in_default-checked_add : goal.returns-in_default-checked_add
returns-in_default-checked_add c = λ text content size taken h.
    let same = capped_some c.args.limit size c.in-Some.size (sym c.in-Some.is ∙ h.value_is) in
    let large : c.args.limit < length content + size = omega (arith, c.in-Some-checked_add.ensures.1, same, taken) in
    sized_large c.args.limit content text size c.args.value h large

pub returns-in_default-checked_add-2 : goal.returns-in_default-checked_add-2
returns-in_default-checked_add-2 c = λ text content size taken h.
    let same = capped_some c.args.limit size c.in-Some.size (sym c.in-Some.is ∙ h.value_is) in
    let large : c.args.limit < length content + size = omega (arith, c.in_default-checked_add.ensures, same, taken) in
    sized_large c.args.limit content text size c.args.value h large
