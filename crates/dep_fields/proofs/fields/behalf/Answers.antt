use Rattle.std.proofs.Common.{◌≡◌, ◌∙◌, ◌==◌, length, false, sym, ap, subst}
use Rattle.dep_fields.specs.Values.{or_bad}
use Rattle.dep_fields.specs.declared.field.Field.TheVariants.{Value}
use Rattle.dep_fields.proofs.FieldLemmas.{named, not_utf8}
use Rattle.dep_fields.proofs.fields.behalf.Goals as goal

pub returns-in-Ok : goal.returns-in-Ok
returns-in-Ok c =
    let both = sym c.in-Value.is ∙ c.in-Value-2.is in
    let same : c.in-Value.text ≡ c.in-Value-2.text = cc both in
    let some : (length c.in-Value-2.text.now == 0) ≡ false = subst (λ text. (length text.now == 0) ≡ false) same (sym c.if-is_empty.ensures) in
    rw c.in-Value-2.is (ap Value c.in-Ok.ensures.cases.0 ∙ sym (ap or_bad (named c.in-Value-2.text.now some c.in-Ok.ensures.cases.1)))

pub returns-in-Err : goal.returns-in-Err
returns-in-Err c = rw c.in-Value-2.is (sym (ap or_bad (not_utf8 _ c.in-Err.ensures.cases.0)))
