use Rattle.std.proofs.Common.{sym, subst}
use Rattle.dep_fields.specs.Fit.{AreFit}
use Rattle.dep_fields.specs.declared.fields.SwordFields.{SwordFields}
use Rattle.dep_fields.proofs.FitFields.{fields_are_fit}
use Rattle.dep_decisions.proofs.Accepted.{effect_sound}
use Rattle.dep_decisions.proofs.laws.accepted_keeps_sound.Goals as goal

pub returns : goal.returns
returns c config s fields op reported accepted sound = effect_sound config s op (subst (λ (f : SwordFields). AreFit f) (sym reported) (fields_are_fit fields)) accepted sound
