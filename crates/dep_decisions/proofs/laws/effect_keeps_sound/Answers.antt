use Rattle.dep_decisions.proofs.Accepted.{effect_sound}
use Rattle.dep_decisions.proofs.laws.effect_keeps_sound.Goals as goal

pub returns : goal.returns
returns c = effect_sound
