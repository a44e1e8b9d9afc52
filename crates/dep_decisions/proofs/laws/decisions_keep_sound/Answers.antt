use Rattle.dep_decisions.proofs.SoundEffects.{decision_sound}
use Rattle.dep_decisions.proofs.laws.decisions_keep_sound.Goals as goal

pub returns : goal.returns
returns c s content d fit room sound = decision_sound s content sound d fit room
