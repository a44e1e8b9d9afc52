use Rattle.dep_types.proofs.TickSound.{keeps_sound}
use Rattle.dep_types.proofs.laws.tick_keeps_sound.Goals as goal

pub returns : goal.returns
returns c = keeps_sound
