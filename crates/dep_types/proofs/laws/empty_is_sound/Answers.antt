use Rattle.dep_types.proofs.EmptySound.{empty_sound}
use Rattle.dep_types.proofs.laws.empty_is_sound.Goals as goal

pub returns : goal.returns
returns c = empty_sound
