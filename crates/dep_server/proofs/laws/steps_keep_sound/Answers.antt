use Rattle.dep_server.proofs.SoundLemmas.{step_sound}
use Rattle.dep_server.proofs.laws.steps_keep_sound.Goals as goal

pub returns : goal.returns
returns c = λ x sound. step_sound x.config x.state x.item x.moment sound
