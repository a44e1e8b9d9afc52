use Rattle.dep_types.specs.Sound.{IsSound}
use Rattle.dep_types.proofs.TickSound.{keeps_sound}
use Rattle.dep_server.proofs.RunKeeps.{after_run}
use Rattle.dep_server.proofs.SoundLemmas.{step_sound}
use Rattle.dep_server.proofs.laws.runs_keep_sound.Goals as goal

pub returns : goal.returns
returns c = λ r sound. after_run r.config IsSound (keeps_sound r.config) (step_sound r.config) r.run sound
