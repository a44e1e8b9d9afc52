-- A step of the machine keeps a sound state sound, and so does each move.
use Rattle.std.proofs.Common.{ℕ, List}
use Rattle.dep_types.specs.State.{State}
use Rattle.dep_types.specs.Sound.{IsSound}
use Rattle.dep_types.specs.declared.config.Config.{Config}
use Rattle.dep_types.proofs.TickSound.{keeps_sound}
use Rattle.dep_message.specs.Stream.{Item}
use Rattle.dep_decisions.proofs.Accepted.{effect_sound}
use Rattle.dep_exchange.specs.Machine.{step}
use Rattle.dep_server.specs.Moves.{Move, moved, state_by}
use Rattle.dep_server.proofs.StepsKeep.{by_step, by_move, by_moves}

module _ (config : Config) where
  pub step_sound : (s : State) (item : Item) (moment : ℕ) → IsSound s → IsSound (step config s item moment).state
  step_sound = by_step config IsSound (keeps_sound config) (effect_sound config)

  pub moved_sound : (s : State) (move : Move) → IsSound s → IsSound (moved config s move)
  moved_sound = by_move config IsSound (keeps_sound config) (effect_sound config)

  pub moves_sound : (s : State) (moves : List Move) → IsSound s → IsSound (state_by config s moves)
  moves_sound = by_moves config IsSound (keeps_sound config) (effect_sound config)
