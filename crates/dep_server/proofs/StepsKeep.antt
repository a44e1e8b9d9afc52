-- What each tick and each accepted request keep, each step and each move keep.
use Rattle.std.proofs.Common.{◌≡◌, ℕ, List, [], ◌∷◌, Option, Some, None, refl}
use Rattle.dep_types.specs.State.{State, tick}
use Rattle.dep_types.specs.declared.config.Config.{Config}
use Rattle.dep_types.specs.declared.refusal.Refusal.{Refusal}
use Rattle.dep_fields.specs.Fit.{AreFit}
use Rattle.dep_fields.proofs.FitFields.{fields_are_fit}
use Rattle.dep_decisions.specs.Effects.{effect}
use Rattle.dep_decisions.specs.Rules.{refusal}
use Rattle.dep_decisions.specs.declared.operation.Operation.{Operation}
use Rattle.dep_answers.specs.Steps.{step_by, operation_step}
use Rattle.dep_message.specs.Stream.{Item, Fault, Continue, Request}
use Rattle.dep_message.specs.declared.message.Message.{Message}
use Rattle.dep_router.specs.Targets.{target}
use Rattle.dep_router.specs.declared.routed.Routed.{Routed}
use Rattle.dep_router.specs.declared.routed.Routed.TheVariants.{To, NotFound, NotAllowed}
use Rattle.dep_exchange.specs.Machine.{operation_of, routed_step, starting_state, step}
use Rattle.dep_server.specs.Moves.{Move, Made, Begun, moved, state_by}

module _ (config : Config) (P : State → Type 0) (ticks : (s : State) (moment : ℕ) → P s → P (tick config s moment)) where
  pub at_start : (s : State) (item : Item) (moment : ℕ) → P s → P (starting_state config s item moment)
  at_start s (Fault r head_only) moment p = ticks s moment p
  at_start s Continue moment p = p
  at_start s (Request m) moment p = ticks s moment p

  module _ (effects : (s : State) (op : Operation) → AreFit op.fields → refusal config s op ≡ None → P s → P (effect config s op)) where
    by_refusal : (s : State) (op : Operation) → AreFit op.fields → (o : Option Refusal) → refusal config s op ≡ o → P s → P (step_by config s op o).state
    by_refusal s op fit None accepted p = effects s op fit accepted p
    by_refusal s op fit (Some r) refused p = p

    by_operation : (s : State) (op : Operation) → AreFit op.fields → P s → P (operation_step config s op).state
    unfolding operation_step
    by_operation s op fit p = by_refusal s op fit (refusal config s op) refl p

    by_route : (s : State) (m : Message) (r : Routed) → P s → P (routed_step config s m r).state
    by_route s m NotFound p = p
    by_route s m (NotAllowed methods) p = p
    by_route s m (To t) p = by_operation s (operation_of m t) (fields_are_fit m.head.fields) p

    pub by_step : (s : State) (item : Item) (moment : ℕ) → P s → P (step config s item moment).state
    unfolding step
    by_step s (Fault r head_only) moment p = ticks s moment p
    by_step s Continue moment p = p
    by_step s (Request m) moment p = by_route (tick config s moment) m (target m.head.method m.head.path) (ticks s moment p)

    pub by_move : (s : State) (move : Move) → P s → P (moved config s move)
    by_move s (Made item moment) p = by_step s item moment p
    by_move s (Begun item moment) p = at_start s item moment p

    pub by_moves : (s : State) (moves : List Move) → P s → P (state_by config s moves)
    by_moves s [] p = p
    by_moves s (move ∷ moves) p = by_moves (moved config s move) moves (by_move s move p)
