-- The step of a refused request, and what is sent for it.
use Rattle.std.proofs.Common.{◌≡◌, ℕ, Bool, true, false, List, [], Option, Some, None, refl, ap}
use Rattle.dep_types.specs.State.{State}
use Rattle.dep_types.specs.declared.config.Config.{Config}
use Rattle.dep_types.specs.declared.refusal.Refusal.{Refusal}
use Rattle.dep_decisions.specs.Rules.{refusal}
use Rattle.dep_decisions.specs.declared.operation.Operation.{Operation}
use Rattle.dep_answers.specs.Replies.{source_shown, stored_text, refused_answer}
use Rattle.dep_answers.specs.Steps.{step_by, refused_step, is_head, operation_step}

-- a refusal shows no content of a file
pub nothing_stored : (s : State) (r : Refusal) (allow : Option (List ℕ)) (is_head_only : Bool) → stored_text (refused_answer s.clock r allow) is_head_only ≡ []
unfolding stored_text
nothing_stored s r allow true = refl
nothing_stored s r allow false = refl

-- nor is it of a file
pub no_source : (clock : ℕ) (r : Refusal) (allow : Option (List ℕ)) (is_head_only : Bool) → source_shown (refused_answer clock r allow) is_head_only ≡ None
unfolding source_shown
no_source clock r allow true = refl
no_source clock r allow false = refl

-- the step of a refused request
pub step_refused : (config : Config) (s : State) (op : Operation) (r : Refusal) → refusal config s op ≡ Some r
    → operation_step config s op ≡ refused_step s r None (is_head op.target.method) op.closes
unfolding operation_step
step_refused config s op r refused = ap (λ (o : Option Refusal). step_by config s op o) refused
