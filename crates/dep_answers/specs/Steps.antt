-- What is made of a request for a resource: the state that it leaves, and the reply to it.
use Rattle.std.specs.Prelude.{ℕ, Bool, true, false, List, ◌++◌, Option, Some, None}
use Rattle.dep_types.specs.State.{State}
use Rattle.dep_types.specs.declared.config.Config.{Config}
use Rattle.dep_types.specs.declared.refusal.Refusal.{Refusal}
use Rattle.dep_types.specs.declared.target.Method.{Method}
use Rattle.dep_types.specs.declared.target.Method.TheVariants.{Head}
use Rattle.dep_decisions.specs.declared.operation.Operation.{Operation}
use Rattle.dep_decisions.specs.Rules.{refusal}
use Rattle.dep_decisions.specs.Effects.{effect}
use Rattle.dep_answers.specs.Answers.{Answer}
use Rattle.dep_answers.specs.Replies.{front_text, stored_text, source_shown, answer_to, refused_answer}
use Rattle.dep_answers.specs.declared.performed.FileId.{FileId}

-- what a step leaves, what is sent for it, and whether it closes the connection
pub record Stepped : Type 0 where
  pub state : State
  -- the head of the reply, and a document
  pub front : List ℕ
  -- the content of a file behind it, as the archive keeps it
  pub stored : List ℕ
  -- the file whose content that is
  pub source : Option FileId
  pub closes : Bool

-- all that is sent for a step
abbrev pub sent_by : Stepped → List ℕ
sent_by stepped = stepped.front ++ stepped.stored

-- the step that leaves this state and is answered so at this clock
abbrev pub answered_step : State → Answer → (clock : ℕ) (is_head_only closes : Bool) → Stepped
answered_step s a clock is_head_only closes = record {
  state = s;
  front = front_text a clock is_head_only closes;
  stored = stored_text a is_head_only;
  source = source_shown a is_head_only;
  closes = closes;
}

-- what is refused leaves the state
abbrev pub refused_step : State → Refusal → (allow : Option (List ℕ)) → (is_head_only closes : Bool)
    → Stepped
refused_step s r allow is_head_only closes =
    answered_step s (refused_answer s.clock r allow) s.clock is_head_only closes

-- the reply to a HEAD is bare (RFC 9110, section 9.3.2)
abbrev pub is_head : Method → Bool
is_head Head = true
is_head method = false

-- the answer to an accepted request, at the state that it left
unfoldable pub accepted_answer : Config → State → Operation → Answer
accepted_answer config s op = answer_to config s op.target.resource op.target.method

-- what is accepted is answered at the state that its effect leaves
abbrev pub accepted_step : Config → State → Operation → (after : State) → Stepped
accepted_step config s op after =
    answered_step after (accepted_answer config after op) s.clock (is_head op.target.method) op.closes

-- by the first rule that is broken, if one is
abbrev pub step_by : Config → State → Operation → Option Refusal → Stepped
step_by config s op None = accepted_step config s op (effect config s op)
step_by config s op (Some r) = refused_step s r None (is_head op.target.method) op.closes

-- a request is refused by the first rule that it breaks, and else has its effect
unfoldable pub operation_step : Config → State → Operation → Stepped
operation_step config s op = step_by config s op (refusal config s op)
