-- The deposit machine: what one item of a stream does to the state, and what is sent for it.
use Rattle.std.specs.Prelude.{◌≡◌, ◌⊎◌, ℕ, true, false, List, [], ◌∷◌, ◌++◌, Some, None, codes}
use Rattle.dep_types.specs.State.{State, tick}
use Rattle.dep_types.specs.Writing.{IsProperPrefix}
use Rattle.dep_types.specs.declared.config.Config.{Config}
use Rattle.dep_types.specs.declared.refusal.Refusal.TheVariants as why
use Rattle.dep_types.specs.declared.target.Target.{Target}
use Rattle.dep_router.specs.Targets.{target}
use Rattle.dep_router.specs.declared.routed.Routed.{Routed}
use Rattle.dep_router.specs.declared.routed.Routed.TheVariants.{To, NotFound, NotAllowed}
use Rattle.dep_message.specs.declared.message.Message.{Message}
use Rattle.dep_message.specs.Places.{Place, Open, Shut, HasBytes}
use Rattle.dep_message.specs.Heads.{is_head_only, closes}
use Rattle.dep_message.specs.Stream.{Item, Fault, Continue, Request, Waits}
use Rattle.dep_fields.specs.Reported.{fields_of}
use Rattle.dep_fields.specs.Tags.{if_match_of}
use Rattle.dep_decisions.specs.declared.operation.Operation.{Operation}
use Rattle.dep_answers.specs.Steps.{Stepped, sent_by, refused_step, operation_step}
use Rattle.dep_exchange.specs.declared.arrived.Arrived.{Arrived}
use Rattle.dep_exchange.specs.declared.arrived.Arrived.TheVariants.{Open as StaysOpen, Closed, Cut}

-- the request that a message is, where its path names this resource and the resource has this
-- method
abbrev pub operation_of : Message → Target → Operation
operation_of m t = record {
  target = t;
  fields = fields_of m.head.fields;
  if_match = if_match_of m.head.fields;
  content = m.content;
  closes = closes m.head;
}

-- no such resource comes before no such method, and both before the rules (3 and 4 of the order of
-- refusals in docs/PROFILE.md)
abbrev pub routed_step : Config → State → Message → Routed → Stepped
routed_step config s m NotFound = refused_step s why.NotFound None (is_head_only m.head) (closes m.head)
routed_step config s m (NotAllowed methods) =
    refused_step s why.MethodNotAllowed (Some methods) (is_head_only m.head) (closes m.head)
routed_step config s m (To t) = operation_step config s (operation_of m t)

-- what a whole message asks for, by the resource and the method that it names
abbrev pub message_step : Config → State → Message → Stepped
message_step config s m = routed_step config s m (target m.head.method m.head.path)

-- the reply to a client that waits before it sends the body (RFC 9110, section 15.2.1)
abbrev pub continue_line : List ℕ
continue_line = codes "HTTP/1.1 100 Continue\r\n\r\n"

-- the state that a step begins with: the tick's, but telling a client to go on takes no tick
abbrev pub starting_state : Config → State → Item → ℕ → State
starting_state config s (Fault r head_only) moment = tick config s moment
starting_state config s Continue moment = s
starting_state config s (Request m) moment = tick config s moment

-- one step at a moment: the tick, and then what the item asks for
unfoldable pub step : Config → State → Item → ℕ → Stepped
step config s (Fault r head_only) moment = refused_step (tick config s moment) r None head_only true
step config s Continue moment =
    record { state = s; front = continue_line; stored = []; source = None; closes = false }
step config s (Request m) moment = message_step config (tick config s moment) m

-- the state after these items, one step each
abbrev pub state_after : Config → State → List Item → ℕ → State
state_after config s [] moment = s
state_after config s (item ∷ items) moment =
    state_after config (step config s item moment).state items moment

-- what is sent for them
abbrev pub replies : Config → State → List Item → ℕ → List ℕ
replies config s [] moment = []
replies config s (item ∷ items) moment =
    sent_by (step config s item moment)
    ++ replies config (step config s item moment).state items moment

-- the replies in place of a step's own (RFC 9110, sections 15.6.4 and 15.6.1)
abbrev pub out_of_memory : List ℕ
out_of_memory =
    codes "HTTP/1.1 503 Service Unavailable\r\nContent-Length: 0\r\nConnection: close\r\n\r\n"

-- the fixed reply where the store failed
abbrev pub store_fault : List ℕ
store_fault =
    codes "HTTP/1.1 500 Internal Server Error\r\nContent-Length: 0\r\nConnection: close\r\n\r\n"

-- all of the bytes were sent, or the rest was cut off
pub data SendsUpTo (whole : List ℕ) : List ℕ → Arrived → Type 0 where
  all : SendsUpTo whole whole Closed
  cut : {part : List ℕ} → IsProperPrefix part whole → SendsUpTo whole part Cut

-- a step that fails
pub data Fails (config : Config) (s : State) (item : Item) (moment : ℕ)
    : List ℕ → State → Arrived → Type 0 where
  -- a fixed reply in place of its own: the state is that of before, or that with which the step
  -- begins
  given_up : {fixed sent : List ℕ} {left : State} {answer : Arrived}
      → (fixed ≡ out_of_memory) ⊎ (fixed ≡ store_fault)
      → SendsUpTo fixed sent answer
      → (left ≡ s) ⊎ (left ≡ starting_state config s item moment)
      → Fails config s item moment sent left answer
  -- its own reply is cut short: the state is the step's
  cut_short : {sent : List ℕ} {left : State}
      → IsProperPrefix sent (sent_by (step config s item moment))
      → (left ≡ (step config s item moment).state)
      → Fails config s item moment sent left Cut

-- how a connection stands, by where its reading stands
abbrev pub answer_at_place : Place → Arrived
answer_at_place (Open continued rest) = StaysOpen
answer_at_place Shut = Closed

-- One arrival: the items that are complete now are stepped in order, until none is left or a step
-- fails. `reads items place` says that these items are the first of those, and that the reading
-- then stands at the place.
pub data Serves (config : Config) (reads : List Item → Place → Type 0) (s : State) (moment : ℕ)
    : (sent : List ℕ) → (left : State) → (at : Place) → (answer : Arrived) → Type 0 where
  serves_all : (items : List Item) {at : Place} → reads items at → Waits config.max_upload at
      → Serves config reads s moment (replies config s items moment)
      (state_after config s items moment)
      at (answer_at_place at)
  -- a step fails, and the connection makes no more
  step_fails : (items : List Item) (item : Item) (at : Place) {sent : List ℕ} {left : State}
      {answer : Arrived}
      → reads (items ++ item ∷ []) at
      → Fails config (state_after config s items moment) item moment sent left answer
      → Serves config reads s moment (replies config s items moment ++ sent) left Shut answer
  -- memory ran out over bytes that may be no whole item
  gives_up : (items : List Item) (at : Place) {sent : List ℕ} {answer : Arrived}
      → reads items at → HasBytes at
      → SendsUpTo out_of_memory sent answer
      → Serves config reads s moment (replies config s items moment ++ sent)
      (state_after config s items moment) Shut answer
