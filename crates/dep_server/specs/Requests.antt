-- Steps and requests, as the laws speak of them.
use Rattle.std.specs.Prelude.{◌≡◌, ℕ, List, Some, None}
use Rattle.dep_types.specs.State.{State, tick}
use Rattle.dep_types.specs.declared.config.Config.{Config}
use Rattle.dep_types.specs.declared.target.Target.{Target}
use Rattle.dep_fields.specs.declared.kind.Kind.TheVariants.{Segment}
use Rattle.dep_router.specs.Targets.{target}
use Rattle.dep_router.specs.declared.routed.Routed.TheVariants.{To}
use Rattle.dep_message.specs.declared.message.Message.{Message}
use Rattle.dep_message.specs.Stream.{Item, Request}
use Rattle.dep_decisions.specs.Kinds.{content_kind}
use Rattle.dep_decisions.specs.Laws.{posted_to}
use Rattle.dep_decisions.specs.Rules.{refusal}
use Rattle.dep_answers.specs.Steps.{Stepped, sent_by}
use Rattle.dep_exchange.specs.Machine.{operation_of, step}

-- a step: under which configuration, in which state, of which item, and when
pub record AnyStep : Type 0 where
  pub config : Config
  pub state : State
  pub item : Item
  pub moment : ℕ

-- the state that its tick leaves
abbrev pub ticked : AnyStep → State
ticked x = tick x.config x.state x.moment

-- the step that is made of it
abbrev pub made : AnyStep → Stepped
made x = step x.config x.state x.item x.moment

-- a request that comes: under which configuration, in which state, and when
pub record AnyRequest : Type 0 where
  pub config : Config
  pub state : State
  pub message : Message
  pub moment : ℕ

-- its step
abbrev pub step_of : AnyRequest → AnyStep
step_of q =
    record { config = q.config; state = q.state; item = Request q.message; moment = q.moment }

-- the state that its step leaves
abbrev pub left_by : AnyRequest → State
left_by q = (made (step_of q)).state

-- what is sent for it
abbrev pub reply_to : AnyRequest → List ℕ
reply_to q = sent_by (made (step_of q))

-- a request for this resource is let through, in the state that its tick leaves
pub record IsLetThrough (config : Config) (s : State) (m : Message) (t : Target) : Type 0 where
  pub named : target m.head.method m.head.path ≡ To t
  pub passed : refusal config s (operation_of m t) ≡ None

-- it is accepted as a request for this resource
abbrev pub IsAcceptedFor : AnyRequest → Target → Type 0
IsAcceptedFor q t = IsLetThrough q.config (ticked (step_of q)) q.message t

-- it is accepted as a POST to this upload
abbrev pub IsPostAccepted : AnyRequest → (upload : ℕ) → Type 0
IsPostAccepted q u = IsAcceptedFor q (posted_to u)

-- a request is a POST to this upload
abbrev pub IsPostedTo : Message → (upload : ℕ) → Type 0
IsPostedTo m u = target m.head.method m.head.path ≡ To (posted_to u)

-- it is accepted as this segment of this upload
pub record IsAcceptedSegment (q : AnyRequest) (upload segment : ℕ) : Type 0 where
  pub accepted : IsPostAccepted q upload
  pub named : content_kind (operation_of q.message (posted_to upload)) ≡ Some (Segment segment)
