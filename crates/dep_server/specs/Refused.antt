-- Items that are refused.
use Rattle.std.specs.Prelude.{◌≡◌, ℕ, Bool, List, [], Option, Some, None}
use Rattle.dep_types.specs.State.{State}
use Rattle.dep_types.specs.declared.config.Config.{Config}
use Rattle.dep_types.specs.declared.refusal.Refusal.{Refusal}
use Rattle.dep_types.specs.declared.refusal.Refusal.TheVariants as why
use Rattle.dep_router.specs.Targets.{target}
use Rattle.dep_router.specs.declared.routed.Routed.{Routed}
use Rattle.dep_router.specs.declared.routed.Routed.TheVariants.{To, NotFound, NotAllowed}
use Rattle.dep_message.specs.declared.message.Message.{Message}
use Rattle.dep_message.specs.Stream.{Item, Fault, Continue, Request}
use Rattle.dep_decisions.specs.Rules.{refusal}
use Rattle.dep_answers.specs.Replies.{front_text, refused_answer}
use Rattle.dep_answers.specs.Steps.{Stepped}
use Rattle.dep_exchange.specs.Machine.{operation_of}
use Rattle.dep_server.specs.Requests.{AnyStep, ticked}

-- why a request is refused, if it is, by what its path and its method name
abbrev pub routed_refusal : Config → State → Message → Routed → Option Refusal
routed_refusal config s m NotFound = Some why.NotFound
routed_refusal config s m (NotAllowed methods) = Some why.MethodNotAllowed
routed_refusal config s m (To t) = refusal config s (operation_of m t)

-- why an item is refused, if it is, in the state that its tick leaves
abbrev pub item_refusal : Config → State → Item → Option Refusal
item_refusal config s (Fault r head_only) = Some r
item_refusal config s Continue = None
item_refusal config s (Request m) =
    routed_refusal config s m (target m.head.method m.head.path)

-- why the item of a step is refused, if it is
abbrev pub refusal_in : AnyStep → Option Refusal
refusal_in x = item_refusal x.config (ticked x) x.item

-- the step leaves this state, and what is sent for it is the reply to the refusal, or its head, and
-- nothing behind it
pub record IsRefusedWith (s : State) (r : Refusal) (stepped : Stepped) : Type 0 where
  pub state : stepped.state ≡ s
  pub allow : Option (List ℕ)
  pub is_head_only : Bool
  pub reply :
      stepped.front ≡ front_text (refused_answer s.clock r allow) s.clock is_head_only stepped.closes
  pub alone : stepped.stored ≡ []
