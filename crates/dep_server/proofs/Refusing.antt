-- A refused item changes nothing but what its tick does.
use Rattle.std.proofs.Common.{◌≡◌, ℕ, Bool, true, List, Option, Some, None, refl, sym, subst}
use Rattle.dep_types.specs.State.{State, tick}
use Rattle.dep_types.specs.declared.config.Config.{Config}
use Rattle.dep_types.specs.declared.refusal.Refusal.{Refusal}
use Rattle.dep_types.specs.declared.refusal.Refusal.TheVariants as why
use Rattle.dep_decisions.specs.declared.operation.Operation.{Operation}
use Rattle.dep_answers.specs.Steps.{Stepped, refused_step, is_head}
use Rattle.dep_answers.proofs.RefusedSteps.{nothing_stored, step_refused}
use Rattle.dep_message.specs.Heads.{is_head_only, closes}
use Rattle.dep_message.specs.Stream.{Item, Fault, Continue, Request}
use Rattle.dep_message.specs.declared.message.Message.{Message}
use Rattle.dep_router.specs.Targets.{target}
use Rattle.dep_router.specs.declared.routed.Routed.{Routed}
use Rattle.dep_router.specs.declared.routed.Routed.TheVariants.{To, NotFound, NotAllowed}
use Rattle.dep_exchange.specs.Machine.{operation_of, routed_step, step}
use Rattle.dep_server.specs.Refused.{routed_refusal, item_refusal, IsRefusedWith}

reported : (s : State) (r : Refusal) (allow : Option (List ℕ)) (head_only ends : Bool) → IsRefusedWith s r (refused_step s r allow head_only ends)
reported s r allow head_only ends = record { state = refl; allow = allow; is_head_only = head_only; reply = refl; alone = nothing_stored s r allow head_only }

-- a refusal that is named is this one
by_name : (s : State) (named r : Refusal) (allow : Option (List ℕ)) (head_only ends : Bool) → Some named ≡ Some r → IsRefusedWith s r (refused_step s named allow head_only ends)
by_name s named r allow head_only ends e = (let same : named ≡ r = cc in subst (λ (x : Refusal). IsRefusedWith s x (refused_step s named allow head_only ends)) same (reported s named allow head_only ends))

by_route : (config : Config) (s : State) (m : Message) (route : Routed) (r : Refusal) → routed_refusal config s m route ≡ Some r → IsRefusedWith s r (routed_step config s m route)
by_route config s m NotFound r e = by_name s why.NotFound r None (is_head_only m.head) (closes m.head) e
by_route config s m (NotAllowed methods) r e = by_name s why.MethodNotAllowed r (Some methods) (is_head_only m.head) (closes m.head) e
by_route config s m (To t) r e =
    let op : Operation = operation_of m t in
    subst (λ (x : Stepped). IsRefusedWith s r x) (sym (step_refused config s op r e)) (reported s r None (is_head op.target.method) op.closes)

pub item_refused : (config : Config) (s : State) (item : Item) (moment : ℕ) (r : Refusal) → item_refusal config (tick config s moment) item ≡ Some r
    → IsRefusedWith (tick config s moment) r (step config s item moment)
unfolding step
item_refused config s (Fault named head_only) moment r e = by_name (tick config s moment) named r None head_only true e
item_refused config s Continue moment r e = absurd (cc)
item_refused config s (Request m) moment r e = by_route config (tick config s moment) m (target m.head.method m.head.path) r e
