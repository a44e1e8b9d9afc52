use Rattle.std.proofs.Common.{◌≡◌, IfOk, Option, ap, subst, sym}
use Rattle.dep_types.specs.declared.target.Method.{Method}
use Rattle.dep_answers.specs.declared.read_set.Shown.{Shown}
use Rattle.dep_requests.specs.Performing.{known_at}
use Rattle.dep_requests.proofs.KnownReplies.{not_deleted}
use Rattle.dep_requests.proofs.performing.known_by.Goals as goal

pub returns-in-Delete : goal.returns-in-Delete
returns-in-Delete c s it = sym (ap (λ (m : Method). known_at s c.args.operation.now.content c.args.decision.now m) c.in-Delete.is)

pub returns-in_default : goal.returns-in_default
returns-in_default c s it =
    subst (λ (known : Option Shown). IfOk c.known_after.result (λ found. found ≡ known))
    (not_deleted s c.args.operation.now.content c.args.decision.now c.args.operation.now.target.method c.in_default.not-Delete) (c.known_after.ensures.reported s it)
