use Rattle.std.proofs.Common.{sym, subst}
use Rattle.dep_operations.specs.Rulings.{HasRoomFor}
use Rattle.dep_requests.specs.Performing.{Rules}
use Rattle.dep_requests.specs.declared.performing.Ruled.{Ruled}
use Rattle.dep_requests.proofs.Stepping.{rules_seen}
use Rattle.dep_requests.proofs.performing.rule_by.Goals as goal

pub returns-in-Ok-clause-rules : goal.returns-in-Ok-clause-rules
returns-in-Ok-clause-rules c s loaded =
    subst (λ (r : Ruled). Rules c.args.config.now s c.args.operation.now r) (sym c.with_ruling.ensures)
    (rules_seen c.args.config.now s c.args.operation.now c.args.loaded c.in-Ok.ruling loaded (λ seen. c.in-Ok.ensures.ruling s seen))

pub returns-in-Ok-clause-room : goal.returns-in-Ok-clause-room
returns-in-Ok-clause-room c = subst (λ (r : Ruled). HasRoomFor r.view.next r.ruling) (sym c.with_ruling.ensures) c.in-Ok.ensures.room
