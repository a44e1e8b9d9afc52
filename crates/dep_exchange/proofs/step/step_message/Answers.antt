use Rattle.std.proofs.Common.{◌∙◌, sym}
use Rattle.std.specs.String.{string_bytes}
use Rattle.dep_router.specs.declared.routed.Routed.TheVariants.{NotAllowed}
use Rattle.dep_message.specs.Stream.{Request}
use Rattle.dep_exchange.specs.Machine.{operation_of}
use Rattle.dep_exchange.proofs.StepLemmas.{asked_same, message_made, never_ticked, operation_answered, none_answered, not_allowed_answered, same_end, same_operation}
use Rattle.dep_exchange.proofs.step.step_message.Goals as goal

pub returns-in-Err : goal.returns-in-Err
returns-in-Err g c =
    never_ticked c.args.context.now.site.now (Request c.args.message) c.args.context.now.moment (g.A.Archive.condition c.args.store.now) (g.A.Archive.condition c.tick.new.self) c.in-Err.fault
    tt (rw (c.config.ensures ∙ c.service.ensures) at c.in-Err.ensures.does) c.in-Err.ensures.shut

pub perform_at-requires : goal.perform_at-requires
perform_at-requires g c = c.requires ∙ sym (same_end c.args.message.head c.take_path-path.new.self c.take_path-path.ensures.rest)

pub returns-in-To : goal.returns-in-To
returns-in-To g c =
    let config = c.args.context.now.site.now in
    let message = c.args.message in
    let left = c.take_path-path.new.self in
    let ticked = g.A.Archive.condition c.tick.new.self in
    let new = g.A.Archive.condition c.perform_at.new.store in
    message_made config c.args.context.now.moment (g.A.Archive.condition c.args.store.now) ticked c.in-Ok.clock
    (rw (c.config.ensures ∙ c.service.ensures) at c.in-Ok.ensures.does) c.in-Ok.ensures.shut message new c.perform_at.result
    (operation_answered config message ticked new c.in-Ok.clock c.perform_at.result
    (operation_of (record { head = left; content = message.content }) c.in-To.target) c.in-To.target (same_operation message left c.in-To.target c.take_path-path.ensures.rest)
    (c.in-To.ensures ∙ asked_same message.head left c.method-2.result.now (string_bytes c.take_path-path.result) c.method-2.ensures c.take_path-path.ensures.rest c.take_path-path.ensures.path)
    c.perform_at.ensures)

pub returns-in-NotFound : goal.returns-in-NotFound
returns-in-NotFound g c =
    let config = c.args.context.now.site.now in
    let message = c.args.message in
    let left = c.take_path-path.new.self in
    let ticked = g.A.Archive.condition c.tick.new.self in
    message_made config c.args.context.now.moment (g.A.Archive.condition c.args.store.now) ticked c.in-Ok.clock
    (rw (c.config.ensures ∙ c.service.ensures) at c.in-Ok.ensures.does) c.in-Ok.ensures.shut message ticked c.refuse.result
    (none_answered config message c.in-Ok.clock c.is_without_body-is_head_only.result c.args.is_last c.is_without_body-is_head_only.ensures c.requires
    ticked (g.met.A.Archive.settled c.tick.new.self) c.refuse.result
    (c.in-NotFound.ensures ∙ asked_same message.head left c.method-2.result.now (string_bytes c.take_path-path.result) c.method-2.ensures c.take_path-path.ensures.rest c.take_path-path.ensures.path)
    c.refuse.ensures)

pub returns-in-NotAllowed : goal.returns-in-NotAllowed
returns-in-NotAllowed g c =
    let config = c.args.context.now.site.now in
    let message = c.args.message in
    let left = c.take_path-path.new.self in
    let ticked = g.A.Archive.condition c.tick.new.self in
    message_made config c.args.context.now.moment (g.A.Archive.condition c.args.store.now) ticked c.in-Ok.clock
    (rw (c.config.ensures ∙ c.service.ensures) at c.in-Ok.ensures.does) c.in-Ok.ensures.shut message ticked c.refuse-in-NotAllowed.result
    (not_allowed_answered config message c.in-Ok.clock c.is_without_body-is_head_only.result c.args.is_last c.is_without_body-is_head_only.ensures c.requires
    ticked (g.met.A.Archive.settled c.tick.new.self) c.refuse-in-NotAllowed.result c.as_str.result.now
    ((λ i. NotAllowed (c.as_str.ensures i)) ∙ c.in-NotAllowed.ensures ∙ asked_same message.head left c.method-2.result.now (string_bytes c.take_path-path.result) c.method-2.ensures c.take_path-path.ensures.rest c.take_path-path.ensures.path)
    c.refuse-in-NotAllowed.ensures)
