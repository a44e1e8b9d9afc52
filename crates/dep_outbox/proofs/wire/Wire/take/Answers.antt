use Rattle.std.proofs.Common.{arith, rules}
use Rattle.std.proofs.lemmas.Result.{IfOk-from_err}
use Rattle.dep_outbox.proofs.WireLemmas.{none_taken, takes_none, appends_behind, appends_after, part_after, at_any_error}
use Rattle.dep_outbox.proofs.wire.Wire.take.Goals as goal

pub returns-then-is_empty-clause-ok : goal.returns-then-is_empty-clause-ok
returns-then-is_empty-clause-ok g c = takes_none _ c.args.bytes.now (search rules)

pub returns-in_err-make_room-clause-ok : goal.returns-in_err-make_room-clause-ok
returns-in_err-make_room-clause-ok g c = IfOk-from_err c.from_residual.result _ c.from_residual.ensures.0

pub returns-in_err-make_room-clause-err : goal.returns-in_err-make_room-clause-err
returns-in_err-make_room-clause-err g c =
    at_any_error c.from_residual.result (none_taken _ _ c.args.bytes.now (grind arith) c.make_room.ensures.keeps)

pub returns-in_err-make_room-clause-failures : goal.returns-in_err-make_room-clause-failures
returns-in_err-make_room-clause-failures g c = c.make_room.ensures.failures

pub returns-in_err-push-clause-ok : goal.returns-in_err-push-clause-ok
returns-in_err-push-clause-ok g c = IfOk-from_err c.from_residual-in_err-push.result _ c.from_residual-in_err-push.ensures.0

pub returns-in_err-push-clause-err : goal.returns-in_err-push-clause-err
returns-in_err-push-clause-err g c =
    at_any_error c.from_residual-in_err-push.result (part_after _ _ _ _ c.args.bytes.now c.make_room.ensures.keeps c.in_err-push.ensures.err)

pub returns-in_err-push-clause-failures : goal.returns-in_err-push-clause-failures
returns-in_err-push-clause-failures g c = c.make_room.ensures.failures

pub returns-clause-ok : goal.returns-clause-ok
returns-clause-ok g c =
    appends_after _ _ _ c.args.bytes.now c.make_room.ensures.keeps (appends_behind _ _ _ c.args.bytes.now c.in_ok-push.ensures.ok)

pub returns-clause-failures : goal.returns-clause-failures
returns-clause-failures g c = c.make_room.ensures.failures
