use Rattle.std.proofs.Common.{drop, arith}
use Rattle.std.proofs.lemmas.List.{drop_all}
use Rattle.dep_bag.specs.Giving.{state_of}
use Rattle.dep_bag.proofs.Payload.{none_so_far, one_more, one_fails, all_given}
use Rattle.dep_bag.proofs.giving.give_payload.Goals as goal

pub loop-row-init : goal.loop-row-init
loop-row-init g c =
    none_so_far (g.S.BagSource.condition c.args.source.now) (state_of g.K.Outlet.taken g.K.Outlet.failures c.args.sink.now) c.args.rows.now
    (g.met.S.BagSource.settled c.args.source.now)

pub loop-row-preserved : goal.loop-row-preserved
loop-row-preserved g c =
    let reported = state_of g.K.Outlet.taken g.K.Outlet.failures in
    one_more (g.S.BagSource.condition c.args.source.now) (g.S.BagSource.condition c.loop-row.source) (g.S.BagSource.condition c.give_stored.new.source)
    (reported c.args.sink.now) (reported c.loop-row.sink) (reported c.give_stored.new.sink)
    c.args.rows.now c.loop-row.row-index c.row-item.result _ c.loop-row-test.true c.row-item.is c.loop-row.invariant c.in_ok-give_stored.ensures

pub returns-in_err-give_stored : goal.returns-in_err-give_stored
returns-in_err-give_stored g c =
    let reported = state_of g.K.Outlet.taken g.K.Outlet.failures in
    one_fails (g.S.BagSource.condition c.args.source.now) (g.S.BagSource.condition c.loop-row.source) (g.S.BagSource.condition c.give_stored.new.source)
    (reported c.args.sink.now) (reported c.loop-row.sink) (reported c.give_stored.new.sink)
    c.args.rows.now c.loop-row.row-index c.row-item.result c.in_err-give_stored.field-0.0 c.from_residual.result
    c.loop-row-test.true c.row-item.is c.loop-row.invariant c.in_err-give_stored.ensures c.from_residual.ensures.1

pub returns : goal.returns
returns g c =
    let reported = state_of g.K.Outlet.taken g.K.Outlet.failures in
    all_given (g.S.BagSource.condition c.args.source.now) (g.S.BagSource.condition c.loop-row.source) (reported c.args.sink.now) (reported c.loop-row.sink)
    c.args.rows.now (drop c.loop-row.row-index c.args.rows.now) _ (drop_all c.loop-row.row-index c.args.rows.now (omega arith)) c.loop-row.invariant
