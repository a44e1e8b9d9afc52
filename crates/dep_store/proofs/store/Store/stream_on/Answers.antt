use Rattle.std.proofs.Common.{IsTrue}
use Rattle.std.proofs.lemmas.Result.{err_from_is_err_and}
use Rattle.sqlite.specs.Held.{state}
use Rattle.dep_store.proofs.Begun.{busy_sends_on, cached_still}
use Rattle.dep_store.proofs.Cache.{forgotten}
use Rattle.dep_store.proofs.Tries.{is_busy, is_settled}
use Rattle.dep_store.proofs.store.Store.stream_on.Goals as goal

-- what was cached is so still, since all is as it was
pub invariant_of-self-2 : goal.invariant_of-self-2
invariant_of-self-2 g c =
    let did = c.in_ok-next.ensures.sends.stays in
    cached_still (state g.S.Store c.self.inside.connection) (state g.S.Store c.send_on.new.connection) _ _ did.back (is_settled c.self.inside.connection.in_transaction c.if-not-is_autocommit.ensures.value) did.opened c.self.invariant

pub send_on-requires-clause-there : goal.send_on-requires-clause-there
send_on-requires-clause-there g c = c.self.invariant.2

pub returns-then-not-is_autocommit : goal.returns-then-not-is_autocommit
returns-then-not-is_autocommit g c =
    let d = state g.S.Store c.args.self.now in
    let busy : IsTrue d.in_transaction = rw c.self.view_is at (is_busy c.self.inside.connection.in_transaction c.if-not-is_autocommit.ensures.value) in
    busy_sends_on d busy (g.O.Outlet.taken c.args.out.now) (g.O.Outlet.failures c.args.out.now) c.args.it c.args.start

pub returns-in_err-next : goal.returns-in_err-next
returns-in_err-next g c =
    let reported = err_from_is_err_and c.from_residual.result c.from_residual.ensures.1 in
    rw (reported.1, reported.2) (rw c.self.view_is at c.in_err-next.ensures.sends)

pub returns : goal.returns
returns g c = rw c.self.view_is at c.in_ok-next.ensures.sends

pub invariant_of-self : goal.invariant_of-self
invariant_of-self g c = forgotten (state g.S.Store c.send_on.new.connection)
