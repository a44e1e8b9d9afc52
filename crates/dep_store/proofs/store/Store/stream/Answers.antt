use Rattle.std.proofs.Common.{IsTrue}
use Rattle.std.proofs.lemmas.Result.{err_from_is_err_and}
use Rattle.sqlite.specs.Held.{state}
use Rattle.dep_transactions.proofs.Transacting.{stood_before}
use Rattle.dep_requests.proofs.CacheLemmas.{none_is}
use Rattle.dep_store.proofs.Cache.{forgotten}
use Rattle.dep_store.proofs.Tries.{busy_sends, is_busy, is_settled}
use Rattle.dep_store.proofs.store.Store.stream.Goals as goal

-- what was cached is so still, since all is as it was
pub invariant_of-self-2 : goal.invariant_of-self-2
invariant_of-self-2 g c = (
  λ m is s represents.
      c.self.invariant.0 m is s
      (stood_before (state g.S.Store c.self.inside.connection) (state g.S.Store c.stream_known.new.connection) c.in_ok-stream_known.ensures.sends.stays.back (is_settled c.self.inside.connection.in_transaction c.if-not-is_autocommit.ensures.value) s represents),
  λ m is clean. c.in_ok-stream_known.ensures.sends.stays.opened clean,
  λ it is. absurd (none_is is),
)

pub stream_known-requires-clause-there : goal.stream_known-requires-clause-there
stream_known-requires-clause-there g c = c.self.invariant.2

pub returns-then-not-is_autocommit : goal.returns-then-not-is_autocommit
returns-then-not-is_autocommit g c =
    let d = state g.S.Store c.args.self.now in
    let busy : IsTrue d.in_transaction = rw c.self.view_is at (is_busy c.self.inside.connection.in_transaction c.if-not-is_autocommit.ensures.value) in
    busy_sends d busy (g.O.Outlet.taken c.args.out.now) (g.O.Outlet.failures c.args.out.now) c.args.file

pub returns-in_err-stream_known : goal.returns-in_err-stream_known
returns-in_err-stream_known g c =
    let reported = err_from_is_err_and c.from_residual.result c.from_residual.ensures.1 in
    rw (reported.1, reported.2) (rw c.self.view_is at c.in_err-stream_known.ensures.sends)

pub returns : goal.returns
returns g c = rw c.self.view_is at c.in_ok-stream_known.ensures.sends

pub invariant_of-self : goal.invariant_of-self
invariant_of-self g c = forgotten (state g.S.Store c.stream_known.new.connection)
