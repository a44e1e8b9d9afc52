use Rattle.std.proofs.Common.{inl, IfErr, refl, subst}
use Rattle.sqlite.specs.State.{HasCleanDisk}
use Rattle.sqlite.specs.Held.{Held, state}
use Rattle.sqlite.proofs.StateLemmas.{clean_if_open}
use Rattle.dep_exchange.specs.Archives.{KeepsAll}
use Rattle.dep_store.specs.Archive.{shown_by}
use Rattle.dep_store.specs.Shut.{StoreFailsToReport}
use Rattle.dep_store.specs.Staying.{LeavesOnly}
use Rattle.dep_store.proofs.Cache.{forgotten, open_if_cached}
use Rattle.dep_store.proofs.ShutLemmas.{tells_open, tells_why}
use Rattle.dep_store.proofs.Tries.{is_busy, keeps_back, keeps_same, leaves_only}
use Rattle.dep_store.proofs.store.Store.is_open.Goals as goal

pub returns-then-is_some : goal.returns-then-is_some
returns-then-is_some g c =
    let known = open_if_cached (state g.S.Store c.self.inside.connection) c.self.inside.known.cache c.self.invariant.1 c.if-is_some.ensures in
    record { reported = rw c.self.view_is at known; cause = λ clean. tt; rests = keeps_same (state g.S.Store c.args.self.now); left = λ clean trees h. h }

pub returns-then-not-is_autocommit : goal.returns-then-not-is_autocommit
returns-then-not-is_autocommit g c =
    let busy = is_busy c.self.inside.connection.in_transaction c.if-not-is_autocommit.ensures.value in
    record { reported = tt; cause = λ clean. inl (rw c.self.view_is at busy, refl); rests = keeps_same (state g.S.Store c.args.self.now); left = λ clean trees h. h }

pub returns : goal.returns
returns g c =
    let old = state g.S.Store c.self.inside.connection in
    let last = c.probe.new.connection in
    let new = state g.S.Store last in
    let clean_now = clean_if_open (g.S.Store.view last.store) (g.met.S.Store.shut_if_dirty last.store) in
    let asked = c.probe.ensures in
    let reported = c.reported_by.ensures in
    record {
      reported = tells_open old new clean_now c.probe.result c.reported_by.result reported asked.opened asked.cause;
      cause = subst (λ (h : Held _). HasCleanDisk new → IfErr c.reported_by.result (StoreFailsToReport (state g.S.Store h) new)) c.self.view_is (tells_why old new clean_now c.probe.result c.reported_by.result reported asked.cause);
      rests = subst (λ (h : Held _). KeepsAll (shown_by (state g.S.Store h)) (shown_by new)) c.self.view_is (keeps_back old new asked.restored);
      left = subst (λ (h : Held _). LeavesOnly (state g.S.Store h) new) c.self.view_is (leaves_only old new asked.restored.survives);
    }

pub invariant_of-self : goal.invariant_of-self
invariant_of-self g c = forgotten (state g.S.Store c.probe.new.connection)
