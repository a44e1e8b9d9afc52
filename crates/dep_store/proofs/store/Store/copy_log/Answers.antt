use Rattle.std.proofs.Common.{IsTrue, Err, refl}
use Rattle.sqlite.specs.Held.{state}
use Rattle.sqlite.proofs.StateLemmas.{clean_if_open}
use Rattle.dep_types.specs.declared.store_fault.StoreFault.TheVariants.{Store}
use Rattle.dep_transactions.proofs.Transacting.{fails_back}
use Rattle.dep_store.specs.Copying.{CopiesLog}
use Rattle.dep_store.proofs.Copied.{copies, copies_open}
use Rattle.dep_store.proofs.ShutLemmas.{fails_still}
use Rattle.dep_store.proofs.Tries.{busy_tries, busy_transacts, busy_fails, is_busy}
use Rattle.dep_store.proofs.Cache.{forgotten}
use Rattle.dep_store.proofs.store.Store.copy_log.Goals as goal

pub returns-in_err-check_open : goal.returns-in_err-check_open
returns-in_err-check_open g c =
    let first = c.self.inside.connection in
    let old = state g.S.Store first in
    let new = state g.S.Store c.check_open.new.connection in
    let result = c.from_residual.result in
    let is_err = c.from_residual.ensures.0 in
    let restored = c.check_open.ensures.restored in
    let done : CopiesLog old new result =
    copies old new result (fails_back old new result _ is_err (λ is_open trees h. g.met.S.Store.settled first.store trees is_open h) restored.back restored.survives)
    (fails_still old new result is_err restored.survives) in
    rw c.self.view_is at done

pub returns : goal.returns
returns g c =
    let first = c.self.inside.connection in
    let mid = c.check_open.new.connection in
    let new = state g.S.Store c.transact.new.connection in
    let done : CopiesLog (state g.S.Store first) new c.transact.result =
    copies_open (state g.S.Store first) (state g.S.Store mid) new c.transact.result (λ is_open trees h. g.met.S.Store.settled first.store trees is_open h)
    (clean_if_open (g.S.Store.view mid.store) (g.met.S.Store.shut_if_dirty mid.store)) (record { opened = c.in_ok-check_open.ensures.opened; restored = c.check_open.ensures.restored })
    c.transact.ensures.transacts in
    rw c.self.view_is at done

pub returns-then-not-is_autocommit : goal.returns-then-not-is_autocommit
returns-then-not-is_autocommit g c =
    let d = state g.S.Store c.args.self.now in
    let busy : IsTrue d.in_transaction = rw c.self.view_is at (is_busy c.self.inside.connection.in_transaction c.if-not-is_autocommit.ensures.value) in
    record { does = busy_tries d busy (Err Store) refl; transacts = busy_transacts d busy (Err Store) refl; shut = busy_fails d busy (Err Store) refl }

pub invariant_of-self : goal.invariant_of-self
invariant_of-self g c = forgotten (state g.S.Store c.check_open.new.connection)

pub invariant_of-self-2 : goal.invariant_of-self-2
invariant_of-self-2 g c = forgotten (state g.S.Store c.transact.new.connection)
