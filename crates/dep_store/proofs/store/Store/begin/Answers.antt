use Rattle.std.proofs.Common.{IsTrue, Err, refl}
use Rattle.sqlite.specs.Held.{state}
use Rattle.dep_store.proofs.Begun.{begins_if_found, begins_not, busy_begins, cached_still}
use Rattle.dep_types.specs.declared.store_fault.StoreFault.TheVariants.{Store}
use Rattle.dep_store.proofs.Cache.{forgotten}
use Rattle.dep_store.proofs.Tries.{is_busy, is_settled}
use Rattle.dep_store.proofs.store.Store.begin.Goals as goal

pub returns-then-not-is_autocommit : goal.returns-then-not-is_autocommit
returns-then-not-is_autocommit g c =
    let d = state g.S.Store c.args.self.now in
    let busy : IsTrue d.in_transaction = rw c.self.view_is at (is_busy c.self.inside.connection.in_transaction c.if-not-is_autocommit.ensures.value) in
    busy_begins d c.args.it busy (Err Store) refl

pub find_size-requires-clause-there : goal.find_size-requires-clause-there
find_size-requires-clause-there g c = c.self.invariant.2

pub returns-in_err-find_size : goal.returns-in_err-find_size
returns-in_err-find_size g c =
    let old = state g.S.Store c.self.inside.connection in
    let new = state g.S.Store c.find_size.new.connection in
    rw c.self.view_is at (begins_not old new c.args.it (λ is_open trees h. g.met.S.Store.settled c.self.inside.connection.store trees is_open h) c.from_residual.result c.from_residual.ensures.0 c.find_size.ensures.finds.restored)

pub returns : goal.returns
returns g c =
    let old = state g.S.Store c.self.inside.connection in
    let new = state g.S.Store c.find_size.new.connection in
    rw c.self.view_is at (begins_if_found old new c.args.it (λ is_open trees h. g.met.S.Store.settled c.self.inside.connection.store trees is_open h) _ (tt {0}) (is_settled c.self.inside.connection.in_transaction c.if-not-is_autocommit.ensures.value) c.in_ok-find_size.ensures)

pub invariant_of-self : goal.invariant_of-self
invariant_of-self g c = forgotten (state g.S.Store c.find_size.new.connection)

pub invariant_of-self-2 : goal.invariant_of-self-2
invariant_of-self-2 g c =
    let did = c.in_ok-find_size.ensures.finds in
    cached_still (state g.S.Store c.self.inside.connection) (state g.S.Store c.find_size.new.connection) _ _ did.restored.back (is_settled c.self.inside.connection.in_transaction c.if-not-is_autocommit.ensures.value) did.opened c.self.invariant
