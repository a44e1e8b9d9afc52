use Rattle.std.proofs.Common.{◌≡◌, Option}
use Rattle.sqlite.specs.Held.{state}
use Rattle.sqlite.proofs.StateLemmas.{clean_if_open}
use Rattle.dep_types.specs.State.{State}
use Rattle.dep_types.specs.declared.rows.ObjectView.{ObjectView}
use Rattle.dep_bag.specs.Source.{view_at}
use Rattle.dep_transactions.proofs.Transacting.{still_reports}
use Rattle.dep_store.proofs.Tries.{reports_over}
use Rattle.dep_store.proofs.Cache.{forgotten}
use Rattle.dep_store.proofs.store.Store.view.Goals as goal

pub returns-clause-does : goal.returns-clause-does
returns-clause-does g c =
    reports_over (state g.S.Store c.args.self.now) (state g.S.Store c.transact.new.connection) c.transact.result _ (rw c.self.view_is at c.transact.ensures.transacts)
    (λ (s : State) (found : Option ObjectView). found ≡ view_at s c.args.object) (λ t found s reported means. reported s means)

pub returns-clause-still : goal.returns-clause-still
returns-clause-still g c is_open t given =
    let store = c.transact.new.connection.store in
    still_reports _ _ _ _ c.transact.ensures.transacts (clean_if_open (g.S.Store.view store) (g.met.S.Store.shut_if_dirty store)) is_open t (rw (← c.self.view_is) at given)

pub returns-clause-opened : goal.returns-clause-opened
returns-clause-opened g c = rw c.self.view_is at c.transact.ensures.opened

pub invariant_of-self : goal.invariant_of-self
invariant_of-self g c = forgotten (state g.S.Store c.transact.new.connection)
