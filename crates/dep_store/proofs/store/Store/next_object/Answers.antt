use Rattle.std.proofs.Common.{◌≡◌, ℕ, Option}
use Rattle.std.specs.Prelude.{option_map}
use Rattle.sqlite.specs.Held.{state}
use Rattle.sqlite.proofs.StateLemmas.{clean_if_open}
use Rattle.dep_types.specs.State.{State}
use Rattle.dep_row_maps.specs.Keyed.{next_entry}
use Rattle.dep_row_maps.proofs.Readings.{next_object_read}
use Rattle.dep_store.proofs.Tries.{reports_over, reports_tables}
use Rattle.dep_store.proofs.Cache.{forgotten}
use Rattle.dep_store.proofs.store.Store.next_object.Goals as goal

pub returns-clause-does : goal.returns-clause-does
returns-clause-does g c =
    reports_over (state g.S.Store c.args.self.now) (state g.S.Store c.transact.new.connection) c.transact.result _ (rw c.self.view_is at c.transact.ensures.transacts)
    (λ (s : State) (found : Option ℕ). found ≡ option_map (λ e. e.0) (next_entry s.objects c.args.after))
    (λ t found s after means. next_object_read t s means.are c.args.after found after)

pub returns-clause-rows : goal.returns-clause-rows
returns-clause-rows g c =
    let store = c.transact.new.connection.store in
    reports_tables (state g.S.Store c.args.self.now) (state g.S.Store c.transact.new.connection) c.transact.result _ (rw c.self.view_is at c.transact.ensures.transacts)
    (clean_if_open (g.S.Store.view store) (g.met.S.Store.shut_if_dirty store))

pub returns-clause-opened : goal.returns-clause-opened
returns-clause-opened g c = rw c.self.view_is at c.transact.ensures.opened

pub invariant_of-self : goal.invariant_of-self
invariant_of-self g c = forgotten (state g.S.Store c.transact.new.connection)
