use Rattle.sqlite.specs.Held.{state}
use Rattle.dep_store.specs.Staying.{HashesOn}
use Rattle.dep_store.proofs.Cache.{forgotten}
use Rattle.dep_store.proofs.store.Store.hash_ahead.Goals as goal

pub returns : goal.returns
returns g c =
    let ran = c.read_in_transaction.ensures in
    let did : HashesOn (state g.S.Store c.self.inside.connection) (state g.S.Store c.read_in_transaction.new.connection) c.args.ahead.now c.read_in_transaction.new.what =
    record { ahead = ran.reports; rests = ran.rests; left = ran.left } in
    rw c.self.view_is at did

pub invariant_of-self : goal.invariant_of-self
invariant_of-self g c = forgotten (state g.S.Store c.read_in_transaction.new.connection)
