use Rattle.std.proofs.Common.{sym, subst}
use Rattle.sqlite.specs.Held.{state}
use Rattle.dep_views.specs.Ahead.{IsAhead}
use Rattle.dep_store.specs.Staying.{HashesOn}
use Rattle.dep_store.proofs.Cache.{forgotten}
use Rattle.dep_store.proofs.store.Store.prepare.Goals as goal

-- what was hashed is lent, and the same is there after it
pub returns : goal.returns
returns g c =
    let ran = c.read_in_transaction.ensures in
    let did : HashesOn (state g.S.Store c.self.inside.connection) (state g.S.Store c.read_in_transaction.new.connection) c.args.ahead.now c.ahead-1.given.0 = record {
      ahead = λ is_open s represents are. let told = ran.reports is_open s represents in subst (IsAhead s) (sym (c.ahead-1.given.1 (sym told.0))) (told.1 are);
      rests = ran.rests;
      left = ran.left;
    } in
    rw c.self.view_is at did

pub invariant_of-self : goal.invariant_of-self
invariant_of-self g c = forgotten (state g.S.Store c.read_in_transaction.new.connection)
