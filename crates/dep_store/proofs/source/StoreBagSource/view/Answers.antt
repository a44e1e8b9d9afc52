use Rattle.sqlite.specs.Held.{state}
use Rattle.sqlite.proofs.StateLemmas.{clean_if_open}
use Rattle.dep_transactions.proofs.Transacting.{reported_alone, kept_alone}
use Rattle.dep_store.proofs.Sources.{represents_still}
use Rattle.dep_store.proofs.source.StoreBagSource.view.Goals as goal

pub returns-clause-ok : goal.returns-clause-ok
returns-clause-ok g c clean s given = reported_alone _ _ _ (c.view.ensures.does.ok clean s given tt)

pub returns-clause-kept : goal.returns-clause-kept
returns-clause-kept g c clean s given = kept_alone _ _ _ (c.view.ensures.does.ok clean s given tt)

pub returns-clause-still : goal.returns-clause-still
returns-clause-still g c =
    let new = c.view.new.self in
    represents_still (state g.S.Store c.args.self.now) (state g.S.Store new) _ c.view.result
    (clean_if_open (g.S.Store.view new.store) (g.met.S.Store.shut_if_dirty new.store)) c.view.ensures.does
