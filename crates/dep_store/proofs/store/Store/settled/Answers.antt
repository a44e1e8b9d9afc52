use Rattle.sqlite.specs.Held.{state}
use Rattle.sqlite.proofs.StateLemmas.{clean_if_open}
use Rattle.dep_transactions.proofs.Transacting.{leaves_as_was}
use Rattle.dep_store.proofs.store.Store.settled.Goals as goal

pub returns-clause-left : goal.returns-clause-left
returns-clause-left g c s represents =
    let store = c.args.self.now.store in
    leaves_as_was (state g.S.Store c.args.self.now) s (λ trees h. g.met.S.Store.settled store trees represents.represents.is_open h) represents

pub returns-clause-clean : goal.returns-clause-clean
returns-clause-clean g c is_open =
    let store = c.args.self.now.store in
    clean_if_open (g.S.Store.view store) (g.met.S.Store.shut_if_dirty store) is_open
