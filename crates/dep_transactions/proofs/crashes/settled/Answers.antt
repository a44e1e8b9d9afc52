use Rattle.sqlite.specs.Held.{state}
use Rattle.sqlite.proofs.StateLemmas.{clean_if_open}
use Rattle.dep_transactions.proofs.Transacting.{left_as_was}
use Rattle.dep_transactions.proofs.crashes.settled.Goals as goal

pub returns : goal.returns
returns g c =
    let store = c.args.connection.now.store in
    record {
      left = λ tables represents trees may. left_as_was (state g.S.Store c.args.connection.now) tables (λ trees h. g.met.S.Store.settled store trees represents.is_open h) represents trees may;
      clean = λ is_open. clean_if_open (g.S.Store.view store) (g.met.S.Store.shut_if_dirty store) is_open;
    }
