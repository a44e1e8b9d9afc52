use Rattle.sqlite.proofs.StateLemmas.{clean_if_open}
use Rattle.dep_transactions.proofs.Transactions.{begins_open}
use Rattle.dep_transactions.proofs.crashes.began_open.Goals as goal

pub returns : goal.returns
returns g c old inside new whole is_open =
    begins_open g.S.Store old inside new whole (clean_if_open (g.S.Store.view new.store) (g.met.S.Store.shut_if_dirty new.store) is_open) is_open
