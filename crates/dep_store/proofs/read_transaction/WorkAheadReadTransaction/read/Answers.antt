use Rattle.dep_store.proofs.read_transaction.WorkAheadReadTransaction.read.Goals as goal

pub returns : goal.returns
returns g c =
    let did = c.hash_ahead.ensures.does in
    record {
      reports = λ is_open clean inside ours s are sound ahead. record { hashes = did.map is_open clean ours s are sound ahead.hashes; rows = ahead.rows };
      stays = did.keeps.stays;
    }
