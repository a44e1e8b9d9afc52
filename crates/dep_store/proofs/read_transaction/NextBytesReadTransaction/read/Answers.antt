use Rattle.dep_store.proofs.read_transaction.NextBytesReadTransaction.read.Goals as goal

pub returns : goal.returns
returns g c =
    let did = c.next_bytes.ensures.does in
    record { reports = λ is_open clean inside ours s are sound. did.map is_open clean ours s are; stays = did.keeps.stays }
