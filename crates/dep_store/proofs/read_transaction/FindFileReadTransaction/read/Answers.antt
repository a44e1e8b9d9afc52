use Rattle.dep_store.proofs.read_transaction.FindFileReadTransaction.read.Goals as goal

pub returns : goal.returns
returns g c =
    let did = c.find_file.ensures.does in
    record { reports = λ is_open clean inside ours s are sound. did.map clean ours s are; stays = did.keeps.stays }
