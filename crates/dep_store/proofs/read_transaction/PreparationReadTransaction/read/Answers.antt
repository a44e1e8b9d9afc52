use Rattle.std.proofs.Common.{refl}
use Rattle.dep_store.proofs.read_transaction.PreparationReadTransaction.read.Goals as goal

pub returns : goal.returns
returns g c =
    let did = c.prepare.ensures.does in
    record { reports = λ is_open clean inside ours s sees sound. (refl, did.map is_open clean ours s sees sound); stays = did.keeps.stays }
