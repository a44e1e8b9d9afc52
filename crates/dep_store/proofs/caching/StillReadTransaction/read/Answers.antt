use Rattle.dep_store.proofs.Cache.{read_of}
use Rattle.dep_store.proofs.caching.StillReadTransaction.read.Goals as goal

pub returns : goal.returns
returns g c =
    let did = c.read_still.ensures in
    record {
      reports = λ is_open clean inside ours s sees sound. read_of c.args.self.now.config.now c.args.self.now.moment s c.read_still.result (did.map clean inside ours s sees sound) did.covers;
      stays = did.stays;
    }
