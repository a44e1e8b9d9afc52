use Rattle.dep_staging.proofs.Kept.{marked}
use Rattle.dep_staging.proofs.hashing.hash_on.Goals as goal

pub returns : goal.returns
returns g c = record {
  does = record {
    map = λ is_open clean ours s are sound running.
        c.put.ensures s (c.take-run.ensures.others s running) (marked s c.hash_blocks-hashed.new.run _ (c.hash_blocks-hashed.ensures.does.map is_open clean ours s are sound (c.take-run.ensures.taken s running).0).0);
    keeps = c.hash_blocks-hashed.ensures.does.keeps;
  };
}
