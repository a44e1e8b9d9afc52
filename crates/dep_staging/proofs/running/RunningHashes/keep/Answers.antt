use Rattle.std.proofs.Common.{ℕ, refl, subst, sym}
use Rattle.lru.specs.LruCache.{LruCache}
use Rattle.dep_staging.specs.declared.running.RunningHash.{RunningHash}
use Rattle.dep_staging.proofs.Kept.{AreUnder, under_some, under_with}
use Rattle.dep_staging.proofs.running.RunningHashes.keep.Goals as goal

pub returns-in-Ok-Some : goal.returns-in-Ok-Some
returns-in-Ok-Some c s are running =
    subst (λ (cache : LruCache ℕ RunningHash). AreUnder s cache.entries) (sym c.in-Ok-Some.ensures.entries)
    (under_with s c.in-Some.kept c.args.run.upload c.args.run (under_some s c.claim.new.self c.in-Some.kept c.in-Some.is (c.claim.ensures s are)) running refl)

pub returns-in-Ok-None : goal.returns-in-Ok-None
returns-in-Ok-None c s are running =
    subst (λ (cache : LruCache ℕ RunningHash). AreUnder s cache.entries) (sym c.in-Ok-None.ensures.entries)
    (under_with s c.in-Some.kept c.args.run.upload c.args.run (under_some s c.claim.new.self c.in-Some.kept c.in-Some.is (c.claim.ensures s are)) running refl)

pub returns-in-Err : goal.returns-in-Err
returns-in-Err c s are running =
    subst (λ (cache : LruCache ℕ RunningHash). AreUnder s cache.entries) (sym c.in-Err.ensures.err)
    (under_some s c.claim.new.self c.in-Some.kept c.in-Some.is (c.claim.ensures s are))
