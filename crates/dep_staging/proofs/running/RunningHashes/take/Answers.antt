use Rattle.std.proofs.Common.{◌∙◌, inl, ℕ, nat_eq, subst, sym}
use Rattle.lru.specs.LruCache.{LruCache}
use Rattle.dep_staging.specs.declared.running.RunningHash.{RunningHash}
use Rattle.dep_staging.proofs.Kept.{AreUnder, under_some, under_without, under_found}
use Rattle.dep_staging.proofs.running.RunningHashes.take.Goals as goal

pub returns-in-Some-pop-clause-others : goal.returns-in-Some-pop-clause-others
returns-in-Some-pop-clause-others c s are =
    subst (λ (cache : LruCache ℕ RunningHash). AreUnder s cache.entries) (sym c.pop.ensures.entries)
    (under_without s (nat_eq c.args.upload) c.in-Some.kept.entries (under_some s c.args.self.now c.in-Some.kept c.in-Some.is are))

pub returns-in-Some-pop-clause-taken : goal.returns-in-Some-pop-clause-taken
returns-in-Some-pop-clause-taken c s are =
    under_found s c.args.upload c.in-Some.kept.entries c.in-Some-pop.run' (under_some s c.args.self.now c.in-Some.kept c.in-Some.is are) (sym c.pop.ensures.value ∙ c.in-Some-pop.is)

pub returns-in-None-clause-others : goal.returns-in-None-clause-others
returns-in-None-clause-others c s are =
    subst (λ (cache : LruCache ℕ RunningHash). AreUnder s cache.entries) (sym c.pop.ensures.entries)
    (under_without s (nat_eq c.args.upload) c.in-Some.kept.entries (under_some s c.args.self.now c.in-Some.kept c.in-Some.is are))

pub returns-in-None-clause-taken : goal.returns-in-None-clause-taken
returns-in-None-clause-taken c s are = (inl c.new-in-None.ensures.fresh, c.new-in-None.ensures.upload)

pub returns-in_default-clause-others : goal.returns-in_default-clause-others
returns-in_default-clause-others c s are = are

pub returns-in_default-clause-taken : goal.returns-in_default-clause-taken
returns-in_default-clause-taken c s are = (inl c.new.ensures.fresh, c.new.ensures.upload)
