use Rattle.dep_staging.proofs.running.RunningHashes.take_due.Goals as goal

pub returns-clause-taken : goal.returns-clause-taken
returns-clause-taken c s are = (c.take.ensures.taken s are).0
