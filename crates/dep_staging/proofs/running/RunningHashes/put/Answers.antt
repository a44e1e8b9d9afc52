use Rattle.dep_staging.proofs.running.RunningHashes.put.Goals as goal

pub returns-in-Some : goal.returns-in-Some
returns-in-Some c s are running = c.keep.ensures s are running
