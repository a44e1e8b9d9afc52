use Rattle.dep_uploads.proofs.ticking.idle_before.Goals as goal

pub returns : goal.returns
returns c = c.saturating_sub.ensures
