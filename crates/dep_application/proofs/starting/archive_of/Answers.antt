use Rattle.dep_application.proofs.starting.archive_of.Goals as goal

pub returns : goal.returns
returns g c = c.into_store.ensures.same
