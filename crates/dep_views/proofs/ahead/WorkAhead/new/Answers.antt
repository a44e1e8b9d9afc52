use Rattle.dep_views.proofs.ahead.WorkAhead.new.Goals as goal

pub returns : goal.returns
returns c s = record { hashes = c.new.ensures s; rows = c.new-2.ensures s }
