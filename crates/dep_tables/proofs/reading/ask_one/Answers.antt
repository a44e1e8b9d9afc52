use Rattle.dep_tables.proofs.Chains.{asks_read}
use Rattle.dep_tables.proofs.reading.ask_one.Goals as goal

pub returns-clause-keeps : goal.returns-clause-keeps
returns-clause-keeps g c = asks_read _ _ c.at_most_one.result c.in_ok-rows.ensures.keeps.stays c.in_ok-rows.ensures.shown
