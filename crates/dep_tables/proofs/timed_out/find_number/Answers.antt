use Rattle.dep_tables.proofs.Done.{asked}
use Rattle.dep_tables.proofs.TimedOutTable.{finds_timed_out, find_is}
use Rattle.dep_tables.proofs.timed_out.find_number.Goals as goal

pub returns : goal.returns
returns g c = record { does = asked _ 1 find_is.plain c.ask_one_by_key.ensures (finds_timed_out _ _ c.args.upload) }
