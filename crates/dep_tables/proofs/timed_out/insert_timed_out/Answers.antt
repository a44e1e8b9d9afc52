use Rattle.std.proofs.Common.{arith}
use Rattle.dep_tables.specs.Edits.{LacksTimedOut}
use Rattle.dep_tables.specs.Statements.{insertion_of_timed_out}
use Rattle.dep_tables.proofs.Done.{refuses, puts}
use Rattle.dep_tables.proofs.TimedOutTable.{inserts_timed_out}
use Rattle.dep_tables.proofs.timed_out.insert_timed_out.Goals as goal

pub returns-then-upload-ge-LIMIT : goal.returns-then-upload-ge-LIMIT
returns-then-upload-ge-LIMIT g c = record { does = refuses _ (omega (arith, c.if-upload-ge-LIMIT.true)); free = λ clean inside ours. tt }

pub returns : goal.returns
returns g c =
    let both = puts (insertion_of_timed_out c.args.upload) (LacksTimedOut c.args.upload) c.run.ensures.keeps (omega (arith, c.if-upload-ge-LIMIT.false)) c.key_param.ensures c.run.ensures.runs c.run.ensures.cause (inserts_timed_out _ _ c.args.upload) in
    record { does = both.0; free = both.1 }
