use Rattle.std.proofs.Common.{arith}
use Rattle.dep_tables.specs.Statements.{by_key}
use Rattle.dep_tables.proofs.Done.{refuses, runs}
use Rattle.dep_tables.proofs.keyed.run_by_key.Goals as goal

pub returns-then-key-ge-LIMIT : goal.returns-then-key-ge-LIMIT
returns-then-key-ge-LIMIT g c = λ change makes. refuses _ (omega (arith, c.if-key-ge-LIMIT.true))

pub returns : goal.returns
returns g c = λ change makes. runs (by_key c.args.sql.now change c.args.key) (omega (arith, c.if-key-ge-LIMIT.false)) c.key_param.ensures c.run.ensures.runs c.run.ensures.cause c.run.ensures.keeps makes
