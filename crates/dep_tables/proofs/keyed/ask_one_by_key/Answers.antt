use Rattle.std.proofs.Common.{arith}
use Rattle.dep_tables.proofs.Done.{refuses_asking, asks_where}
use Rattle.dep_tables.proofs.keyed.ask_one_by_key.Goals as goal

pub returns-then-key-ge-LIMIT : goal.returns-then-key-ge-LIMIT
returns-then-key-ge-LIMIT g c = refuses_asking (omega (arith, c.if-key-ge-LIMIT.true))

pub returns : goal.returns
returns g c = asks_where (omega (arith, c.if-key-ge-LIMIT.false)) c.key_param.ensures c.ask_one.ensures.shown c.ask_one.ensures.cause c.ask_one.ensures.keeps
