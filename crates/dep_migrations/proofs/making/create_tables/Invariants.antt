use Rattle.dep_migrations.proofs.MadeTables.{AreMadeTo}
use Rattle.dep_migrations.proofs.making.create_tables.Given as goal

-- the tables before this text are made
abbrev pub invariant-loop-text : goal.invariant-loop-text
invariant-loop-text g l = AreMadeTo g.T.Statements.lenders g.T.Statements.state l.text-items l.text-index l.fn.tx l.tx
