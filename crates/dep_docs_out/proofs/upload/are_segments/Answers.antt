use Rattle.dep_docs_out.proofs.Rising.{falls_at, rises_at, rises_to_end}
use Rattle.dep_docs_out.proofs.upload.are_segments.Goals as goal

pub returns-then-number-last : goal.returns-then-number-last
returns-then-number-last c =
    falls_at c.args.numbers.now c.loop-number.last c.loop-number.number-index c.loop-number-test.true c.loop-number.invariant c.if-number-last.true

pub loop-number-preserved : goal.loop-number-preserved
loop-number-preserved c =
    rises_at c.args.numbers.now c.loop-number.last c.loop-number.number-index c.loop-number-test.true c.loop-number.invariant c.if-number-last.false

pub returns : goal.returns
returns c =
    rises_to_end c.args.numbers.now c.loop-number.last c.loop-number.number-index c.loop-number-test.false c.loop-number.invariant
