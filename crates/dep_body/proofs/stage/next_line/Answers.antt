use Rattle.std.proofs.Common.{refl, arith}
use Rattle.dep_body.proofs.SectionSteps.{lines_long, lines_go}
use Rattle.dep_body.proofs.stage.next_line.Goals as goal

pub returns-then-length-eq-SECTION_LIMIT : goal.returns-then-length-eq-SECTION_LIMIT
returns-then-length-eq-SECTION_LIMIT c = λ limit text content h. lines_long limit content text c.args.length c.args.good h c.if-length-eq-SECTION_LIMIT.true

pub returns : goal.returns
returns c = λ limit text content h. lines_go limit content text c.args.length c.args.good _ h (omega arith) refl refl refl refl
