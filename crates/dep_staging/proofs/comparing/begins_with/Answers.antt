use Rattle.std.proofs.Common.{ap, ◌∙◌, arith, bytes_eq, le-ltb}
use Rattle.dep_row_maps.specs.Stored.{blocks_of}
use Rattle.dep_staging.proofs.Compared.{begun_there, none_begun}
use Rattle.dep_staging.proofs.comparing.begins_with.Goals as goal

pub returns-then-count-gt0 : goal.returns-then-count-gt0
returns-then-count-gt0 g c =
    c.eq.ensures ∙ ap (bytes_eq c.args.block.now) c.block.ensures
    ∙ begun_there c.args.block.now (blocks_of (g.C.Content.bytes c.args.content.now)) (omega (arith, c.if-count-gt0.true, c.count.ensures.exact))

pub returns-else-count-gt0 : goal.returns-else-count-gt0
returns-else-count-gt0 g c =
    le-ltb 0 c.count.result c.if-count-gt0.false
    ∙ none_begun c.args.block.now (blocks_of (g.C.Content.bytes c.args.content.now)) (omega (arith, c.if-count-gt0.false, c.count.ensures.exact))
