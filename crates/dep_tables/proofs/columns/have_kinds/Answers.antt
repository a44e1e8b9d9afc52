use Rattle.std.proofs.Common.{subst}
use Rattle.dep_tables.specs.Rows.{HasKinds}
use Rattle.dep_tables.proofs.OneMore.{one_more}
use Rattle.dep_tables.proofs.columns.have_kinds.Goals as goal

pub rows-preserved : goal.rows-preserved
rows-preserved c =
    let this = subst (HasKinds c.args.kinds.now) c.row-item.is (c.has_kinds.ensures.0 c.if-not-has_kinds.false) in
    one_more (λ _ row. HasKinds c.args.kinds.now row) c.args.rows.now c.rows.row-index c.row-item.result c.rows-test.true c.rows.invariant this
