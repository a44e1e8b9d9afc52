use Rattle.std.proofs.Common.{subst}
use Rattle.sqlite.specs.Order.{column}
use Rattle.dep_tables.specs.Rows.{IsOfKind}
use Rattle.dep_tables.proofs.OneMore.{one_more}
use Rattle.dep_tables.proofs.columns.has_kinds.Goals as goal

pub kinds-preserved : goal.kinds-preserved
kinds-preserved c =
    let this = subst (IsOfKind _) c.in-Ok.ensures.ok.1 (c.is_of_kind.ensures.0 c.if-is_of_kind.true) in
    one_more (λ i kind. IsOfKind kind (column c.args.row.now i)) c.args.kinds.now c.kinds.at _ c.kinds-test.true c.kinds.invariant this
