use Rattle.std.proofs.Common.{◌∙◌, List, ap, length, nat_eq, sym}
use Rattle.std.proofs.lemmas.Result.{IfOk-from_err}
use Rattle.dep_tables.specs.Tables.{tables_of}
use Rattle.dep_tables.specs.declared.segments.SegmentRow.{SegmentRow}
use Rattle.dep_tables.proofs.Chains.{may_err, may_ok, may_put, may_read}
use Rattle.dep_views.proofs.Counted.{counted_whole}
use Rattle.dep_views.proofs.Found.{segments_within}
use Rattle.dep_views.proofs.segments.is_whole.Goals as goal

pub returns-then-is_hashed_whole : goal.returns-then-is_hashed_whole
returns-then-is_hashed_whole g c = record {
  map = record {
    found = λ clean inside ours s are sound running it there same. sym (c.is_hashed_whole.ensures c.if-is_hashed_whole.true s running it there same);
    keeps = may_put g.T.Statements.lenders g.T.Statements.state c.args.tx.now _;
  };
}

pub returns : goal.returns
returns g c = record {
  map = record {
    found = λ clean inside ours s are sound running it there same.
        let row = c.args.row.now in
        let t = tables_of (g.T.Statements.state c.args.tx.now) in
        ap (λ (rows : List SegmentRow). nat_eq (length rows) row.count) c.as_slice.ensures.value
        ∙ counted_whole t s are row.upload row.count it there same (segments_within s row.upload it sound there) c.in_ok-received.received.items (c.in_ok-received.ensures.does.ok clean ours);
    keeps = may_ok (may_read c.in_ok-received.ensures.does.keeps);
  };
}

pub returns-in_err-received : goal.returns-in_err-received
returns-in_err-received g c = record {
  map = record {
    found = λ clean inside ours s are sound running. IfOk-from_err c.from_residual.result _ c.from_residual.ensures.0;
    keeps = may_err c.from_residual.ensures.0 (may_read c.in_err-received.ensures.does.keeps);
  };
}
