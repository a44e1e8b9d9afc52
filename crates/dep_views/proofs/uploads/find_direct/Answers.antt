use Rattle.std.proofs.Common.{◌∙◌, [], false, map, ap, sym}
use Rattle.std.specs.Prelude.{if◌then◌else◌}
use Rattle.dep_operations.specs.Views.{upload_undigested}
use Rattle.dep_tables.proofs.Chains.{may_put}
use Rattle.dep_tables.proofs.Results.{if_then}
use Rattle.dep_views.proofs.uploads.find_direct.Goals as goal

pub returns-then-is_some : goal.returns-then-is_some
returns-then-is_some g c = record {
  map = record {
    found = λ clean inside ours s are is_open.
        c.empty.ensures ∙ sym (ap (λ b. map (upload_undigested false s) (if b then [] else c.args.touched.now.uploads)) (sym c.is_some.ensures ∙ c.if-is_some.true));
    keeps = may_put g.T.Statements.lenders g.T.Statements.state c.args.tx.now _;
  };
}

pub returns : goal.returns
returns g c = record {
  map = record {
    found = λ clean inside ours s are is_open.
        if_then c.find_uploads.result (c.find_uploads.ensures.map.found clean inside ours s are is_open)
        (λ views is. is ∙ ap (map (upload_undigested false s)) c.as_slice.ensures
        ∙ sym (ap (λ b. map (upload_undigested false s) (if b then [] else c.args.touched.now.uploads)) (sym c.is_some.ensures ∙ c.if-is_some.false)));
    keeps = c.find_uploads.ensures.map.keeps;
  };
}
