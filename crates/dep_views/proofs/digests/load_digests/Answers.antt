use Rattle.std.proofs.Common.{◌∙◌, map, not, true, refl, ap, sym, subst}
use Rattle.std.specs.List.{All}
use Rattle.dep_operations.specs.Views.{upload_view}
use Rattle.dep_operations.specs.declared.view.UploadView.{UploadView}
use Rattle.dep_tables.proofs.Chains.{may_err, may_ok, may_put}
use Rattle.dep_views.specs.Seen.{IsUndigested}
use Rattle.dep_views.proofs.Hashed.{all_undigested, hashed_all, nothing_to_hash}
use Rattle.dep_views.proofs.digests.load_digests.Goals as goal

pub returns-then-is_none : goal.returns-then-is_none
returns-then-is_none g c = record {
  map = record {
    found = λ clean inside ours s are is_open sound running. (running, λ content t same. nothing_to_hash s content t c.args.loaded same (c.is_none.ensures ∙ ap not c.if-is_none.true));
    keeps = may_put g.T.Statements.lenders g.T.Statements.state c.args.tx.now _;
  };
}

pub returns-in-Ok : goal.returns-in-Ok
returns-in-Ok g c = record {
  map = record {
    found = λ clean inside ours s are is_open sound running.
        let hashed = c.in-Ok.ensures.map.found clean inside ours s are is_open sound running in (
          hashed.0,
          λ content t same.
              let some = c.is_none.ensures ∙ ap not c.if-is_none.false in
              let reported = hashed.1 (subst (All (IsUndigested s)) (sym c.as_slice.ensures) (all_undigested s content t c.args.loaded same some)) in
              hashed_all s content t c.args.loaded same c.in-Ok.uploads c.with_uploads.result some (reported ∙ ap (map (λ (v : UploadView). upload_view true s v.upload)) c.as_slice.ensures) c.with_uploads.ensures,
        );
    keeps = may_ok c.in-Ok.ensures.map.keeps;
  };
}

pub returns-in-Err : goal.returns-in-Err
returns-in-Err g c = record {
  map = record {
    found = λ clean inside ours s are is_open sound running. ((c.in-Err.ensures.map.found clean inside ours s are is_open sound running).0, tt);
    keeps = may_err refl c.in-Err.ensures.map.keeps;
  };
}
