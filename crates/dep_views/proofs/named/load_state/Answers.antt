use Rattle.std.proofs.Common.{◌∙◌, ap, sym}
use Rattle.std.specs.FinMap as finmap
use Rattle.std.proofs.lemmas.Result.{IfOk-from_err}
use Rattle.dep_types.specs.declared.rows.UploadRow.{UploadRow}
use Rattle.dep_operations.specs.declared.view.UploadState.TheVariants.{TimedOut, Unknown}
use Rattle.dep_tables.proofs.Chains.{clean_before, reads_err, reads_may_then, reads_ok, still_ours}
use Rattle.dep_staging.proofs.Loaded.{live}
use Rattle.dep_views.proofs.Chains.{still_seen}
use Rattle.dep_views.proofs.Found.{live_before, reported_live, reported_timed_out, reported_unknown, undigested_reported}
use Rattle.dep_views.proofs.named.load_state.Goals as goal

pub returns-in_ok-is_whole-in-Live : goal.returns-in_ok-is_whole-in-Live
returns-in_ok-is_whole-in-Live g c = record {
  map = record {
    found = λ clean inside ours s are sound running.
        let old = g.T.Statements.state c.args.tx.now in
        let mid = g.T.Statements.state c.find_staged.new.tx in
        let u = c.args.upload in
        let row = c.in-Live.row in
        let before = clean_before c.in_ok-is_whole-in-Live.ensures.map.keeps.stays clean in
        let same = c.in_ok-row.ensures.does.keeps.same before ours in
        let it = live s u row (sym c.in-Live.is ∙ c.in_ok-row.ensures.does.map before ours s are) in
        let at = ap (λ (r : UploadRow). finmap.get s.uploads r.upload) it.2 ∙ it.1 in
        reported_live s u row it.0 it.1 it.2 c.in_ok-is_whole-in-Live.is_whole
        (c.in_ok-is_whole-in-Live.ensures.map.found clean (c.in_ok-row.ensures.does.keeps.stays.inside before inside) (still_ours old mid same ours) s (still_seen old mid s same are) sound running it.0 at
        (ap (λ (r : UploadRow). r.count) it.2));
    keeps = reads_ok (reads_may_then c.in_ok-row.ensures.does.keeps c.in_ok-is_whole-in-Live.ensures.map.keeps);
  };
}

pub returns-in-TimedOut : goal.returns-in-TimedOut
returns-in-TimedOut g c = record {
  map = record {
    found = λ clean inside ours s are sound running.
        reported_timed_out s c.args.upload (live_before s c.args.upload) TimedOut Unknown (sym (c.in_ok-row.ensures.does.map clean ours s are) ∙ c.in-TimedOut.is) ∙ undigested_reported s c.args.upload;
    keeps = reads_ok c.in_ok-row.ensures.does.keeps;
  };
}

pub returns-in-Unknown : goal.returns-in-Unknown
returns-in-Unknown g c = record {
  map = record {
    found = λ clean inside ours s are sound running.
        reported_unknown s c.args.upload (live_before s c.args.upload) TimedOut Unknown (sym (c.in_ok-row.ensures.does.map clean ours s are) ∙ c.in-Unknown.is) ∙ undigested_reported s c.args.upload;
    keeps = reads_ok c.in_ok-row.ensures.does.keeps;
  };
}

pub returns-in_err-is_whole-in-Live : goal.returns-in_err-is_whole-in-Live
returns-in_err-is_whole-in-Live g c = record {
  map = record {
    found = λ clean inside ours s are sound running. IfOk-from_err c.from_residual-in_err-is_whole-in-Live.result _ c.from_residual-in_err-is_whole-in-Live.ensures.0;
    keeps = reads_err c.from_residual-in_err-is_whole-in-Live.ensures.0 (reads_may_then c.in_ok-row.ensures.does.keeps c.in_err-is_whole-in-Live.ensures.map.keeps);
  };
}

pub returns-in_err-row : goal.returns-in_err-row
returns-in_err-row g c = record {
  map = record {
    found = λ clean inside ours s are sound running. IfOk-from_err c.from_residual.result _ c.from_residual.ensures.0;
    keeps = reads_err c.from_residual.ensures.0 c.in_err-row.ensures.does.keeps;
  };
}
