use Rattle.std.proofs.Common.{sym, subst, refl}
use Rattle.dep_tables.specs.Edits.{IsLeftBefore}
use Rattle.dep_tables.specs.Tables.{Tables, tables_of}
use Rattle.dep_tables.proofs.Chains.{clean_before, stays_then, stays_ok, still_ours, stays_put}
use Rattle.dep_row_maps.specs.TablesAre.{TablesAre}
use Rattle.dep_files.proofs.Results.{same_tables}
use Rattle.dep_uploads.specs.Expiring.{expired_all}
use Rattle.dep_uploads.proofs.Expired.{none_expired, one_more, all_expired}
use Rattle.dep_row_maps.proofs.Changing.{changes_err}
use Rattle.std.proofs.lemmas.Result.{IfOk-from_err}
use Rattle.dep_uploads.proofs.ticking.expire_idle.Goals as goal

pub uploads-init : goal.uploads-init
uploads-init g c = (
  stays_put g.T.Statements.lenders g.T.Statements.state c.args.tx.now _,
  λ clean inside ours. ours,
  λ clean inside ours s are. none_expired c.args.config.now c.args.clock s (tables_of (g.T.Statements.state c.args.tx.now)) are,
)

pub uploads-preserved : goal.uploads-preserved
uploads-preserved g c =
    let config = c.args.config.now in
    let clock = c.args.clock in
    let mid = g.T.Statements.state c.uploads.tx in
    let seen = g.T.Statements.state c.left_before.new.tx in
    let new = g.T.Statements.state c.expire.new.tx in
    let inv = c.uploads.invariant in
    let saw = stays_then inv.0 c.in_ok-left.ensures.does.keeps.stays in
    let clean_seen = clean_before c.expire.ensures.does.keeps.stays in
    let clean_mid = clean_before c.left_before.ensures.does.keeps.stays in (
      stays_ok (stays_then saw c.in_ok-expire.ensures.does.keeps.stays),
      λ clean inside ours.
          let before = clean_seen clean in
          let ours_mid = inv.1 (clean_mid before) inside ours in
          c.in_ok-expire.ensures.does.keeps.ours clean (saw.inside before inside) (still_ours mid seen (c.in_ok-left.ensures.does.keeps.same before ours_mid) ours_mid),
      λ clean inside ours s are.
          let before = clean_seen clean in
          let ours_mid = inv.1 (clean_mid before) inside ours in
          let z = inv.2 (clean_mid before) inside ours s are in
          let same = c.in_ok-left.ensures.does.keeps.same before ours_mid in
          let read = subst (λ m. IsLeftBefore m (tables_of mid) c.in_ok-left.field-0) c.idle_before-moment.ensures (c.in_ok-left.ensures.does.ok before ours_mid) in
          one_more config clock c.uploads.passed s (tables_of mid) z c.in_ok-left.field-0 read c.in-Some.left c.in-Some.is (tables_of new)
          (c.in_ok-expire.ensures.does.map clean (saw.inside before inside) (still_ours mid seen same ours_mid) z.left (subst (λ (t : Tables). TablesAre t z.left) (sym (same_tables mid seen same)) z.are)),
    )

pub returns-in_default : goal.returns-in_default
returns-in_default g c = record {
  does = record {
    map = λ clean inside ours s are.
        let mid = g.T.Statements.state c.uploads.tx in
        let seen = g.T.Statements.state c.left_before.new.tx in
        let inv = c.uploads.invariant in
        let before = clean_before c.left_before.ensures.does.keeps.stays clean in
        let ours_mid = inv.1 before inside ours in
        let z = inv.2 before inside ours s are in
        let same = c.in_ok-left.ensures.does.keeps.same clean ours_mid in
        let read = subst (λ m. IsLeftBefore m (tables_of mid) c.in_ok-left.field-0) c.idle_before-moment.ensures (c.in_ok-left.ensures.does.ok clean ours_mid) in
        subst (λ (t : Tables). TablesAre t (expired_all c.args.config.now c.args.clock s)) (sym (same_tables mid seen same))
        (all_expired c.args.config.now c.args.clock c.uploads.passed s (tables_of mid) z c.in_ok-left.field-0 read c.in_default.is);
    keeps =
        record {
          stays = stays_ok (stays_then c.uploads.invariant.0 c.in_ok-left.ensures.does.keeps.stays);
          ours = λ clean inside ours.
              let ours_mid = c.uploads.invariant.1 (clean_before c.left_before.ensures.does.keeps.stays clean) inside ours in
              still_ours (g.T.Statements.state c.uploads.tx) (g.T.Statements.state c.left_before.new.tx) (c.in_ok-left.ensures.does.keeps.same clean ours_mid) ours_mid;
        };
  };
}

pub returns-in_err-left : goal.returns-in_err-left
returns-in_err-left g c = record {
  does = record {
    map = λ clean inside ours s are. IfOk-from_err c.from_residual.result _ c.from_residual.ensures.0;
    keeps = changes_err c.from_residual.ensures.0 (stays_then c.uploads.invariant.0 c.left_before.ensures.does.keeps.stays);
  };
}

pub returns-in_err-expire : goal.returns-in_err-expire
returns-in_err-expire g c = record {
  does = record {
    map = λ clean inside ours s are. IfOk-from_err c.from_residual-in_err-expire.result _ c.from_residual-in_err-expire.ensures.0;
    keeps = changes_err c.from_residual-in_err-expire.ensures.0 (stays_then (stays_then c.uploads.invariant.0 c.in_ok-left.ensures.does.keeps.stays) c.expire.ensures.does.keeps.stays);
  };
}

pub returns : goal.returns
returns g c = record {
  does = record {
    map = λ clean inside ours s are. tt;
    keeps = changes_err refl c.uploads.invariant.0;
  };
}
