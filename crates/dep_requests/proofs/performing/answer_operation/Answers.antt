use Rattle.std.proofs.Common.{subst, sym}
use Rattle.sqlite.specs.State.{HasCleanDisk}
use Rattle.dep_views.specs.Ahead.{AreRowsAhead}
use Rattle.dep_tables.specs.Tables.{HasOurTables}
use Rattle.dep_tables.proofs.Chains.{clean_before, reads_ours, stays_err, stays_ok, stays_then}
use Rattle.dep_requests.proofs.Stepping.{only_reads, reads_alike, sees_still}
use Rattle.sqlite.proofs.Callers.{unchanged_then}
use Rattle.dep_requests.proofs.performing.answer_operation.Goals as goal

pub returns-clause-does : goal.returns-clause-does
returns-clause-does g c =
    let old = g.T.Statements.state c.args.tx.now in
    let mid = g.T.Statements.state c.rule.new.tx in
    let new = g.T.Statements.state c.follow-performed.new.tx in
    let ruled = c.in_ok-ruled.ensures.map in
    let reported = c.in_ok-performed.ensures in
    let before = λ (clean : HasCleanDisk new). clean_before reported.map.keeps.stays clean in
    record {
      map = λ clean within ours s are sound ahead fit.
          let rules = rw c.config.ensures at (ruled.found (before clean) within ours s are sound ahead.hashes).1 in
          reported.map.done clean (ruled.keeps.stays.inside (before clean) within) (reads_ours ruled.keeps (before clean) within ours) s
          (sees_still old mid s (ruled.keeps.same (before clean) ours).0.now_is are) sound fit rules (subst (AreRowsAhead s) (sym c.in_ok-ruled.ensures.rows) ahead.rows);
      changes = λ clean within ours s are sound ahead.
          let rules = rw c.config.ensures at (ruled.found (before clean) within ours s are sound ahead.hashes).1 in (
            λ none. reads_alike c.args.service.now s c.args.operation.now _ rules.ruling (c.lets_change-has_changes.ensures.0 none),
            λ nothing. c.lets_change-has_changes.ensures.1 (only_reads c.args.service.now s c.args.operation.now _ rules.ruling nothing),
          );
      unchanged = λ none clean ours.
          let same = ruled.keeps.same (before clean) ours in
          let more = reported.unchanged (c.lets_change-has_changes.ensures.0 none) same.0.is_open clean (subst HasOurTables (sym same.0.now_is) ours) in
          unchanged_then old mid new same more;
      ours = λ clean within ours.
          reported.map.keeps.ours clean (ruled.keeps.stays.inside (before clean) within) (reads_ours ruled.keeps (before clean) within ours);
    }

pub returns-clause-stays : goal.returns-clause-stays
returns-clause-stays g c = stays_then c.in_ok-ruled.ensures.map.keeps.stays (stays_ok c.in_ok-performed.ensures.map.keeps.stays)

pub returns-in_err-ruled-clause-stays : goal.returns-in_err-ruled-clause-stays
returns-in_err-ruled-clause-stays g c = stays_err c.from_residual.ensures.0 c.in_err-ruled.ensures.map.keeps.stays

pub returns-in_err-performed-clause-stays : goal.returns-in_err-performed-clause-stays
returns-in_err-performed-clause-stays g c =
    stays_err c.from_residual-in_err-performed.ensures.0 (stays_then c.in_ok-ruled.ensures.map.keeps.stays c.in_err-performed.ensures.map.keeps.stays)

pub returns-clause-ahead : goal.returns-clause-ahead
returns-clause-ahead g c clean within ours s are sound ahead = record {
  hashes = (c.in_ok-ruled.ensures.map.found (clean_before c.in_ok-performed.ensures.map.keeps.stays clean) within ours s are sound ahead.hashes).0;
  rows = c.in_ok-performed.ensures.rows s (subst (AreRowsAhead s) (sym c.in_ok-ruled.ensures.rows) ahead.rows);
}

pub returns-in_err-ruled-clause-ahead : goal.returns-in_err-ruled-clause-ahead
returns-in_err-ruled-clause-ahead g c clean within ours s are sound ahead = record {
  hashes = (c.rule.ensures.map.found clean within ours s are sound ahead.hashes).0;
  rows = subst (AreRowsAhead s) (sym c.rule.ensures.rows) ahead.rows;
}

pub returns-in_err-performed-clause-ahead : goal.returns-in_err-performed-clause-ahead
returns-in_err-performed-clause-ahead g c clean within ours s are sound ahead = record {
  hashes = (c.in_ok-ruled.ensures.map.found (clean_before c.in_err-performed.ensures.map.keeps.stays clean) within ours s are sound ahead.hashes).0;
  rows = c.in_err-performed.ensures.rows s (subst (AreRowsAhead s) (sym c.in_ok-ruled.ensures.rows) ahead.rows);
}
