use Rattle.std.proofs.Common.{subst}
use Rattle.sqlite.specs.Held.{state}
use Rattle.dep_tables.proofs.Results.{if_ok}
use Rattle.dep_schema.specs.Texts.{find_format_text}
use Rattle.dep_schema.specs.OpenFaults.{FindsVersion}
use Rattle.dep_transactions.proofs.Asking.{shown_stays, reports_stay}
use Rattle.dep_schema.proofs.Version.{find_stays, none_shown}
use Rattle.dep_schema.proofs.Refusing.{version_told, known_told, finds_told, lacking_reported, known_reported, version_reported, unchanged_reported, finds_reported}
use Rattle.dep_schema.proofs.opening.find_format.Goals as goal

-- the rows tell the version, or that it is none of ours
pub returns-in-Ok : goal.returns-in-Ok
returns-in-Ok g c =
    let old = state g.S.Store c.args.tx.now.conn.now in
    let new = state g.S.Store c.query_all.new.self.conn.now in
    let shown = c.in-Ok.ensures.ok in
    let r = c.version_of.result in
    let told = subst (λ rows. FindsVersion rows r) c.as_slice.ensures.value c.version_of.ensures in
    record {
      ours = λ clean known. known_told old new _ (shown clean) r told known;
      known = version_told _ r told;
      lacking = λ clean lacks. absurd (none_shown old new _ lacks (shown clean));
      same = λ clean. if_ok r (find_stays old new _ (shown clean));
      reported = λ clean. finds_told old new _ (shown clean) r told;
      stays = shown_stays g.S.Store c.args.tx.now.conn c.query_all.new.self.conn c.query_all.ensures.same_reference c.query_all.ensures.survives find_format_text _ _ shown;
    }

-- an error tells that there is no `format`, or a fault
pub returns-in-Err : goal.returns-in-Err
returns-in-Err g c =
    let old = state g.S.Store c.args.tx.now.conn.now in
    let new = state g.S.Store c.query_all.new.self.conn.now in
    let failed = c.in-Err.ensures.err in
    let is = c.reported_by.ensures in
    record {
      ours = λ clean known. known_reported old new c.in-Err.error c.reported_by.result is (failed clean) known;
      known = version_reported c.in-Err.error c.reported_by.result is;
      lacking = λ clean lacks. lacking_reported old new c.in-Err.error c.reported_by.result is (failed clean) lacks;
      same = λ clean. unchanged_reported old new c.in-Err.error c.reported_by.result is (failed clean);
      reported = λ clean. finds_reported old new c.in-Err.error c.reported_by.result is (failed clean);
      stays = reports_stay g.S.Store c.args.tx.now.conn c.query_all.new.self.conn c.query_all.ensures.same_reference c.query_all.ensures.survives find_format_text _ c.in-Err.error failed
          (λ clean. unchanged_reported old new c.in-Err.error c.reported_by.result is (failed clean));
    }
