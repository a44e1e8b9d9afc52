use Rattle.std.proofs.Common.{◌≡◌, ◌∙◌, inl, inr, IsTrue, refl, sym, subst, ap, Err}
use Rattle.std.proofs.lemmas.Result.{IfOk-from_err}
use Rattle.sqlite.specs.Held.{state}
use Rattle.sqlite.specs.State.{HasCleanDisk}
use Rattle.sqlite.proofs.Callers.{survives_begin}
use Rattle.sqlite.proofs.StateLemmas.{clean_if_open}
use Rattle.dep_tables.proofs.Chains.{was_clean}
use Rattle.dep_schema.proofs.Prepared.{AreMadeWithin, AreMissed, IsCommitted, IsUncommitted, IsGivenUp, on_err_by}
use Rattle.dep_schema.proofs.Prepared.{prepared, crash, fell_back, refused, crash_missed}
use Rattle.dep_schema.specs.OpenFaults.{open_fault_for, FailsToFindOrMake, ShowsOrMakes}
use Rattle.dep_transactions.specs.OpenTables.{begun}
use Rattle.dep_migrations.proofs.Causes.{if_err_is}
use Rattle.dep_schema.proofs.Refusing.{match_err, refuses_known, uncommitted}
use Rattle.dep_transactions.proofs.Transactions.{clean_last, failed_only, left}
use Rattle.dep_schema.proofs.Version.{never_passed, never_refused, reported_as}
use Rattle.dep_schema.proofs.opening.prepare.Goals as goal

-- where the tables were not found, nothing is said of an Ok
pub returns-in_err-version : goal.returns-in_err-version
returns-in_err-version g c =
    let old = c.args.connection.now in
    let last = c.find_or_make.new.tx.conn.now in
    let new = c.connection-1.given.0 in
    let same : c.drop-tx.new.self.0 ≡ new = sym (c.connection-1.given.1 (sym (c.in_err-version.ensures.stays.same_reference ∙ c.transaction-tx.ensures.same_reference))) in
    let fault = c.in_err-version.field-0.0 in
    let reported = c.in_err-version.ensures in
    let missed = subst (λ h. AreMissed (state g.S.Store h) (state g.S.Store last) fault) c.transaction-tx.ensures.begun
    (record {
      version = λ clean is. reported.version clean (ap Err is);
      kept = reported.stays.kept;
      survives = reported.stays.survives;
    }) in
    let ended = subst (λ h. IsGivenUp (state g.S.Store last) (state g.S.Store h)) same
    (record { ended = c.drop-tx.ensures.ended; undone = c.drop-tx.ensures.undone; survives = c.drop-tx.ensures.survives }) in
    let failed = subst (λ h. HasCleanDisk (state g.S.Store last) → IsTrue (state g.S.Store h).in_transaction → FailsToFindOrMake g.S.Store h last fault) c.transaction-tx.ensures.begun reported.reported in
    let result = c.from_residual.result in
    let is_err = c.from_residual.ensures.0 in
    let before = was_clean (state g.S.Store last) (state g.S.Store new) ended.survives in
    let sure = clean_if_open (g.S.Store.view new.store) (g.met.S.Store.shut_if_dirty new.store) in
    record {
      opens = λ clean. IfOk-from_err result _ is_err;
      known = IfOk-from_err result _ is_err;
      version = λ clean said. missed.version (before clean) (reported_as result fault _ c.from_residual.ensures.1 said);
      reported = λ clean. match_err _ _ result fault c.from_residual.ensures.1 (inl (last, failed (before clean) refl, ended.survives));
      ours = λ clean known. if_err_is _ result fault c.from_residual.ensures.1
          (refuses_known g.S.Store old last new known fault (failed (before clean) refl) missed.survives ended.survives (clean_last (state g.S.Store (begun old)) (state g.S.Store last) _ missed.survives (before clean)));
      left = λ clean is_open. on_err_by result (left g.S.Store old last new missed.kept ended.survives.clean ended.undone clean is_open);
      refused = λ is_open. on_err_by result (refused g.S.Store old last new missed.kept ended.survives.clean ended.undone sure is_open);
      mode = ended.ended;
      crash = crash_missed g.S.Store old last new missed.survives ended.survives;
    }

-- where it worked, nothing is said of a fault
pub returns : goal.returns
returns g c =
    let old = c.args.connection.now in
    let last = c.find_or_make.new.tx.conn.now in
    let new = c.connection-2-1.given.0 in
    let same : c.commit.new.tx.0 ≡ new = sym (c.connection-2-1.given.1 (sym (c.in_ok-version.ensures.stays.same_reference ∙ c.transaction-tx.ensures.same_reference))) in
    let reported = c.in_ok-version.ensures in
    let version = c.in_ok-version.version in
    let stays = reported.stays in
    let made = subst (λ h. AreMadeWithin (state g.S.Store h) (state g.S.Store last) version) c.transaction-tx.ensures.begun
    (record { tables = reported.makes; inside = stays.inside; kept = stays.kept; survives = stays.survives }) in
    let shown = subst (λ h. HasCleanDisk (state g.S.Store last) → IsTrue (state g.S.Store h).in_transaction → ShowsOrMakes g.S.Store h version) c.transaction-tx.ensures.begun reported.reported in
    let ended = subst (λ h. IsCommitted (state g.S.Store last) (state g.S.Store h)) same
    (record { ended = c.commit.ensures.ended; shows = λ clean. (c.in_ok-commit.ensures.ok clean).0; survives = c.commit.ensures.survives }) in
    record {
      opens = prepared g.S.Store old last new version made ended;
      known = reported.known;
      version = λ clean said openable. never_refused _ _ said;
      reported = λ clean. shown (clean_last (state g.S.Store last) (state g.S.Store new) _ ended.survives clean) refl;
      ours = λ clean known. tt;
      left = λ clean is_open. tt;
      refused = λ is_open. tt;
      mode = ended.ended;
      crash = crash g.S.Store old last new version made ended.survives;
    }

-- a commit that failed is told as no version
pub returns-in_err-commit : goal.returns-in_err-commit
returns-in_err-commit g c =
    let old = c.args.connection.now in
    let last = c.find_or_make.new.tx.conn.now in
    let new = c.connection-2-1.given.0 in
    let same : c.commit.new.tx.0 ≡ new = sym (c.connection-2-1.given.1 (sym (c.in_ok-version.ensures.stays.same_reference ∙ c.transaction-tx.ensures.same_reference))) in
    let reported = c.in_ok-version.ensures in
    let version = c.in_ok-version.version in
    let stays = reported.stays in
    let made = subst (λ h. AreMadeWithin (state g.S.Store h) (state g.S.Store last) version) c.transaction-tx.ensures.begun
    (record { tables = reported.makes; inside = stays.inside; kept = stays.kept; survives = stays.survives }) in
    let fault = c.in_err-commit.field-0.0 in
    let ended = subst (λ h. IsUncommitted (state g.S.Store last) (state g.S.Store h) fault) same
    (record { ended = c.commit.ensures.ended; failed = c.in_err-commit.ensures.err; survives = c.commit.ensures.survives }) in
    let undone = fell_back g.S.Store old last new version made fault ended in
    let result = c.from_residual-in_err-commit.result in
    let is_err = c.from_residual-in_err-commit.ensures.0 in
    let is = c.from_residual-in_err-commit.ensures.1 in
    let passed = open_fault_for fault in
    let reports = λ (clean : HasCleanDisk (state g.S.Store new)). ap open_fault_for (ended.failed clean).2 in
    let since = survives_begin g.S.Store old (state g.S.Store last) (λ _. ⊥) made.survives in
    let before = clean_last (state g.S.Store last) (state g.S.Store new) _ ended.survives in
    let failed = λ (clean : HasCleanDisk (state g.S.Store new)). failed_only (state g.S.Store last) (state g.S.Store new) (ended.failed clean).0 (made.inside (before clean) refl) (ended.failed clean).1 in
    record {
      opens = λ clean. IfOk-from_err result _ is_err;
      known = IfOk-from_err result _ is_err;
      version = λ clean said openable. never_passed result fault is said;
      reported = λ clean. match_err _ _ result passed is
          (inr (last, (ended.failed clean).0, (λ lacks. (made.tables.gains (before clean) refl lacks).free), since, failed clean, reports clean));
      ours = λ clean known. if_err_is _ result passed is
          (uncommitted g.S.Store old last new known passed (ended.failed clean).0 (failed clean) (reports clean) since ended.survives.counts (before clean));
      left = λ clean is_open. on_err_by result (left g.S.Store old last new made.kept ended.survives.clean undone clean is_open);
      refused = λ is_open. on_err_by result (refused g.S.Store old last new made.kept ended.survives.clean undone
          (clean_if_open (g.S.Store.view new.store) (g.met.S.Store.shut_if_dirty new.store)) is_open);
      mode = ended.ended;
      crash = crash g.S.Store old last new version made ended.survives;
    }
