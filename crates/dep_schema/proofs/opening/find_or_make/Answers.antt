use Rattle.std.proofs.Common.{◌≡◌, IfSome, Err, inl, inr, ap, refl, subst, sym, ◌∙◌}
use Rattle.std.proofs.lemmas.Result.{IfOk-from_err, err_from_is_err_and}
use Rattle.sqlite.specs.Effect.{Database}
use Rattle.sqlite.specs.Held.{state}
use Rattle.sqlite.specs.State.{HasCleanDisk}
use Rattle.dep_migrations.specs.Faults.{FailsToMake}
use Rattle.dep_tables.proofs.Chains.{clean_before, stays_then, stays_ok, stays_err}
use Rattle.dep_tables.specs.Tables.{tables_of}
use Rattle.dep_tables.specs.Versions.{IsKnownVersion, HasVersion}
use Rattle.dep_migrations.specs.FirstTables.{GainsOurs}
use Rattle.dep_transactions.proofs.Asking.{lent_name, stays_on}
use Rattle.dep_schema.proofs.Version.{empty_lacks, never_named, never_refused, not_openable, not_older, reported_as}
use Rattle.dep_schema.proofs.Refusing.{match_err, some_is_not_none, of_found, none_found, matched_some, matched_none, lent_fails}
use Rattle.dep_schema.proofs.opening.find_or_make.Goals as goal

-- where the tables were not looked for, nothing is said of an Ok
pub returns-in_err-version : goal.returns-in_err-version
returns-in_err-version g c =
    let reported = c.in_err-version.ensures in
    let fault = c.in_err-version.field-0.0 in
    let result = c.from_residual.result in
    let is_err = c.from_residual.ensures.0 in
    let is = reported_as result fault _ c.from_residual.ensures.1 in
    record {
      makes = IfOk-from_err result _ is_err;
      version = λ clean said. not_openable (state g.S.Store c.args.tx.now.conn.now) (λ lacks. reported.lacking clean lacks (is said)) (λ ours. reported.ours clean ours (is said));
      known = IfOk-from_err result _ is_err;
      reported = λ clean inside. match_err _ _ result fault c.from_residual.ensures.1 (inl (reported.reported clean));
      stays = stays_err {r = Err fault} is_err reported.stays;
    }

-- where they were found, they are of one of our versions
pub returns-in-Some : goal.returns-in-Some
returns-in-Some g c =
    let reported = c.in_ok-version.ensures in
    let found = c.in_ok-version.field-0 in
    let version = c.in-Some.version in
    let is = c.in-Some.is in
    let shown = subst (λ o. IfSome o IsKnownVersion) is reported.known in
    record {
      makes = record {
        empty = λ clean inside empty. absurd (some_is_not_none version (sym is ∙ reported.lacking clean (empty_lacks _ empty)));
        gains = λ clean inside lacks. absurd (some_is_not_none version (sym is ∙ reported.lacking clean lacks));
        new = λ clean lacks. absurd (some_is_not_none version (sym is ∙ reported.lacking clean lacks));
        ours = λ clean known. (of_found (λ v. HasVersion v (tables_of (state g.S.Store c.args.tx.now.conn.now))) found version is (reported.ours clean known), (reported.same clean).0.now_is);
        still = λ clean older. (reported.same clean).0.now_is;
      };
      version = λ clean said openable. never_refused _ _ said;
      reported = λ clean inside. (c.find_format.new.tx.conn.now, inl (matched_some _ _ found version is (reported.reported clean)));
      known = shown;
      stays = stays_ok reported.stays;
    }

-- where they were made, they were not there
pub returns : goal.returns
returns g c =
    let reported = c.in_ok-version.ensures in
    let found = c.in_ok-version.field-0 in
    let last = c.tx-1.given.0 in
    let same : c.make_tables.new.tx.tx.now ≡ last = sym (c.tx-1.given.1 (lent_name g.S.Store c.in_ok-make_tables.ensures.works.stays)) in
    let made = rw same at c.in_ok-make_tables.ensures in
    let stays = rw same at (stays_on g.S.Store c.in_ok-make_tables.ensures.works.stays) in
    let new = state g.S.Store last.conn.now in
    record {
      makes = record {
        empty = λ clean inside empty.
            let before = clean_before stays clean in
            made.ok clean (reported.stays.inside before inside) (ap (λ (d : Database). d.schema) (reported.same before).0.now_is ∙ empty);
        gains = λ clean inside lacks.
            let before = clean_before stays clean in
            subst (λ (d : Database). GainsOurs d new.now) (reported.same before).0.now_is (made.gains clean (reported.stays.inside before inside));
        new = λ clean lacks. refl;
        ours = λ clean known. absurd (none_found (λ v. HasVersion v (tables_of (state g.S.Store c.args.tx.now.conn.now))) found c.in_default.is (reported.ours (clean_before stays clean) known));
        still = λ clean older. absurd (not_older older);
      };
      version = λ clean said openable. never_refused _ _ said;
      reported = λ clean inside. (c.find_format.new.tx.conn.now, inr (matched_none _ _ found c.in_default.is (reported.reported (clean_before stays clean)), refl));
      known = inl refl;
      stays = stays_ok (stays_then reported.stays stays);
    }

-- where they were not made, nothing is said of an Ok, and the fault tells no version
pub returns-in_err-make_tables : goal.returns-in_err-make_tables
returns-in_err-make_tables g c =
    let reported = c.in_ok-version.ensures in
    let same : c.make_tables.new.tx.tx.now ≡ c.tx-1.given.0 = sym (c.tx-1.given.1 (lent_name g.S.Store c.in_err-make_tables.ensures.works.stays)) in
    let stays = rw same at (stays_on g.S.Store c.in_err-make_tables.ensures.works.stays) in
    let fault = c.in_err-make_tables.field-0.0 in
    let is = err_from_is_err_and c.from_residual-in_err-make_tables.result c.from_residual-in_err-make_tables.ensures.1 in
    rw is.1 (record {
      makes = tt;
      version = λ clean said openable. never_named fault is.0 is.2 said;
      reported = λ clean inside.
          let before = clean_before stays clean in
          let last = subst (λ t. HasCleanDisk (state g.S.Store t.conn.now)) (sym same) clean in
          let failed = subst (λ t. FailsToMake (state g.S.Store) c.find_format.new.tx.conn.now t.conn.now fault) same
          (lent_fails g.S.Store _ c.make_tables.new.tx fault (c.in_err-make_tables.ensures.works.cause last (reported.stays.inside before inside))) in
          inr (c.find_format.new.tx.conn.now, fault, matched_none _ _ c.in_ok-version.field-0 c.in_default.is (reported.reported before), reported.stays.survives, failed, is.2);
      known = tt;
      stays = stays_err refl (stays_then {r = Err fault} reported.stays stays);
    })
