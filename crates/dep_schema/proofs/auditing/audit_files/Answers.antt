use Rattle.std.proofs.Common.{ℕ, ◌≡◌, ◌∙◌, ◌++◌, ◌+◌, List, [], ◌∷◌, take, length, inl, inr, sym, ap, rules, subst, append-nil}
use Rattle.std.proofs.lemmas.List.Elements.{Contains-get_or}
use Rattle.std.specs.List.{AllZip, Contains, flat_map}
use Rattle.std.proofs.lemmas.List.{take_more, take_all}
use Rattle.std.proofs.lemmas.Grind.{flat_map-append}
use Rattle.sqlite.specs.Held.{state}
use Rattle.sqlite.specs.Order.{Row}
use Rattle.sqlite.specs.State.{State}
use Rattle.dep_types.specs.declared.store_fault.StoreFault.{StoreFault}
use Rattle.dep_files.proofs.Results.{same_tables}
use Rattle.dep_tables.specs.Tables.{Tables, tables_of}
use Rattle.dep_tables.specs.Texts.{sha256s_of_text}
use Rattle.dep_schema.specs.Causes.{FailsToAskFor, FailsToListSha256s}
use Rattle.dep_schema.specs.Causes.FailsToListSha256s.{no_number, not_reported}
use Rattle.dep_schema.specs.Fixity.{HasFixity, KeepsDamaged, number_if_damaged}
use Rattle.dep_schema.proofs.Stills.{ours_still, over_err, over_ok, over_then, still_same}
use Rattle.dep_schema.proofs.Digests.{one_more}
use Rattle.dep_schema.proofs.KeptFound.{lists_kept}
use Rattle.dep_schema.proofs.Queries.{sha256s_read}
use Rattle.dep_schema.proofs.Reported.{passed_on}
use Rattle.dep_schema.proofs.auditing.audit_files.Goals as goal

not_listed : (old new : State) (object : ℕ) (fault : StoreFault) → FailsToAskFor sha256s_of_text object old new fault → FailsToListSha256s object old new fault
not_listed old new object fault (inl none) = no_number none.0 none.1
not_listed old new object fault (inr failed) = not_reported failed

pub ask-requires : goal.ask-requires
ask-requires g c = sha256s_read

pub files-init : goal.files-init
files-init g c =
    let reported = c.in_ok-rows.ensures in
    (over_ok reported.reads, λ clean ours. (c.as_slice-row-items.ensures.value ∙ lists_kept (state g.S.Store c.args.connection.now) (state g.S.Store c.ask.new.connection) c.args.object _ ours (reported.shows clean), ([], tt, c.new-damaged.ensures.items)))

pub files-preserved : goal.files-preserved
files-preserved g c =
    let old = state g.S.Store c.args.connection.now in
    let mid = state g.S.Store c.files.connection in
    let inv = c.files.invariant in
    let kept = c.in_ok-keep_damaged.ensures in (
      over_ok (over_then inv.0 kept.reads),
      λ clean ours.
          let before = kept.reads.stays.honest clean in
          let same = inv.0.same before in
          let done = inv.1 before ours in
          let noted = kept.ok clean (ours_still old mid (still_same old mid same) ours) in
          let row = c.row-item.result in
          let it = subst (λ (t : Tables). KeepsDamaged t row c.files.damaged.items c.keep_damaged.new.damaged.items) (same_tables old mid same) noted in
          let xs = c.as_slice-row-items.result.now in
          let i = c.files.row-index in
          let grown : take (i + 1) xs ≡ take i xs ++ row ∷ [] = take_more xs i _ c.files-test.true ∙ ap (λ (r : Row). take i xs ++ r ∷ []) (sym c.row-item.is) in (
            done.0,
            (
              done.1.0 ++ it.found ∷ [],
              subst (λ (l : List Row). AllZip (HasFixity (tables_of old)) l (done.1.0 ++ it.found ∷ [])) (sym grown) (one_more (HasFixity (tables_of old)) (take i xs) done.1.0 row it.found done.1.1 it.its),
              it.noted ∙ ap (λ l. l ++ number_if_damaged it.found) done.1.2
                  ∙ ap (λ l. flat_map number_if_damaged done.1.0 ++ l) (sym (append-nil (number_if_damaged it.found)))
                  ∙ sym (flat_map-append number_if_damaged done.1.0 (it.found ∷ [])),
            ),
          ),
    )

pub returns : goal.returns
returns g c =
    let inv = c.files.invariant in
    let counted : c.len.result ≡ length c.in_ok-rows.rows.items = search rules in
    let whole = take_all c.files.row-index c.as_slice-row-items.result.now c.files-test.false in
    record {
      audits = λ clean ours.
          let done = inv.1 clean ours in
          record {
            checked = counted ∙ ap length (sym c.as_slice-row-items.ensures.value ∙ done.0);
            found = done.1.0;
            are = subst (λ (l : List Row). AllZip (HasFixity (tables_of (state g.S.Store c.args.connection.now))) l done.1.0) (whole ∙ done.0) done.1.1;
            damaged = done.1.2;
          };
      cause = λ clean ours. tt;
      reads = over_ok inv.0;
    }

-- the files were not listed
pub returns-in_err-rows : goal.returns-in_err-rows
returns-in_err-rows g c = rw (passed_on c.from_residual.result c.in_err-rows.field-0.0 c.from_residual.ensures.1) record { audits = λ clean ours. tt; cause = λ clean ours. inl (not_listed _ _ c.args.object c.in_err-rows.field-0.0 (c.in_err-rows.ensures.cause clean)); reads = over_err c.in_err-rows.ensures.reads }

-- one was not checked
pub returns-in_err-keep_damaged : goal.returns-in_err-keep_damaged
returns-in_err-keep_damaged g c =
    let old = state g.S.Store c.args.connection.now in
    let mid = state g.S.Store c.files.connection in
    let inv = c.files.invariant in
    let reported = c.in_err-keep_damaged.ensures in
    let passed = passed_on c.from_residual-in_err-keep_damaged.result c.in_err-keep_damaged.field-0.0 c.from_residual-in_err-keep_damaged.ensures.1 in
    rw passed record {
      audits = λ clean ours. tt;
      cause = λ clean ours.
          let before = reported.reads.stays.honest clean in
          let so_far = still_same old mid (inv.0.same before) in
          let failed = reported.cause clean (ours_still old mid so_far ours) in
          let row = c.row-item.result in
          let there = subst (Contains c.as_slice-row-items.result.now) (sym c.row-item.is) (Contains-get_or c.as_slice-row-items.result.now c.files.row-index _ c.files-test.true) in
          inr (row, subst (λ (l : List Row). Contains l row) (inv.1 before ours).0 there, c.files.connection, so_far.now_is, failed);
      reads = over_err (over_then inv.0 reported.reads);
    }
