use Rattle.std.proofs.Common.{◌≡◌, true, is_ok, rules, ◌+◌, inl, inr, refl, sym, subst, arith}
use Rattle.sqlite.specs.Held.{state}
use Rattle.dep_tables.specs.Tables.{tables_of}
use Rattle.dep_schema.specs.Causes.FailsToFindFile.{no_number}
use Rattle.dep_schema.specs.Causes.FailsToHashNext.{no_file}
use Rattle.dep_schema.proofs.Stills.{known_still, stays_itself, stays_then, still_itself, still_same, still_then}
use Rattle.dep_schema.proofs.KnownTables.{known_files_ordered}
use Rattle.dep_schema.proofs.Valued.{AreValuesTo, no_values, one_more, all_valued, value_after}
use Rattle.dep_types.specs.declared.store_fault.StoreFault.TheVariants.{Memory}
use Rattle.dep_schema.proofs.Reported.{passed_on}
use Rattle.dep_schema.proofs.upgrading.hash_files.Goals as goal

pub files-init : goal.files-init
files-init g c =
    let now = state g.S.Store c.args.connection.now in (
      stays_itself c.args.connection.now,
      λ clean. still_itself now,
      λ clean known. subst (λ vs. AreValuesTo (tables_of now) vs 0 0) (sym c.new-values.ensures.items) (no_values (tables_of now)),
    )

pub files-preserved : goal.files-preserved
files-preserved g c =
    let old = state g.S.Store c.args.connection.now in
    let mid = state g.S.Store c.files.connection in
    let new = state g.S.Store c.next_value.new.connection in
    let inv = c.files.invariant in
    let reported = c.in_ok-value.ensures in
    let earlier = reported.reads.stays.honest in
    let pushed : is_ok c.push.result ≡ true = search rules in (
      stays_then inv.0 inv.1 reported.reads.stays,
      λ clean. still_same old new (still_then old mid new (inv.1 (earlier clean)) (reported.reads.same clean)),
      λ clean known.
          let before = earlier clean in
          let some = value_after old mid c.files.last c.in_ok-value.field-0 _ c.in-Some.is (inv.1 before) known (reported.ok clean) in
          subst (λ vs. AreValuesTo (tables_of old) vs c.in-Some.value.file (c.files.counter + 1)) (sym (rw pushed at c.push.ensures.items))
          (one_more (tables_of old) c.files.values.items c.files.last c.files.counter c.in-Some.value (known_files_ordered old known) (inv.2 before known) some),
    )

-- no file is left
pub returns-in_default : goal.returns-in_default
returns-in_default g c =
    let reported = c.in_ok-value.ensures in
    let inv = c.files.invariant in
    let old = state g.S.Store c.args.connection.now in
    let mid = state g.S.Store c.files.connection in
    record {
      hashes = λ clean known.
          let before = reported.reads.stays.honest clean in
          all_valued (tables_of old) c.files.values.items c.files.last c.files.counter (inv.2 before known) (value_after old mid c.files.last c.in_ok-value.field-0 _ c.in_default.is (inv.1 before) known (reported.ok clean));
      cause = λ clean known. tt;
      reads = record {
        stays = stays_then inv.0 inv.1 reported.reads.stays;
        same = λ clean. still_then old mid (state g.S.Store c.next_value.new.connection) (inv.1 (reported.reads.stays.honest clean)) (reported.reads.same clean);
      };
    }

-- one could not be kept
pub returns-in_err-push-clause-cause : goal.returns-in_err-push-clause-cause
returns-in_err-push-clause-cause g c =
    let inv = c.files.invariant in
    let reported = c.in_ok-value.ensures in
    rw (passed_on c.from_residual-in_err-push.result Memory c.from_residual-in_err-push.ensures.1) (λ clean known.
    let before = reported.reads.stays.honest clean in
    let next = value_after (state g.S.Store c.args.connection.now) (state g.S.Store c.files.connection) c.files.last c.in_ok-value.field-0 _ c.in-Some.is (inv.1 before) known (reported.ok clean) in
    (c.files.last, (inv.2 before known).reached, inr (c.in-Some.value, next, refl)))

pub returns-in_err-push-clause-reads : goal.returns-in_err-push-clause-reads
returns-in_err-push-clause-reads g c = rw (passed_on c.from_residual-in_err-push.result Memory c.from_residual-in_err-push.ensures.1)
    record { stays = stays_then c.files.invariant.0 c.files.invariant.1 c.in_ok-value.ensures.reads.stays; same = λ clean. tt }

-- one was not found, or not hashed
pub returns-in_err-value : goal.returns-in_err-value
returns-in_err-value g c =
    let inv = c.files.invariant in
    let reported = c.in_err-value.ensures in
    rw (passed_on c.from_residual.result c.in_err-value.field-0.0 c.from_residual.ensures.1) record {
      hashes = λ clean known. tt;
      cause = λ clean known.
          let before = reported.reads.stays.honest clean in
          let still = inv.1 before in
          let failed = reported.cause clean (known_still (state g.S.Store c.args.connection.now) (state g.S.Store c.files.connection) still known) in
          (c.files.last, (inv.2 before known).reached, inl (c.files.connection, still.now_is, failed));
      reads = record { stays = stays_then inv.0 inv.1 reported.reads.stays; same = λ clean. tt };
    }

-- So many files would have greater numbers than a table has.
pub returns : goal.returns
returns g c =
    let inv = c.files.invariant in
    record {
      hashes = λ clean known. tt;
      cause = λ clean known.
          let so_far = inv.2 clean known in
          (c.files.last, so_far.reached, inl (c.files.connection, (inv.1 clean).now_is, no_file (no_number (λ less. omega (arith, less, so_far.few, c.files-test.false)) refl)));
      reads = record { stays = inv.0; same = λ clean. tt };
    }
