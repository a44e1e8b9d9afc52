use Rattle.std.proofs.Common.{refl, subst}
use Rattle.sqlite.specs.Held.{state}
use Rattle.dep_tables.specs.Tables.{tables_of}
use Rattle.dep_tables.specs.declared.owner.BlockOwner.TheVariants as owner
use Rattle.dep_schema.specs.Causes.FailsToHashNext.{no_file, no_blocks}
use Rattle.dep_schema.specs.Sha512s.{IsFileAfter}
use Rattle.dep_schema.proofs.HashedBehind.{hashed_behind, unread_behind}
use Rattle.dep_schema.proofs.Stills.{over_err, over_ok, over_then}
use Rattle.dep_schema.proofs.Reported.{passed_on}
use Rattle.dep_schema.proofs.upgrading.next_value.Goals as goal

-- the file was not told
pub returns-in_err-file : goal.returns-in_err-file
returns-in_err-file g c = rw (passed_on c.from_residual.result c.in_err-file.field-0.0 c.from_residual.ensures.1) record { ok = λ clean known. tt; cause = λ clean known. no_file (c.in_err-file.ensures.cause clean known); reads = over_err c.in_err-file.ensures.reads }

-- there is none
pub returns-in_default : goal.returns-in_default
returns-in_default g c =
    let old = state g.S.Store c.args.connection.now in
    let reported = c.in_ok-file.ensures in
    record {
      ok = λ clean known. (subst (IsFileAfter (tables_of old) c.args.after) c.in_default.is (reported.ok clean known), tt);
      cause = λ clean known. tt;
      reads = over_ok reported.reads;
    }

pub returns : goal.returns
returns g c =
    let old = state g.S.Store c.args.connection.now in
    let first = c.in_ok-file.ensures in
    let second = c.in_ok-digests.ensures in
    record {
      ok = λ clean known. (
        subst (IsFileAfter (tables_of old) c.args.after) c.in-Some.is (first.ok (second.reads.stays.honest clean) known),
        (c.in_ok-digests.digests, hashed_behind first.reads second.reads (owner.File c.in-Some.file) c.in_ok-digests.digests second.ok clean known, refl),
      );
      cause = λ clean known. tt;
      reads = over_ok (over_then first.reads second.reads);
    }

-- its blocks were not all read
pub returns-in_err-digests : goal.returns-in_err-digests
returns-in_err-digests g c =
    let old = state g.S.Store c.args.connection.now in
    let first = c.in_ok-file.ensures in
    let second = c.in_err-digests.ensures in
    rw (passed_on c.from_residual-in_err-digests.result c.in_err-digests.field-0.0 c.from_residual-in_err-digests.ensures.1) record {
      ok = λ clean known. tt;
      cause = λ clean known.
          no_blocks c.in-Some.file (subst (IsFileAfter (tables_of old) c.args.after) c.in-Some.is (first.ok (second.reads.stays.honest clean) known))
          (unread_behind first.reads second.reads (owner.File c.in-Some.file) c.in_err-digests.field-0.0 second.cause clean known);
      reads = over_err (over_then first.reads second.reads);
    }
