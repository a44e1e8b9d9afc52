use Rattle.std.proofs.Common.{◌≡◌, ◌∷◌, [], pos, None, Ok, refl}
use Rattle.sqlite.specs.Held.{Held, state}
use Rattle.sqlite.specs.Order.{Row, column}
use Rattle.sqlite.specs.State.{HasCleanDisk}
use Rattle.sqlite.specs.declared.types.Value.TheVariants.{Int}
use Rattle.sqlite_trees.specs.declared.store.Store.{Ghosts}
use Rattle.dep_tables.specs.Tables.{tables_of, IsKnown, IsOurs}
use Rattle.dep_tables.specs.declared.owner.BlockOwner.TheVariants as owner
use Rattle.dep_types.specs.declared.store_fault.StoreFault.TheVariants.{Memory}
use Rattle.dep_schema.specs.Causes.{FailsToFindSha512, FailsToGiveBlocks}
use Rattle.dep_schema.specs.Causes.FailsToCheck.{not_found, not_noted}
use Rattle.dep_schema.specs.Causes.FailsToFindFixity.{no_file, no_sha512, no_blocks}
use Rattle.dep_schema.specs.Clauses.{FindsOver}
use Rattle.dep_schema.specs.Fixity.{AreDigestsOf, HasFixity, IsKeptDigest, IsKeptSha512}
use Rattle.dep_schema.specs.declared.auditing.FileFixity.{FileFixity}
use Rattle.dep_schema.proofs.HashedBehind.{hashed_behind, unread_behind}
use Rattle.dep_schema.proofs.Reported.{passed_on}
use Rattle.dep_schema.proofs.Stills.{ours_known, over_err, over_ok, over_then, stays_itself}
use Rattle.dep_schema.proofs.auditing.keep_damaged.Goals as goal

-- what was found of the file, of the tables before the two calls
its_fixity : {S : Type 0} {g : Ghosts S} {a b c : Held S} (row : Row) (found : FileFixity) → column row 0 ≡ Int (pos found.file) → IsKeptDigest 32 (column row 1 ∷ []) found.sha256
    → FindsOver IsOurs g a b (Ok found.sha512) (λ t. IsKeptSha512 t (owner.File found.file)) (FailsToFindSha512 (owner.File found.file))
    → FindsOver IsKnown g b c (Ok found.digests) (λ t. AreDigestsOf t (owner.File found.file)) (FailsToGiveBlocks (owner.File found.file) None)
    → HasCleanDisk (state g c) → IsOurs (state g a) → HasFixity (tables_of (state g a)) row found
its_fixity {g = g} {a} row found number sha256 first second clean ours = record {
  number = number;
  sha256 = sha256;
  sha512 = first.ok (second.reads.stays.honest clean) ours;
  digests = hashed_behind first.reads second.reads (owner.File found.file) found.digests second.ok clean (ours_known (state g a) ours);
}

-- the row has no number
pub returns-in_err-file : goal.returns-in_err-file
returns-in_err-file g c =
    let reported = c.in_err-file.ensures.refused in
    rw (passed_on c.from_residual.result c.in_err-file.field-0.0 c.from_residual.ensures.1) record {
      ok = λ clean ours. tt;
      cause = λ clean ours. not_found (no_file reported.0 reported.1);
      reads = record { stays = stays_itself c.args.connection.now; same = λ clean. tt };
    }

-- the SHA-512 that is kept was not told
pub returns-in_err-sha512 : goal.returns-in_err-sha512
returns-in_err-sha512 g c =
    let reported = c.in_err-sha512.ensures in
    rw (passed_on c.from_residual-in_err-sha512.result c.in_err-sha512.field-0.0 c.from_residual-in_err-sha512.ensures.1) record {
      ok = λ clean ours. tt;
      cause = λ clean ours. not_found (no_sha512 c.in_ok-file.file c.in_ok-file.ensures.reported (reported.cause clean ours));
      reads = over_err reported.reads;
    }

-- the blocks were not all read
pub returns-in_err-digests : goal.returns-in_err-digests
returns-in_err-digests g c =
    let first = c.in_ok-sha512.ensures in
    let second = c.in_err-digests.ensures in
    rw (passed_on c.from_residual-in_err-digests.result c.in_err-digests.field-0.0 c.from_residual-in_err-digests.ensures.1) record {
      ok = λ clean ours. tt;
      cause = λ clean ours. not_found (no_blocks c.in_ok-file.file c.in_ok-file.ensures.reported
          (unread_behind first.reads second.reads (owner.File c.in_ok-file.file) c.in_err-digests.field-0.0 second.cause clean (ours_known (state g.S.Store c.args.connection.now) ours)));
      reads = over_err (over_then first.reads second.reads);
    }

pub returns : goal.returns
returns g c =
    let first = c.in_ok-sha512.ensures in
    let second = c.in_ok-digests.ensures in
    let found : FileFixity = record { file = c.in_ok-file.file; sha256 = c.digest_at.result; sha512 = c.in_ok-sha512.sha512; digests = c.in_ok-digests.digests } in
    record {
      ok = λ clean ours. record { found = found; its = its_fixity c.args.row.now found c.in_ok-file.ensures.reported c.digest_at.ensures first second clean ours; noted = c.in_ok-note.ensures.ok };
      cause = λ clean ours. tt;
      reads = over_ok (over_then first.reads second.reads);
    }

-- there was no memory to note it
pub returns-in_err-note : goal.returns-in_err-note
returns-in_err-note g c =
    let first = c.in_ok-sha512.ensures in
    let second = c.in_ok-digests.ensures in
    let found : FileFixity = record { file = c.in_ok-file.file; sha256 = c.digest_at.result; sha512 = c.in_ok-sha512.sha512; digests = c.in_ok-digests.digests } in
    rw (passed_on c.from_residual-in_err-note.result Memory c.from_residual-in_err-note.ensures.1) record {
      ok = λ clean ours. tt;
      cause = λ clean ours. not_noted found (its_fixity c.args.row.now found c.in_ok-file.ensures.reported c.digest_at.ensures first second clean ours) c.in_err-note.ensures.cause refl;
      reads = over_ok (over_then first.reads second.reads);
    }
