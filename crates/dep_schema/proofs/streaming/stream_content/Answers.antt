use Rattle.std.proofs.Common.{[], Some, filter, refl, sym, subst}
use Rattle.std.proofs.KnownBytes.{Appends-nil}
use Rattle.sqlite.specs.Held.{state}
use Rattle.sqlite.proofs.Callers.{unchanged_then}
use Rattle.dep_tables.specs.Tables.{Tables, tables_of}
use Rattle.dep_tables.specs.Rows.{is_block_of}
use Rattle.dep_tables.specs.declared.owner.BlockOwner.TheVariants as owner
use Rattle.dep_types.specs.StoreFaults.{stream_fault_for}
use Rattle.dep_schema.specs.Sent.{SendsBlocks}
use Rattle.dep_schema.specs.Causes.{FailsToStream, FailsToGiveBlocks}
use Rattle.dep_schema.specs.Causes.FailsToStream.{no_size, no_blocks}
use Rattle.dep_tables.specs.Texts.{blocks_of_text}
use Rattle.dep_tables.proofs.Leading.{plain_here}
use Rattle.dep_tables.proofs.Results.{ok_then, if_err}
use Rattle.dep_schema.proofs.OrderedBlocks.{owner_is}
use Rattle.dep_schema.proofs.Stills.{stays_then, still_left, still_same}
use Rattle.dep_schema.proofs.FaultsReported.{no_file_failed, asked_failed, none_streamed, reported_for, stopped_then}
use Rattle.dep_schema.proofs.Reported.{passed_on}
use Rattle.dep_files.proofs.Results.{same_tables}
use Rattle.dep_schema.proofs.Streams.{SizeReported, size_reported, streamed, blocks_from}
use Rattle.dep_tables.proofs.Chains.{still_ours}
use Rattle.dep_schema.proofs.streaming.stream_content.Goals as goal

pub returns-in_err-found : goal.returns-in_err-found
returns-in_err-found g c =
    let fault = c.in_err-found.field-0.0 in
    let failed = c.in_err-found.ensures in
    let passed = passed_on c.from_residual.result (stream_fault_for fault) c.from_residual.ensures.1 in
    rw passed record {
      streams = ([], Appends-nil _, λ clean ours s are. none_streamed s c.args.file fault);
      why = λ clean ours. reported_for (FailsToStream c.args.file _ _) fault (no_size (failed.cause clean ours));
      reads = record { stays = failed.reads.stays; same = λ clean. tt };
      outlet = record { kept = tt; cause = λ e. absurd (asked_failed fault e); others = λ _. refl };
    }

pub returns-in_default : goal.returns-in_default
returns-in_default g c =
    let old = state g.S.Store c.args.connection.now in
    let sized = c.in_ok-found.ensures in
    record {
      streams = (
        [],
        Appends-nil _,
        λ clean ours s are. (refl, subst (SizeReported s c.args.file) c.in_default.is (size_reported (tables_of old) s c.args.file c.in_ok-found.field-0 are ours.trees.ordered.1.1.1.1.0 (sized.ok clean ours))),
      );
      why = λ clean ours. tt;
      reads = record { stays = sized.reads.stays; same = λ clean. tt };
      outlet = record { kept = tt; cause = λ e. absurd (no_file_failed e); others = λ _. refl };
    }

pub returns : goal.returns
returns g c =
    let old = state g.S.Store c.args.connection.now in
    let mid = state g.S.Store c.find_size.new.connection in
    let new = state g.S.Store c.stream_blocks.new.connection in
    let size = c.in-Some.found.size in
    let sized = c.in_ok-found.ensures in
    let sent = c.stream_blocks.ensures in
    let before = sent.leaves.stays.honest in
    record {
      streams = (
        sent.streams.0,
        sent.streams.1,
        λ clean ours s are.
            let same = sized.reads.same (before clean) in
            let reported = subst (SizeReported s c.args.file) c.in-Some.is (size_reported (tables_of old) s c.args.file c.in_ok-found.field-0 are ours.trees.ordered.1.1.1.1.0 (sized.ok (before clean) ours)) in
            let sends = subst (λ (t : Tables). SendsBlocks (filter (is_block_of (owner.File c.args.file)) t.blocks) size sent.streams.0 c.stream_blocks.result) (same_tables old mid same) (sent.streams.2 clean (still_ours old mid same ours)) in
            streamed (tables_of old) s c.args.file size sent.streams.0 c.stream_blocks.result are reported sends,
      );
      why = λ clean ours.
          let same = sized.reads.same (before clean) in
          let row = sym (rw c.in-Some.is at (sized.ok (before clean) ours)) in
          if_err c.stream_blocks.result (sent.why clean (still_ours old mid same ours))
          (λ fault. stopped_then (FailsToGiveBlocks (owner.File c.args.file) (Some size) mid new) (FailsToStream c.args.file old new) fault
          (λ of it. no_blocks c.in-Some.found row (blocks_from (owner.File c.args.file) (Some size) old mid new of (plain_here old blocks_of_text ours owner_is.plain) same sized.reads.stays.survives it)));
      reads = record {
        stays = stays_then sized.reads.stays (λ clean. still_same old mid (sized.reads.same clean)) sent.leaves.stays;
        same = λ clean.
            let same = sized.reads.same (before clean) in
            ok_then c.stream_blocks.result (sent.leaves.same clean)
            (λ left. unchanged_then old mid new same ((still_left g.S.Store c.find_size.new.connection c.stream_blocks.new.connection left).unchanged same.0.is_open));
      };
      outlet = sent.outlet;
    }
