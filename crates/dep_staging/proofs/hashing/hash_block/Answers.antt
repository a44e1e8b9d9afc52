use Rattle.std.proofs.Common.{◌≡◌, ◌+◌, ◌∙◌, refl, ap, sym, arith, Some}
use Rattle.std.specs.Prelude.{option_map, slice_get}
use Rattle.dep_staging.specs.Comparing.{stored_bytes}
use Rattle.dep_row_maps.specs.Stored.{blocks_of}
use Rattle.dep_staging.proofs.AheadLemmas.{block_taken, segment_ended}
use Rattle.dep_tables.proofs.Chains.{reads_err, reads_ok}
use Rattle.dep_staging.proofs.hashing.hash_block.Goals as goal

pub returns-in-Some : goal.returns-in-Some
returns-in-Some g c = record {
  does = record {
    map = λ clean ours s are sound running.
        let was = c.args.run.now in
        let next : c.saturating_add-number.result ≡ was.segments + 1 = omega (arith, c.saturating_add-number.ensures, c.in_ok-block.ensures.few.0) in
        let found = ap (λ k. slice_get (blocks_of (stored_bytes s was.upload k)) was.blocks) (sym next) ∙ sym (c.in_ok-block.ensures.does.map clean ours s are) ∙ ap (option_map (λ x. x.items)) c.in-Some.is in
        (block_taken s sound was c.take.new.self running c.take.ensures.upload c.as_slice.result.now (found ∙ ap Some (sym c.as_slice.ensures.value)) c.take.ensures.holds c.take.ensures.segments c.take.ensures.blocks, c.take.ensures.upload);
    keeps = reads_ok c.in_ok-block.ensures.does.keeps;
  };
}

pub returns-else-run-eq0 : goal.returns-else-run-eq0
returns-else-run-eq0 g c = record {
  does = record {
    map = λ clean ours s are sound running.
        let was = c.args.run.now in
        let next : c.saturating_add-number.result ≡ was.segments + 1 = omega (arith, c.saturating_add-number.ensures, c.in_ok-block.ensures.few.0) in
        let found = ap (λ k. slice_get (blocks_of (stored_bytes s was.upload k)) was.blocks) (sym next) ∙ sym (c.in_ok-block.ensures.does.map clean ours s are) ∙ ap (option_map (λ x. x.items)) c.in-None.is in
        (segment_ended s sound was c.end_segment.new.self running c.end_segment.ensures.upload found c.if-run-eq0.false c.end_segment.ensures.hasher c.end_segment.ensures.segments c.end_segment.ensures.blocks, c.end_segment.ensures.upload);
    keeps = reads_ok c.in_ok-block.ensures.does.keeps;
  };
}

pub returns-then-run-eq0 : goal.returns-then-run-eq0
returns-then-run-eq0 g c = record { does = record { map = λ clean ours s are sound running. (running, refl); keeps = reads_ok c.in_ok-block.ensures.does.keeps } }

pub returns-in_err-block : goal.returns-in_err-block
returns-in_err-block g c = record { does = record { map = λ clean ours s are sound running. (running, refl); keeps = reads_err c.from_residual.ensures.0 c.in_err-block.ensures.does.keeps } }
