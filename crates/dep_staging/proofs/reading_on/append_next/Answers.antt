use Rattle.std.proofs.Common.{◌≡◌, ◌+◌, ◌*◌, ◌/◌, ◌∙◌, ap, sym, subst, length, take, drop, arith, unwrap_or, []}
use Rattle.std.specs.Prelude.{option_map}
use Rattle.std.proofs.lemmas.Result.{IfOk-weaker}
use Rattle.dep_tables.proofs.Chains.{reads_ok, reads_refused}
use Rattle.dep_staging.specs.FileBlocks.{part_of}
use Rattle.dep_staging.specs.NextBytes.{IsAtByte}
use Rattle.dep_staging.proofs.NextBytes.{block_has, byte_in, grown_by_block, not_grown}
use Rattle.dep_row_maps.proofs.Calling.{reads_failed}
use Rattle.dep_staging.proofs.reading_on.append_next.Goals as goal

pub returns-in-Some-2 : goal.returns-in-Some-2
returns-in-Some-2 g c = record {
  does = record {
    map = λ clean ours s are.
        let byte = c.in-Some.byte in
        let long : c.len.result ≡ length c.args.bytes.now.items = omega (arith, c.len.ensures) in
        IfOk-weaker c.append_behind.result _ _
        (λ some a. λ h all is.
        let part = part_of h c.args.file byte.part in
        let at = byte_in h c.args.file c.args.size all (c.args.start + length c.args.bytes.now.items) byte is (subst (λ n. IsAtByte c.args.size (c.args.start + n) byte) long c.in-Some.ensures) in
        let has = block_has (λ bytes. bytes.items) part (byte.within / 65536) c.in_ok-block.field-0 (c.in_ok-block.ensures.does.map clean ours s are h) in
        let found = ap (λ o. unwrap_or (option_map (λ bytes. bytes.items) o) []) c.in-Some-2.is in
        let block : c.as_slice.result.now ≡ take 65536 (drop (byte.within / 65536 * 65536) part) = c.as_slice.ensures.value ∙ (sym found ∙ has) in
        grown_by_block all part c.as_slice.result.now c.args.bytes.now.items c.append_behind.new.bytes.items c.args.start byte.within at.0 some at.1 at.2 block a)
        c.append_behind.ensures;
    keeps = reads_ok c.in_ok-block.ensures.does.keeps;
  };
}

pub returns-in-None : goal.returns-in-None
returns-in-None g c = record {
  does = record {
    map = λ clean ours s are h all is.
        let byte = c.in-Some.byte in
        let part = part_of h c.args.file byte.part in
        let long : c.len.result ≡ length c.args.bytes.now.items = omega (arith, c.len.ensures) in
        let at = byte_in h c.args.file c.args.size all (c.args.start + length c.args.bytes.now.items) byte is (subst (λ n. IsAtByte c.args.size (c.args.start + n) byte) long c.in-Some.ensures) in
        let has = block_has (λ bytes. bytes.items) part (byte.within / 65536) c.in_ok-block.field-0 (c.in_ok-block.ensures.does.map clean ours s are h) in
        let none = ap (λ o. unwrap_or (option_map (λ bytes. bytes.items) o) []) c.in-None.is in
        not_grown all part c.args.bytes.now.items c.args.start byte.within at.0 at.1 at.2 (sym none ∙ has);
    keeps = reads_ok c.in_ok-block.ensures.does.keeps;
  };
}

pub returns-in_default : goal.returns-in_default
returns-in_default g c = record {
  does = record {
    map = λ clean ours s are. tt;
    keeps = reads_refused g.T.Statements.lenders g.T.Statements.state c.args.tx.now _;
  };
}

pub returns-in_err-block : goal.returns-in_err-block
returns-in_err-block g c = record { does = reads_failed c.from_residual.ensures.1 c.in_err-block.ensures.does.keeps }
