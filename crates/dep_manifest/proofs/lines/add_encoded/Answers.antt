use Rattle.std.proofs.Common.{refl, sym, ap, ◌++◌, get_or, take_all, append-nil, arith, ◌∙◌}
use Rattle.dep_manifest.specs.Manifest.{encoded_path}
use Rattle.dep_manifest.proofs.Written.{one_byte_more}
use Rattle.dep_manifest.proofs.lines.add_encoded.Goals as goal

pub loop-byte-init : goal.loop-byte-init
loop-byte-init c = sym (append-nil c.args.text.now.items)

pub loop-byte-preserved : goal.loop-byte-preserved
loop-byte-preserved c =
    one_byte_more c.args.path.now c.args.text.now.items c.loop-byte.text.items c.extend_from_slice.new.self.items c.loop-byte.byte-index
    (get_or c.args.path.now c.loop-byte.byte-index 0) c.loop-byte-test.true refl c.loop-byte.invariant
    (c.in_ok-extend_from_slice.ensures.items ∙ ap (λ bytes. c.loop-byte.text.items ++ bytes) c.encoded.ensures)

pub returns : goal.returns
returns c =
    c.loop-byte.invariant
    ∙ ap (λ bytes. c.args.text.now.items ++ encoded_path bytes) (take_all c.loop-byte.byte-index c.args.path.now (omega (arith, c.loop-byte-test.false)))
