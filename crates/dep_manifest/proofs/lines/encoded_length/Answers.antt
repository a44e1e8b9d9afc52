use Rattle.std.proofs.Common.{refl, ap, length, get_or, arith}
use Rattle.dep_manifest.proofs.Written.{one_byte_longer}
use Rattle.dep_manifest.proofs.lines.encoded_length.Goals as goal

pub loop-byte-preserved : goal.loop-byte-preserved
loop-byte-preserved c =
    let longer = one_byte_longer c.args.path.now c.loop-byte.byte-index (get_or c.args.path.now c.loop-byte.byte-index 0) c.loop-byte-test.true refl in
    omega (arith, longer, c.loop-byte.invariant, c.saturating_add-length.ensures, ap length c.encoded.ensures)
