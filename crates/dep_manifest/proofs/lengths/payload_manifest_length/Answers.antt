use Rattle.std.proofs.Common.{◌≡◌, ℕ, ◌≤◌, List, length, take, map, sym, ap, arith, take_all, ◌∙◌}
use Rattle.dep_types.specs.Sinks.{PathAndBytes}
use Rattle.dep_types.specs.declared.rows.FileRow.{FileRow}
use Rattle.dep_manifest.specs.Lengths.{in_64_bits}
use Rattle.dep_manifest.specs.Manifest.{digest_by, manifest_of}
use Rattle.dep_manifest.specs.Reported.{row_path}
use Rattle.dep_manifest.specs.declared.algorithm.Algorithm.{Algorithm}
use Rattle.dep_manifest.proofs.ByPaths.{payload_length, rows_length}
use Rattle.dep_manifest.proofs.lengths.payload_manifest_length.Goals as goal

-- the length of all lines, once no row is left
of_all : (a : Algorithm) (rows : List FileRow) (files : List PathAndBytes) (i n : ℕ) → length rows ≤ i → n ≡ in_64_bits (rows_length a (take i rows))
    → map (λ file. file.0) files ≡ map row_path rows → n ≡ in_64_bits (length (manifest_of (digest_by a) files))
of_all a rows files i n past so_far e =
    so_far ∙ ap (λ (rs : List FileRow). in_64_bits (rows_length a rs)) (take_all i rows past) ∙ ap in_64_bits (sym (payload_length a rows files e))

pub returns-then-length-lt18446744073709551615 : goal.returns-then-length-lt18446744073709551615
returns-then-length-lt18446744073709551615 c = λ files e.
    let all = of_all c.args.algorithm c.args.rows.now files c.loop-row.row-index c.loop-row.length (omega (arith, c.loop-row-test.false)) c.loop-row.invariant e in
    omega (arith, all, c.if-length-lt18446744073709551615.true)

pub returns-else-length-lt18446744073709551615 : goal.returns-else-length-lt18446744073709551615
returns-else-length-lt18446744073709551615 c = λ files e.
    let all = of_all c.args.algorithm c.args.rows.now files c.loop-row.row-index c.loop-row.length (omega (arith, c.loop-row-test.false)) c.loop-row.invariant e in
    omega (arith, all, c.if-length-lt18446744073709551615.false)
