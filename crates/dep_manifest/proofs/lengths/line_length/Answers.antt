use Rattle.std.proofs.Common.{arith, length, ap, ◌∙◌, ℕ, List}
use Rattle.dep_manifest.specs.Lengths.{in_64_bits}
use Rattle.dep_manifest.specs.Manifest.{encoded_path}
use Rattle.dep_manifest.proofs.ByPaths.{payload_path_length}
use Rattle.dep_manifest.proofs.lengths.line_length.Goals as goal

pub returns : goal.returns
returns c =
    let path = payload_path_length c.args.row.now.file c.args.row.now.name in
    let number = c.encoded_length-number.ensures ∙ ap (λ (text : List ℕ). in_64_bits (length (encoded_path text))) (c.as_bytes.ensures.value ∙ c.format.ensures.text) in
    let name = c.encoded_length-name.ensures ∙ ap (λ (text : List ℕ). in_64_bits (length (encoded_path text))) (c.as_bytes-2.ensures.value ∙ c.as_str.ensures) in
    omega (arith, path, number, name, c.fixed_length.ensures, c.saturating_add.ensures, c.saturating_add-2.ensures)
