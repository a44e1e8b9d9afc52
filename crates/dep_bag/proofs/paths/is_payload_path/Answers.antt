use Rattle.std.proofs.Common.{ap, ◌∙◌, bytes_eq}
use Rattle.dep_bag.specs.Parts.{in_folder}
use Rattle.dep_bag.proofs.Fronts.{same_names}
use Rattle.dep_bag.proofs.paths.is_payload_path.Goals as goal

pub returns-in-Some : goal.returns-in-Some
returns-in-Some c =
    let path = c.args.path.now in
    let own = c.args.row.now.name in
    let digits = c.as_bytes-number.ensures.value ∙ c.format.ensures.text in
    c.eq.ensures
    ∙ ap (λ l. bytes_eq c.in-Some.name.now l) (c.as_bytes.ensures.value ∙ c.as_str.ensures)
    ∙ same_names path c.as_bytes-number.result.now c.in-Some.name.now own c.in-Some.ensures
    ∙ ap (λ l. bytes_eq path (in_folder l own)) digits
