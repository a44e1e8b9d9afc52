use Rattle.std.proofs.Common.{◌∙◌, ℕ, List, Some, sym, ap, map as each}
use Rattle.dep_bag.specs.Parts.{part_at, stored_part}
use Rattle.dep_bag.specs.declared.part.BagPart.TheVariants.{Bytes}
use Rattle.dep_bag.proofs.TagFileParts.{part_of, by_tag_file}
use Rattle.dep_bag.proofs.part.bag_file.Goals as goal

pub returns-in_ok-text-in-Some : goal.returns-in_ok-text-in-Some
returns-in_ok-text-in-Some c =
    let view = c.args.view.now in
    let path = c.args.path.now in
    ap (λ (bytes : List ℕ). Some (Bytes bytes)) (c.from_vec.ensures ∙ c.in_ok-text-in-Some.ensures)
    ∙ ap (part_of view path) (sym c.in-Some.is ∙ c.tag_file.ensures)
    ∙ by_tag_file view path

pub returns-in-None : goal.returns-in-None
returns-in-None c =
    let view = c.args.view.now in
    let path = c.args.path.now in
    c.stored_file.ensures
    ∙ ap (λ rows. part_at path (each stored_part rows)) c.as_slice.ensures
    ∙ ap (part_of view path) (sym c.in-None.is ∙ c.tag_file.ensures)
    ∙ by_tag_file view path
