use Rattle.std.proofs.Common.{◌≡◌, ◌∙◌, ◌||◌, true, false, sym, ap, is_some, map as each}
use Rattle.dep_bag.specs.Parts.{part_at, stored_part, tag_file_at}
use Rattle.dep_bag.proofs.TagPaths.{bag_path_is}
use Rattle.dep_bag.proofs.paths.has_bag_path.Goals as goal

pub returns-then-is_some : goal.returns-then-is_some
returns-then-is_some c =
    let path = c.args.path.now in
    let files = c.args.files.now in
    let reported : true ≡ is_some (tag_file_at path) = sym c.if-is_some.true ∙ (c.is_some.ensures ∙ ap is_some c.tag_file.ensures) in
    c.if-is_some.true ∙ (ap (λ b. b || is_some (part_at path (each stored_part files))) reported ∙ bag_path_is path files)

pub returns-else-is_some : goal.returns-else-is_some
returns-else-is_some c =
    let path = c.args.path.now in
    let files = c.args.files.now in
    let reported : false ≡ is_some (tag_file_at path) = sym c.if-is_some.false ∙ (c.is_some.ensures ∙ ap is_some c.tag_file.ensures) in
    c.is_some-else-is_some.ensures
    ∙ (ap is_some c.stored_file.ensures ∙ (ap (λ b. b || is_some (part_at path (each stored_part files))) reported ∙ bag_path_is path files))
