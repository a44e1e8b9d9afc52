use Rattle.std.proofs.Common.{◌++◌, ◌∷◌, [], ◌∙◌, List, map, sym, ap, append-nil}
use Rattle.std.proofs.lemmas.List.{take_all}
use Rattle.dep_types.specs.BagPaths.{tag_paths}
use Rattle.dep_types.specs.declared.rows.FileRow.{FileRow}
use Rattle.dep_manifest.specs.Reported.{row_path}
use Rattle.dep_bag.proofs.TagPaths.{payload_path_added}
use Rattle.dep_bag.proofs.paths.bag_paths.Goals as goal

pub loop-row-init : goal.loop-row-init
loop-row-init c = c.in_ok-add_tag_paths.ensures ∙ ap (λ l. l ++ tag_paths) c.new-paths.ensures.items ∙ sym (append-nil tag_paths)

pub loop-row-preserved : goal.loop-row-preserved
loop-row-preserved c =
    payload_path_added c.as_slice-row-items.result.now c.loop-row.row-index c.row-item.result c.loop-row.paths.items c.push.new.self.items c.loop-row-test.true c.row-item.is c.loop-row.invariant
    (c.in_ok-push.ensures.items ∙ ap (λ path. c.loop-row.paths.items ++ path ∷ []) c.in_ok-payload_path.ensures)

pub returns : goal.returns
returns c =
    c.from_vec.ensures
    ∙ c.loop-row.invariant
    ∙ ap (λ (rows : List FileRow). tag_paths ++ map row_path rows) (take_all c.loop-row.row-index c.as_slice-row-items.result.now c.loop-row-test.false ∙ c.as_slice-row-items.ensures)
