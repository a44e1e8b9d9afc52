use Rattle.std.proofs.Common.{◌++◌, ◌∷◌, [], ◌∙◌, ap, refl, sym, append-nil}
use Rattle.dep_bag.proofs.TagPaths.{one_added, all_added}
use Rattle.dep_bag.proofs.paths.add_tag_paths.Goals as goal

pub loop-path-init : goal.loop-path-init
loop-path-init c = record { texts_are = refl; added = sym (append-nil c.args.paths.now.items) }

pub loop-path-preserved : goal.loop-path-preserved
loop-path-preserved c =
    one_added _ c.loop-path.path-index _ c.args.paths.now.items c.loop-path.paths.items c.push.new.self.items c.loop-path-test.true c.loop-path.invariant
    (c.in_ok-push.ensures.items ∙ ap (λ path. c.loop-path.paths.items ++ path ∷ []) c.in_ok-copied.ensures)

pub returns : goal.returns
returns c =
    all_added _ c.loop-path.path-index c.args.paths.now.items c.loop-path.paths.items c.loop-path.auto.path-index-end c.loop-path-test.false c.loop-path.invariant
