use Rattle.dep_bag.proofs.TagPaths.{AreAdded}
use Rattle.dep_bag.proofs.paths.add_tag_paths.Given as goal

-- the paths so far were added
abbrev pub invariant-loop-path : goal.invariant-loop-path
invariant-loop-path l = AreAdded l.path-items l.path-index l.initial.paths.items l.paths.items
