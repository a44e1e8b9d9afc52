use Rattle.std.proofs.Common.{◌≡◌, ◌++◌, map, take}
use Rattle.dep_types.specs.BagPaths.{tag_paths}
use Rattle.dep_manifest.specs.Reported.{row_path}
use Rattle.dep_bag.proofs.paths.bag_paths.Given as goal

-- each file so far has its path
abbrev pub invariant-loop-row : goal.invariant-loop-row
invariant-loop-row l = l.paths.items ≡ tag_paths ++ map row_path (take l.row-index l.row-items)
