use Rattle.std.proofs.Common.{◌≡◌, take}
use Rattle.dep_bag.specs.Bag.{list_text}
use Rattle.dep_answers.proofs.bags.list_text.Given as goal

-- a line for each path so far
abbrev pub invariant-loop-path : goal.invariant-loop-path
invariant-loop-path l = l.text.items ≡ list_text (take l.path-index l.paths)
