use Rattle.std.proofs.Common.{◌≡◌, ◌++◌, drop}
use Rattle.dep_manifest.proofs.Beside.{lines}
use Rattle.dep_manifest.proofs.payload.add_lines.Given as goal

-- the lines so far, with those of the files that are left, are all
abbrev pub invariant-loop-index : goal.invariant-loop-index
invariant-loop-index l =
    l.text.items ++ lines l.algorithm (drop l.index l.rows) (drop l.index l.values)
    ≡ l.initial.text.items ++ lines l.algorithm l.rows l.values
