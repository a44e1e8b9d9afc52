use Rattle.std.proofs.Common.{◌≡◌, take}
use Rattle.dep_decisions.specs.Decisions.{referred_files}
use Rattle.dep_decisions.proofs.asked.referred_files.Given as goal

abbrev pub invariant-loop-reference : goal.invariant-loop-reference
invariant-loop-reference l =
    l.files.items ≡ referred_files l.operation (take l.reference-index l.references)
