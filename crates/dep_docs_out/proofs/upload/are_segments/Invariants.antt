use Rattle.std.proofs.Common.{◌≡◌, drop}
use Rattle.dep_docs_out.specs.Segments.{rises_above}
use Rattle.dep_docs_out.proofs.upload.are_segments.Given as goal

-- all rise where those rise that are left
abbrev pub invariant-loop-number : goal.invariant-loop-number
invariant-loop-number l = rises_above 0 l.numbers ≡ rises_above l.last (drop l.number-index l.numbers)
