use Rattle.std.proofs.Common.{◌≡◌, List, ◌++◌, ℕ, length}
use Rattle.std.specs.Io.KnownBytes.{Appends}
use Rattle.dep_program.specs.Gathering.{gathered_bytes}
use Rattle.dep_program.proofs.gathered.Gathered.take.Given as goal

-- the front of the bytes was taken, and no failure counted
abbrev pub invariant-loop-rest : goal.invariant-loop-rest
invariant-loop-rest g l =
    ((front : List ℕ) × (l.bytes ≡ front ++ l.rest)
    × Appends (gathered_bytes g.W.Write.contents l.initial.self) (gathered_bytes g.W.Write.contents l.self) front)
    × (l.self.failures ≡ l.initial.self.failures)

abbrev pub decreases-loop-rest : goal.decreases-loop-rest
decreases-loop-rest g l = length l.rest
