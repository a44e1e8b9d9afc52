use Rattle.std.proofs.Common.{◌≡◌, List, ◌++◌, ℕ, length}
use Rattle.std.specs.Io.KnownBytes.{Appends}
use Rattle.dep_types.proofs.through.ThroughOutlet.write.Given as goal

-- the writer took the prefix of the bytes, and no write failed
abbrev pub invariant-loop-rest : goal.invariant-loop-rest
invariant-loop-rest g l =
    ((front : List ℕ) × (l.bytes ≡ front ++ l.rest)
    × Appends (g.W.Write.contents l.initial.self.writer) (g.W.Write.contents l.self.writer) front)
    × (l.self.failures ≡ l.initial.self.failures)

abbrev pub decreases-loop-rest : goal.decreases-loop-rest
decreases-loop-rest g l = length l.rest
