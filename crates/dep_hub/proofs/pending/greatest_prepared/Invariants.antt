use Rattle.std.proofs.Common.{◌≡◌}
use Rattle.std.specs.Prelude.{MatchOption}
use Rattle.dep_hub.proofs.TurnLemmas.{NeedAtMost, Needs}
use Rattle.dep_hub.proofs.pending.greatest_prepared.Given as goal

-- no one before has a greater number than the greatest of them
abbrev pub invariant-loop-i : goal.invariant-loop-i
invariant-loop-i l = NeedAtMost l.connections l.below l.i l.most × MatchOption l.greatest (l.most ≡ 0) (Needs l.connections l.below l.most)
