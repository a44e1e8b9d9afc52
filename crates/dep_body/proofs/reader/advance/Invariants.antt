use Rattle.std.proofs.Common.{◌≡◌, ◌-◌, ◌≤◌, ◌++◌, ℕ, List, length, take, true}
use Rattle.dep_body.specs.Standing.{StandsAt, is_settled}
use Rattle.dep_body.proofs.reader.advance.Given as goal

-- the bytes used so far lead from the first stage to this one
abbrev pub invariant-loop-used : goal.invariant-loop-used
invariant-loop-used l = record {
  stands : (text : List ℕ) → StandsAt l.limit l.fn.content l.fn.stage text → StandsAt l.limit l.content l.stage (text ++ take l.used l.piece);
  within : l.used ≤ length l.piece;
  settled : is_settled l.fn.stage ≡ true → (l.used ≡ 0) × (l.stage ≡ l.fn.stage);
  kept : take (length l.fn.content) l.content ≡ l.fn.content;
}

abbrev pub decreases-loop-used : goal.decreases-loop-used
decreases-loop-used l = length l.piece - l.used
