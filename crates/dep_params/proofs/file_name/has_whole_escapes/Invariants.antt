use Rattle.std.proofs.Common.{◌≡◌, ◌<◌, ℕ, slice_index}
use Rattle.dep_params.specs.Names.{HasTwoDigitsAfter}
use Rattle.dep_params.proofs.file_name.has_whole_escapes.Given as goal

abbrev pub invariant-loop-i : goal.invariant-loop-i
invariant-loop-i l = (k : ℕ) → k < l.i → slice_index l.text k ≡ 37 → HasTwoDigitsAfter l.text k
