-- What is read leaves an archive as it stood.
use Rattle.std.proofs.Common.{◌≡◌}
use Rattle.dep_types.specs.State.{State}
use Rattle.dep_types.specs.Conditions.{Condition, Represents, HasCleanDisk, Leaves}
use Rattle.dep_bag.specs.Source.{StandsStill}

-- nothing was read
pub unchanged : (c : Condition) → ((s : State) → Represents c s → Leaves c (λ left. left ≡ s)) → StandsStill c c
unchanged c settled = record {
  honest_before = λ clean. clean;
  open_before = λ is_open. is_open;
  stays = λ is_open s at. at;
  stop = λ clean s at. settled s at;
}

-- more was read, behind an Ok
pub still_then : (old mid new : Condition) → (HasCleanDisk mid → (s : State) → Represents old s → Represents mid s)
    → StandsStill old mid → StandsStill mid new → StandsStill old new
still_then old mid new kept first then = record {
  honest_before = λ clean. first.honest_before (then.honest_before clean);
  open_before = λ is_open. first.open_before (then.open_before is_open);
  stays = λ is_open s at. then.stays is_open s (first.stays (then.open_before is_open) s at);
  stop = λ clean s at. then.stop clean s (kept (then.honest_before clean) s at);
}
