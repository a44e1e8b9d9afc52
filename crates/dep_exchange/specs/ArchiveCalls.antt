-- What an archive is asked for beside the steps, and why it may not be known whether it is open.
use Rattle.std.specs.Prelude.{◌≡◌, ◌⊎◌, ◌≤◌, ℕ, Bool, List, [], ◌∷◌, ◌++◌, Option, None, Some, IsTrue, Result}
use Rattle.dep_types.specs.Writing.{next_count}
use Rattle.dep_types.specs.declared.store_fault.StoreFault.{StoreFault}
use Rattle.dep_types.specs.declared.store_fault.StoreFault.TheVariants.{Store, Memory}

-- what an archive is asked for beside the steps
pub data ArchiveCall : Type 0 where
  -- whether it is open, and what it answered
  Asked : (answer : Result Bool StoreFault) → ArchiveCall
  -- to work ahead, and whether it returned that more is left
  WorkedAhead : (is_left : Bool) → ArchiveCall

-- what an archive shows of these, and of what may keep it from answering
pub record CallLog : Type 0 where
  -- what it was asked for so far, where it shows that
  pub archive_calls : Option (List ArchiveCall)
  -- a transaction is under way
  pub is_busy : Bool
  -- how often its disk has failed
  pub faults : ℕ

-- what was asked for grows by this, where it is shown
abbrev pub AddsCall : ArchiveCall → (old new : Option (List ArchiveCall)) → Type 0
AddsCall archive_call None new = Unit {0}
AddsCall archive_call (Some archive_calls) new = new ≡ Some (archive_calls ++ archive_call ∷ [])

-- it was asked for this
abbrev pub Runs : ArchiveCall → (old new : CallLog) → Type 0
Runs archive_call old new = AddsCall archive_call old.archive_calls new.archive_calls

-- Why it isn't known whether an archive is open: memory was refused, which nothing shows; or a
-- transaction is under way, or its disk has failed once more.
abbrev pub FailsToReport : (old new : CallLog) → StoreFault → Type 0
FailsToReport old new Memory = Unit {0}
FailsToReport old new Store = IsTrue old.is_busy ⊎ (next_count old.faults ≤ new.faults)
