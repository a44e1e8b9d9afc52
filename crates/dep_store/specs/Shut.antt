-- What a call on a store that a fault shut leaves, and why it isn't known whether one was.
use Rattle.std.specs.Prelude.{◌≡◌, ◌≢◌, ◌⊎◌, ⊤, ℕ, Bool, true, false, List, Option, IsTrue, Result, Ok, Err, OnOk}
use Rattle.sqlite.specs.State as db
use Rattle.sqlite.specs.Tree.{Trees}
use Rattle.sqlite.specs.declared.error.Error.{Error}
use Rattle.sqlite.specs.declared.error.Error.TheVariants.{SqliteFailure}
use Rattle.sqlite.specs.declared.error.ErrorCode.TheVariants.{Closed}
use Rattle.dep_types.specs.declared.store_fault.StoreFault.{StoreFault}
use Rattle.dep_types.specs.declared.store_fault.StoreFault.TheVariants.{Store}
use Rattle.dep_types.specs.declared.stream_fault.StreamFault.{StreamFault}
use Rattle.dep_types.specs.declared.config.Config.{Config}
use Rattle.dep_tables.specs.Faults.{fault_for}
use Rattle.dep_transactions.specs.Transactions.{IsBackAt}
use Rattle.dep_exchange.specs.Archives.{Ticks, Streams, KeepsState, CountsFailures}
use Rattle.dep_store.specs.Archive.{shown_by}

-- where the store was shut, and the disk has told no lie that was taken as true, a crash leaves
-- nothing that it might not have left before
abbrev pub StoreLeavesNoMore : (old new : db.State) → Type 0
StoreLeavesNoMore old new = db.HasCleanDisk new → ¬ IsTrue old.is_open
    → (trees : Trees) → new.may_leave trees → old.may_leave trees

-- so it fails
pub record StoreFailsIfShut {A E : Type 0} (old new : db.State) (result : Result A E) : Type 0 where
  pub opened : db.HasCleanDisk new → OnOk result (IsTrue old.is_open)
  pub left : StoreLeavesNoMore old new

-- so a tick fails, which else moves the clock
pub record TicksIfOpen {E : Type 0} (old new : db.State) (config : Config) (moment : ℕ) (result : Result ℕ E)
    : Type 0 where
  pub does : Ticks (shown_by old) (shown_by new) config moment result
  pub shut : StoreFailsIfShut old new result

-- so it fails; an Ok has found the store open, and leaves it so, with all as it was
pub record StaysOpen {A E : Type 0} (old new : db.State) (result : Result A E) : Type 0 where
  pub shut : StoreFailsIfShut old new result
  pub back : OnOk result (IsBackAt old new)
  pub opened : db.HasCleanDisk new → OnOk result (IsTrue new.is_open)

-- what a call does that sends the content of a file, over an outlet that took these bytes and failed so often
pub record StoreSendsFile {A : Type 0} (old new : db.State) (taken takes : Option (List ℕ)) (failures failures_after : ℕ)
    (file : ℕ) (result : Result A StreamFault) : Type 0 where
  pub streams : Streams (shown_by old) (shown_by new) taken takes file result
  pub does : KeepsState (shown_by old) (shown_by new) result
  pub count : CountsFailures failures failures_after result
  pub stays : StaysOpen old new result

-- Why it isn't known whether a store is open: a transaction is under way; or the store failed, by this fault, and not
-- because it was shut before: memory was refused, or the disk failed once more.
abbrev pub StoreFailsToReport : (old new : db.State) → StoreFault → Type 0
StoreFailsToReport old new fault =
    (IsTrue old.in_transaction × (fault ≡ Store))
    ⊎ ((e : Error) × db.Fails old new ⊥ e × (e ≢ SqliteFailure Closed) × (fault ≡ fault_for e))

-- a statement was prepared, so the store is open; or it was shut; or another error is why that isn't known
abbrev pub ReportsPrepared : Result ⊤ Error → Result Bool StoreFault → Type 0
ReportsPrepared (Ok prepared) result = result ≡ Ok true
ReportsPrepared (Err error) result =
    ((error ≡ SqliteFailure Closed) × (result ≡ Ok false))
    ⊎ ((error ≢ SqliteFailure Closed) × (result ≡ Err (fault_for error)))
