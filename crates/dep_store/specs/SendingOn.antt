-- What a call does that sends a few blocks more of the content of a file.
use Rattle.std.specs.Prelude.{◌≡◌, ◌≢◌, ℕ, ◌+◌, ◌≤◌, List, [], length, Option, None, Some, Result, Ok, Err, IfOk}
use Rattle.std.specs.Io.KnownBytes.{Appends}
use Rattle.sqlite.specs.State as db
use Rattle.sqlite.specs.State.{HasCleanDisk}
use Rattle.dep_types.specs.State.{State}
use Rattle.dep_types.specs.Writing.{TakesPart}
use Rattle.dep_types.specs.declared.stream_fault.StreamFault.{StreamFault}
use Rattle.dep_types.specs.declared.stream_fault.StreamFault.TheVariants.{Writer, Store, Memory, NoSuchFile}
use Rattle.dep_answers.specs.declared.performed.StoredFile.{StoredFile}
use Rattle.dep_transactions.specs.States.{StoreRepresents}
use Rattle.dep_transactions.specs.Transactions.{FindsOpen}
use Rattle.dep_exchange.specs.Archives.{KeepsState, CountsFailures}
use Rattle.dep_exchange.specs.Owing.{Begins, StreamsOn, TakesFew, step_bytes}
use Rattle.dep_store.specs.Archive.{shown_by}
use Rattle.dep_store.specs.Caching.{HasSize}
use Rattle.dep_store.specs.Shut.{StaysOpen, StoreFailsIfShut}

-- the file was found to be there, with so many bytes, and nothing changed
pub record FindsSize {E : Type 0} (old new : db.State) (it : StoredFile) (result : Result ℕ E)
    : Type 0 where
  pub reports : HasCleanDisk new → (s : State) → StoreRepresents old s
      → IfOk result (HasSize s it.object it.file)
  pub finds : FindsOpen old new result

-- no more are sent at once than four blocks have
abbrev pub AreFew : List ℕ → Type 0
AreFew bytes = length bytes ≤ step_bytes

-- the next bytes of a content of so many were sent from a place on: all that were left, or some and where the
-- next ones stand
abbrev pub GivesNext : (taken takes : Option (List ℕ)) → (bytes : List ℕ) → (start size : ℕ)
    → Result (Option ℕ) StreamFault → Type 0
GivesNext taken takes bytes start size (Ok None) = AreFew bytes × (start + length bytes ≡ size)
    × Appends taken takes bytes
GivesNext taken takes bytes start size (Ok (Some next)) = AreFew bytes × (bytes ≢ [])
    × (next ≡ start + length bytes) × Appends taken takes bytes
GivesNext taken takes bytes start size (Err Writer) = AreFew bytes × TakesPart taken takes bytes
GivesNext taken takes bytes start size (Err Store) = takes ≡ taken
GivesNext taken takes bytes start size (Err Memory) = ⊥
GivesNext taken takes bytes start size (Err NoSuchFile) = ⊥

-- a few blocks more are sent, over an outlet that took these bytes and failed so often
pub record SendsNextBlocks (old new : db.State) (taken takes : Option (List ℕ)) (failures failures_after : ℕ)
    (it : StoredFile) (start : ℕ) (result : Result (Option ℕ) StreamFault) : Type 0 where
  pub streams : StreamsOn (shown_by old) (shown_by new) taken takes it start result
  pub few : TakesFew taken takes
  pub does : KeepsState (shown_by old) (shown_by new) result
  pub count : CountsFailures failures failures_after result
  pub stays : StaysOpen old new result

-- the file is there, over a store that is open
pub record BeginsIfOpen {A E : Type 0} (old new : db.State) (it : StoredFile) (result : Result A E)
    : Type 0 where
  pub begins : Begins (shown_by new) it result
  pub does : KeepsState (shown_by old) (shown_by new) result
  pub shut : StoreFailsIfShut old new result
