-- What is known of the database of a store that is looked through, which stays.
use Rattle.std.specs.Prelude.{◌≡◌, ◌⊎◌, ℕ, List, [], IsTrue}
use Rattle.sqlite.specs.State as db
use Rattle.sqlite.specs.State.{HasCleanDisk}
use Rattle.dep_types.specs.State.{State, empty_state}
use Rattle.dep_tables.specs.Tables.{Tables}
use Rattle.dep_tables.specs.Versions.{our_version, older_version, HasVersion}
use Rattle.dep_transactions.specs.OpenTables.{Holds, HoldsOlder, StaysFile}
use Rattle.dep_schema.specs.Openable.{HoldsNone}
use Rattle.dep_store.specs.Migrating.{IsUpgraded}
use Rattle.dep_transactions.specs.States.{TablesRepresent, IsLeftAs}
use Rattle.dep_commands.specs.Audits.{Audits}
use Rattle.dep_commands.specs.Exports.{Exports}
use Rattle.dep_program.specs.declared.outcome.Outcome.{Outcome}
use Rattle.dep_program.specs.declared.outcome.Outcome.TheVariants.{StoreFault, TransferFault}
use Rattle.dep_application.specs.Databases.{IsKeptAsStore, IsNotOpened}

-- it stays as a store; or it was not opened, which is a fault of the store
abbrev pub StaysAsStore : (old new : db.State) → Outcome → Type 0
StaysAsStore old new outcome = IsKeptAsStore old new ⊎ ((outcome ≡ StoreFault) × IsNotOpened old new)

-- so do tables that represent no state, and those of version 1 are now of version 2
pub record AreOpened (old new : db.State) : Type 0 where
  pub newest : IsTrue new.is_open → (t : Tables) → Holds old.now.trees t
      → HasVersion our_version t × StaysFile new t
  pub older : IsTrue new.is_open → (t : Tables) → HoldsOlder old.now.trees t
      → HasVersion older_version t → (after : Tables) × StaysFile new after × IsUpgraded t after

abbrev pub ExaminationKeepsTables : (old new : db.State) → Outcome → Type 0
ExaminationKeepsTables old new outcome =
    AreOpened old new ⊎ ((outcome ≡ StoreFault) × IsNotOpened old new)

-- it was written of the tables that those of version 1 become, or nothing was
abbrev pub AuditsOlder : Tables → (written : List ℕ) → Outcome → Type 0
AuditsOlder t written outcome =
    ((after : Tables) × IsUpgraded t after × Audits after written outcome)
    ⊎ ((written ≡ []) × (outcome ≡ StoreFault))

-- What is written is what an audit of the tables writes, by its outcome; of an empty database that of the initial
-- state.
pub record AuditsDatabase (old new : db.State) (written : List ℕ) (outcome : Outcome) : Type 0 where
  pub fresh : HasCleanDisk new → HoldsNone old.now.trees
      → (t : Tables) × TablesRepresent t empty_state × Audits t written outcome
  pub found : HasCleanDisk new → (t : Tables) → Holds old.now.trees t → Audits t written outcome
  pub older : HasCleanDisk new → (t : Tables) → HoldsOlder old.now.trees t
      → HasVersion older_version t → AuditsOlder t written outcome
  pub stays : StaysAsStore old new outcome
  pub tables : ExaminationKeepsTables old new outcome

-- a folder is given what an export gives it, by its outcome; or there is no such folder, and nothing was given
abbrev pub ExportsInto : State → (object : ℕ) → (given : List ℕ) → Outcome → Type 0
ExportsInto s object given outcome =
    Exports s object given outcome ⊎ ((given ≡ []) × (outcome ≡ TransferFault))

-- the folder is given the bag of an object; of an empty database that of the initial state, which has none
pub record ExportsDatabase (old new : db.State) (object : ℕ) (outcome : Outcome) : Type 0 where
  pub given : List ℕ
  pub fresh : HasCleanDisk new → HoldsNone old.now.trees → ExportsInto empty_state object given outcome
  pub found : HasCleanDisk new → (s : State) → IsLeftAs old.now.trees s
      → ExportsInto s object given outcome
  pub stays : StaysAsStore old new outcome
