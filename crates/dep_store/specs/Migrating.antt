-- What becomes of a database of version 1 that is opened, and what a crash leaves of any open.
use Rattle.std.specs.Prelude.{◌≡◌, ◌⊎◌, List, IsTrue, Result, OnErr, OnOk, MatchResult}
use Rattle.sqlite.specs.State as db
use Rattle.sqlite.specs.State.{HasCleanDisk}
use Rattle.sqlite.specs.Held.{Held, state}
use Rattle.sqlite_trees.specs.declared.store.Store.{Ghosts}
use Rattle.sqlite.specs.Tree.{Trees}
use Rattle.dep_types.specs.State.{State, empty_state}
use Rattle.dep_tables.specs.Tables.{Tables, IsKnown}
use Rattle.dep_tables.specs.Versions.{our_version, older_version, HasVersion}
use Rattle.dep_tables.specs.declared.sha512s.FileSha512.{FileSha512}
use Rattle.dep_row_maps.specs.Sha512s.{upgraded}
use Rattle.dep_schema.specs.OpenFaults.{ReportsVersion}
use Rattle.dep_transactions.specs.OpenTables.{Holds, HoldsOlder, StaysFile, IsOpenWithOlder, IsBack}
use Rattle.dep_schema.specs.Openable.{HoldsNone, IsOpenable}
use Rattle.dep_transactions.specs.States.{StoreRepresents, OlderRepresents, IsLeftAs, DatabaseLeaves}
use Rattle.dep_schema.specs.declared.opening.OpenFault.{OpenFault}
use Rattle.dep_schema.specs.declared.opening.OpenFault.TheVariants.{UnknownVersion}
use Rattle.dep_schema.specs.Sha512s.{AreValuesOf}

-- version 2, with the values of the files as their bytes stand
pub record IsUpgraded (t after : Tables) : Type 0 where
  pub values : List FileSha512
  pub are : AreValuesOf t values
  pub is : after ≡ upgraded values t

-- An Ok has committed version 2 with those values; else the tables of version 1 are as they were; a crash leaves one or
-- the other.
pub record Migrates {A E : Type 0} (old new : db.State) (result : Result A E) : Type 0 where
  pub ok : HasCleanDisk new → (t : Tables) → IsOpenWithOlder old t
      → OnOk result ((after : Tables) × StaysFile new after × IsUpgraded t after)
  pub err : IsTrue new.is_open → (t : Tables) → IsOpenWithOlder old t → OnErr result (IsOpenWithOlder new t)
  pub honest : HasCleanDisk new → HasCleanDisk old
  pub stop : HasCleanDisk new → (t : Tables) → IsOpenWithOlder old t → (trees : Trees) → new.may_leave trees
      → HoldsOlder trees t ⊎ ((after : Tables) × Holds trees after × IsUpgraded t after)

-- it represents the state in one of the versions
abbrev pub Stood : db.State → State → Type 0
Stood d s = StoreRepresents d s ⊎ OlderRepresents d s

-- What tables of version 1 are once they were opened, by the version in their row: those of version 2, or, where
-- the row has that already, what they were.
abbrev pub OpensOlder : Tables → db.State → Type 0
OpensOlder t new =
    (HasVersion older_version t × ((after : Tables) × StaysFile new after × IsUpgraded t after))
    ⊎ (HasVersion our_version t × IsOpenWithOlder new t)

-- What an open that failed leaves as it was committed: a database with the schema of one of our versions, and each one
-- of which version 1 is not shown, such as one without a table `format`.
pub record KeepsDatabase (old new : db.State) : Type 0 where
  pub known : IsKnown old → IsBack old new
  pub other : (ReportsVersion old older_version → ⊥) → IsBack old new

-- a database with no table, as it was or as a new store; one that represented a state, as that state
pub record OpenLeaves (old new : db.State) : Type 0 where
  pub fresh : HasCleanDisk new → IsTrue old.is_open → HoldsNone old.now.trees
      → (trees : Trees) → new.may_leave trees → HoldsNone trees ⊎ IsLeftAs trees empty_state
  pub found : HasCleanDisk new → IsTrue old.is_open → (s : State) → IsLeftAs old.now.trees s
      → DatabaseLeaves new (λ left. left ≡ s)

-- a failure between transactions falls back to the last commit of tables of ours
abbrev pub FallsBack : {A E : Type 0} (old new : db.State) → Result A E → Type 0
FallsBack old new result = IsTrue new.is_open → old.now ≡ old.committed → IsKnown old
    → OnErr result (IsBack old new)

-- this holds of the connection, opened or handed back
abbrev pub OfEither : {C E : Type 0} → Result C (E × C) → (C → Type 0) → Type 0
OfEither result reported = MatchResult result reported (λ refused. reported refused.1)

-- ---- what is known of an open, by the connection before it and the one behind it

module _ {S : Type 0} (g : Ghosts S) (old : Held S) where
  -- a database with no table is the empty archive's
  abbrev pub StartsEmpty : Held S → Type 0
  StartsEmpty new = HasCleanDisk (state g new) → HoldsNone (state g old).now.trees
      → StoreRepresents (state g new) empty_state

  -- one that represented a state, in either version, represents it
  abbrev pub FindsState : Held S → Type 0
  FindsState new = HasCleanDisk (state g new) → (s : State) → IsLeftAs (state g old).now.trees s
      → StoreRepresents (state g new) s

  -- tables of version 2 are those that were there
  abbrev pub FindsTables : Held S → Type 0
  FindsTables new = HasCleanDisk (state g new) → (t : Tables) → Holds (state g old).now.trees t
      → HasVersion our_version t × StaysFile (state g new) t

  -- tables of version 1 became those of version 2
  abbrev pub FindsOlder : Held S → Type 0
  FindsOlder new = HasCleanDisk (state g new) → (t : Tables) → HoldsOlder (state g old).now.trees t
      → OpensOlder t (state g new)

  -- of a database that can be opened, no version is found that is not known
  abbrev pub RefusesNone : OpenFault × Held S → Type 0
  RefusesNone refused = HasCleanDisk (state g refused.1) → refused.0 ≡ UnknownVersion
      → IsOpenable (state g old) → ⊥

  -- nor of one that represented a state
  abbrev pub RefusesNoState : OpenFault × Held S → Type 0
  RefusesNoState refused = HasCleanDisk (state g refused.1) → IsTrue (state g old).is_open
      → (s : State) → IsLeftAs (state g old).now.trees s → refused.0 ≡ UnknownVersion → ⊥

  -- while the store is open, tables are kept in the version that they had
  abbrev pub KeepsTables : OpenFault × Held S → Type 0
  KeepsTables refused = IsTrue (state g refused.1).is_open → KeepsDatabase (state g old) (state g refused.1)

  -- and what represented a state represents it still
  abbrev pub StillRepresents : OpenFault × Held S → Type 0
  StillRepresents refused = IsTrue (state g refused.1).is_open
      → (s : State) → IsLeftAs (state g old).now.trees s → Stood (state g refused.1) s
