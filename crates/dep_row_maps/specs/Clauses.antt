-- What the clauses of a call say that reads or changes the maps of the state.
use Rattle.std.specs.Prelude.{◌≡◌, IsTrue, Result, OnOk, IfOk}
use Rattle.sqlite.specs.State as db
use Rattle.sqlite.specs.State.{HasCleanDisk}
use Rattle.dep_types.specs.State.{State}
use Rattle.dep_types.specs.declared.store_fault.StoreFault.{StoreFault}
use Rattle.dep_tables.specs.Clauses.{FailsWhole, MayReadWithin, ReadsWithin, StaysWithin}
use Rattle.dep_tables.specs.Tables.{Tables, tables_of, IsOurs}
use Rattle.dep_row_maps.specs.TablesAre.{TablesAre}

-- they are our tables, and have these rows
pub record Sees (now : db.State) (tables : Tables) : Type 0 where
  pub ours : IsOurs now
  pub rows : tables_of now ≡ tables

-- the tables that it sees are the state's
abbrev pub SeesState : db.State → State → Type 0
SeesState now s = TablesAre (tables_of now) s

module _ (old new : db.State) where
  -- inside a transaction over tables that are a state's
  abbrev pub FromMaps : (State → Type 0) → Type 0
  FromMaps reported = HasCleanDisk new → IsTrue old.in_transaction → IsOurs old
      → (s : State) → SeesState old s → reported s

  -- the same of reading, in a transaction or not
  abbrev pub OverMaps : (State → Type 0) → Type 0
  OverMaps reported = HasCleanDisk new → IsOurs old → (s : State) → SeesState old s → reported s

module _ {A E : Type 0} (old new : db.State) (result : Result A E) where
  -- inside a transaction over our tables, an Ok makes this of them, were it by no statement
  abbrev pub Becomes : (Tables → Tables) → Type 0
  Becomes change = HasCleanDisk new → IsTrue old.in_transaction → IsOurs old
      → OnOk result (Sees new (change (tables_of old)))

  -- after an Ok they are our tables still
  abbrev pub KeepsOurs : Type 0
  KeepsOurs = HasCleanDisk new → IsTrue old.in_transaction → IsOurs old → OnOk result (IsOurs new)

module _ {T L A E : Type 0} (lenders : T → L) (state : T → db.State) (old new : T) (result : Result A E) where
  -- what a call on a transaction keeps that changes our tables
  pub record ChangesWithin : Type 0 where
    pub stays : StaysWithin lenders state old new result
    pub ours : KeepsOurs (state old) (state new) result

  -- inside a transaction over a state's tables this holds of the state, and nothing is changed
  pub record Finds (reported : State → Type 0) : Type 0 where
    pub found : FromMaps (state old) (state new) reported
    pub keeps : ReadsWithin lenders state old new result

  -- the same of a call that reads, if anything
  pub record MayFind (reported : State → Type 0) : Type 0 where
    pub found : FromMaps (state old) (state new) reported
    pub keeps : MayReadWithin lenders state old new result

  -- the same in a transaction or not
  pub record ReadsOver (reported : State → Type 0) : Type 0 where
    pub map : OverMaps (state old) (state new) reported
    pub keeps : ReadsWithin lenders state old new result

  -- and of an open store
  pub record MayReadOver (reported : State → Type 0) : Type 0 where
    pub map : IsTrue (state old).is_open → OverMaps (state old) (state new) reported
    pub keeps : MayReadWithin lenders state old new result

module _ {T L A : Type 0} (lenders : T → L) (state : T → db.State) (old new : T)
    (result : Result A StoreFault) where
  -- what a call does that reads, and returns this of a state
  pub record ReadsMaps (reported : State → A → Type 0) : Type 0 where
    pub map : OverMaps (state old) (state new) (λ s. IfOk result (reported s))
    pub keeps : ReadsWithin lenders state old new result

  -- inside a transaction over a state's tables, an Ok makes them those of a state that is so
  abbrev pub Turns : (State → (State → Type 0) → Type 0) → Type 0
  Turns reported = FromMaps (state old) (state new)
      (λ s. reported s (λ next. OnOk result (SeesState (state new) next)))

  -- what a call does, and what each keeps that changes our tables
  pub record Does (this : Type 0) : Type 0 where
    pub done : this
    pub keeps : ChangesWithin lenders state old new result

  -- what one does that turns a state
  pub record ChangesMaps (reported : State → (State → Type 0) → Type 0) : Type 0 where
    pub map : Turns reported
    pub keeps : ChangesWithin lenders state old new result

  -- the same of one that runs a single statement, so that a failure has changed nothing, or is given back whole
  pub record WritesMaps (reported : State → (State → Type 0) → Type 0) : Type 0 where
    pub map : Turns reported
    pub err : FailsWhole (state old) (state new) result
    pub keeps : ChangesWithin lenders state old new result

  -- what one does that changes tables, were they no state's
  pub record ChangesTables (change : Tables → Tables) : Type 0 where
    pub ok : Becomes (state old) (state new) result change
    pub stays : StaysWithin lenders state old new result
