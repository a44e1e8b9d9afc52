-- What the clauses of a change say.
use Rattle.std.specs.Prelude.{◌≡◌, ℕ, Some, Result, OnOk}
use Rattle.std.specs.FinMap as map
use Rattle.sqlite.specs.State as db
use Rattle.dep_types.specs.State.{State, Object}
use Rattle.dep_types.specs.declared.rows.ObjectRow.{ObjectRow}
use Rattle.dep_types.specs.declared.store_fault.StoreFault.{StoreFault}
use Rattle.dep_row_maps.specs.Clauses.{Does, FromMaps, SeesState}
use Rattle.dep_decisions.specs.Effects.{appended, bytes_from}
use Rattle.dep_decisions.specs.declared.decision.ContentSource.{ContentSource}
use Rattle.dep_decisions.specs.declared.decision.NewFile.{NewFile}
use Rattle.dep_decisions.specs.declared.decision.Deposit.{Deposit}
use Rattle.dep_decisions.specs.declared.decision.Decision.{Decision}
use Rattle.dep_requests.specs.declared.change.Change.{Change}
use Rattle.dep_requests.specs.declared.new_files.FileNumbers.{FileNumbers}
use Rattle.dep_objects.specs.Objects.{Rewrites}
use Rattle.dep_requests.specs.Reported.{ReportsDecision, ReportsDeposit, ReportsNewFile}
use Rattle.dep_requests.specs.Changed.{made_file, put_in, with_deposit, with_maps, with_deposited_file}

module _ {T A : Type 0} (state : T → db.State) (old new : T) (result : Result A StoreFault) where
  -- inside a transaction over a state's tables, where this holds of it, an Ok turns it into this one
  abbrev pub TurnsState : (reported : State → Type 0) → (after : State → State) → Type 0
  TurnsState reported after = FromMaps (state old) (state new)
      (λ s. reported s → OnOk result (SeesState (state new) (after s)))

module _ {T L A : Type 0} (lenders : T → L) (state : T → db.State) (old new : T)
    (result : Result A StoreFault) where
  -- so it turns a state
  abbrev pub MakesState : (reported : State → Type 0) → (after : State → State) → Type 0
  MakesState reported after = Does lenders state old new result (TurnsState state old new result reported after)

  -- the same where it holds of an object, whichever that is
  abbrev pub MakesOf : (reported : Object → State → Type 0) → (after : Object → State → State) → Type 0
  MakesOf reported after = Does lenders state old new result
      ((o : Object) → TurnsState state old new result (reported o) (after o))

  -- where what the decision relies on is known, an Ok has carried it out on the maps
  abbrev pub CarriesOut : Change → Decision → Type 0
  CarriesOut change d =
      MakesState (λ s. ReportsDecision change s d) (λ s. with_maps s change.content.now d)

  -- an Ok has put the deposit in the object of this number
  abbrev pub PutsIn : Change → (n : ℕ) → Deposit → Type 0
  PutsIn change n d =
      MakesOf (λ o s. ReportsDeposit change s d × (map.get s.objects n ≡ Some o))
      (λ o s. with_deposit s n (put_in s change.content.now d o) d)

  -- an Ok has added the deposit to the object that this row makes of one that is there
  abbrev pub Appends : Change → ObjectRow → Deposit → Type 0
  Appends change row d =
      MakesOf (λ o s. ReportsDeposit change s d × Rewrites s row o)
      (λ o s. with_deposit s row.object (appended s change.content.now d o) d)

  -- an Ok has put a file with the bytes of this source in its object, and an upload is gone with them
  abbrev pub DepositsFile : Change → FileNumbers → NewFile → (place : ℕ) → ContentSource → Type 0
  DepositsFile change numbers new_file place source = MakesOf
      (λ o s. ReportsNewFile change s place source × (map.get s.objects numbers.object ≡ Some o))
      (λ o s. with_deposited_file s numbers.object o numbers.file
      (made_file s new_file (bytes_from s change.content.now source)) source)
