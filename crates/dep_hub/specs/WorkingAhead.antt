-- What working ahead does to a hub, and how the preparing of requests ends.
use Rattle.std.specs.Prelude.{◌≡◌, ◌⊎◌, ◌<◌, ◌≤◌, ◌+◌, ◌&&◌, nat_lt, is_some, ℕ, zero, suc, Bool, true, false, List, Option, if◌then◌else◌}
use Rattle.dep_types.specs.Conditions.{Condition}
use Rattle.dep_exchange.specs.Records.{World}
use Rattle.dep_exchange.specs.Archives.{KeepsEachState}
use Rattle.dep_hub.specs.Representing.{store_of, intake_of, IsClean}
use Rattle.dep_hub.specs.Holding.{RepresentsOn, StopsOn}
use Rattle.dep_hub.specs.Claims.{is_content}
use Rattle.dep_hub.specs.Preparing.{MakesStepFor, is_preparing, step_bound}
use Rattle.dep_hub.specs.RepresentsOwing.{KeepsBack, OthersStay, RepresentsOwing, behind_at}
use Rattle.dep_hub.specs.declared.rest.Behind.TheVariants.{Nothing, Broken}
use Rattle.dep_hub.specs.declared.connections.Connection.{Connection}
use Rattle.dep_hub.specs.declared.hub.Hub.{Hub}

-- whoever of those below a number has its next request prepared has none above this one
abbrev pub IsNoneBetween : List Connection → (low high : ℕ) → Type 0
IsNoneBetween connections low high = (m : ℕ) → is_preparing (behind_at connections m) ≡ true
    → m < high → m ≤ low

-- It is the turn of a number: of those below the last one's the greatest, or where there is none the greatest of all.
pub data IsTurnOf (connections : List Connection) (last next number : ℕ) : Type 0 where
  goes_down : number < last → IsNoneBetween connections number last
      → IsTurnOf connections last next number
  begins_anew : ((m : ℕ) → is_preparing (behind_at connections m) ≡ true → last ≤ m)
      → IsNoneBetween connections number next → IsTurnOf connections last next number

-- a step is made for a connection whose next request is prepared, if there is such a one: for the one whose turn it is
pub data MakesOneStep {A : Type 0} (old new : Hub A) : Type 0 where
  for_none : ((m : ℕ) → is_preparing (behind_at old.connections.items m) ≡ false)
      → new.connections.items ≡ old.connections.items → MakesOneStep old new
  for_one : (number : ℕ)
      → MakesStepFor (behind_at old.connections.items number) (behind_at new.connections.items number)
      → OthersStay old new number
      → IsTurnOf old.connections.items old.last_turn old.next number → new.last_turn ≡ number
      → MakesOneStep old new

-- how many steps end what is prepared for the connections with numbers below this, at most
abbrev pub steps_below : List Connection → (next : ℕ) → ℕ
steps_below connections zero = 0
steps_below connections (suc n) = steps_below connections n + step_bound (behind_at connections n)

-- One has its turn before a number, while turns go down from the last one's to 0: where it is above it, and where the
-- number isn't below the last one's, so that it waits until they go down anew.
abbrev pub is_turn_before : (last number before : ℕ) → Bool
is_turn_before last number before =
    nat_lt before last && (if nat_lt number last then nat_lt number before else true)

-- how many connections of numbers below this have their turn before another
abbrev pub turns_below : {A : Type 0} → Hub A → (number next : ℕ) → ℕ
turns_below hub number zero = 0
turns_below hub number (suc n) = turns_below hub number n
    + (if is_some (intake_of hub.connections.items n) && is_turn_before hub.last_turn number n then 1
    else 0)

-- so many turns come before that of a number, or before turns go down anew
abbrev pub turns_before : {A : Type 0} → Hub A → (number : ℕ) → ℕ
turns_before hub number = turns_below hub number hub.next

-- The turn of a number comes nearer: fewer come before it, or from now on turns go down to it, which they do until it has
-- come. Who connects then has a greater number than the last one, and comes behind it.
pub data ComesNearer {A : Type 0} (old new : Hub A) (number : ℕ) : Type 0 where
  fewer : turns_before new number < turns_before old number
      → (number < old.last_turn → number < new.last_turn) → ComesNearer old new number
  anew : old.last_turn ≤ number → number < new.last_turn → ComesNearer old new number

-- for all of a hub
abbrev pub steps_left : {A : Type 0} → Hub A → ℕ
steps_left hub = steps_below hub.connections.items hub.next

module _ {A : Type 0} (condition : A → Condition) where
  -- Nothing is answered: the hub represents the same records, holds the same bytes, and what a stop now leaves
  -- represents them too. Nothing of a connection changes, but for the one for which a step is made.
  pub record RestsAhead (old new : Hub A) : Type 0 where
    pub represents : RepresentsOn condition old new
    pub stops : StopsOn condition old new
    pub store : KeepsEachState (store_of condition old) (store_of condition new)
    pub config : new.config ≡ old.config
    pub next : new.next ≡ old.next
    pub intakes : (m : ℕ)
        → intake_of new.connections.items m ≡ intake_of old.connections.items m
    pub step : MakesOneStep old new

  -- what is owed stays
  abbrev pub AheadRepresents : Hub A → Hub A → Type 0
  AheadRepresents old new = RestsAhead old new → IsClean condition new
      → (w : World) (held owed : ℕ → List ℕ) → RepresentsOwing condition old w held owed
      → RepresentsOwing condition new w held owed

  -- a content is being sent where one was, and broken off where it was
  abbrev pub AheadContents : Hub A → Hub A → Type 0
  AheadContents old new = RestsAhead old new → (m : ℕ)
      → (is_content (behind_at new.connections.items m)
      ≡ is_content (behind_at old.connections.items m))
      × (behind_at new.connections.items m ≡ Broken → behind_at old.connections.items m ≡ Broken)

  -- while a request is prepared, working ahead leaves fewer steps
  abbrev pub AheadEnds : Hub A → Hub A → Type 0
  AheadEnds old new = RestsAhead old new → (m : ℕ)
      → is_preparing (behind_at old.connections.items m) ≡ true → steps_left new < steps_left old

  -- It makes a step for a request that is prepared, or its turn comes nearer: so twice as many calls as there may be
  -- connections make one.
  abbrev pub AheadTakesTurns : Hub A → Hub A → Type 0
  AheadTakesTurns old new = RestsAhead old new → (m : ℕ)
      → is_preparing (behind_at old.connections.items m) ≡ true
      → MakesStepFor (behind_at old.connections.items m) (behind_at new.connections.items m)
      ⊎ ComesNearer old new m

  -- that begins where the request wasn't looked at before, and else goes on as it was
  abbrev pub PreparesOnce : Hub A → Hub A → Type 0
  PreparesOnce old new = (taken takes : Option (List ℕ)) (failures failures_after n : ℕ)
      → KeepsBack condition taken takes failures failures_after old new n
      → is_preparing (behind_at new.connections.items n) ≡ true
      → (behind_at old.connections.items n ≡ Nothing)
      ⊎ (behind_at new.connections.items n ≡ behind_at old.connections.items n)
