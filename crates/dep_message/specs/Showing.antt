-- What is shown of the next request before it is taken.
use Rattle.std.specs.Prelude.{◌≡◌, ℕ, Bool, true, false}
use Rattle.dep_head.specs.Head.{HeadParts}
use Rattle.dep_message.specs.Places.{Place}
use Rattle.dep_message.specs.Stream.{Request, FirstAt}
use Rattle.dep_message.specs.declared.message.Message.{Message}

-- no request stands first
abbrev pub IsNoRequest : (limit : ℕ) → Place → Type 0
IsNoRequest limit at = (m : Message) (next : Place) → FirstAt limit at (Request m) next → ⊥

-- it doesn't hold of the request that stands first, if one does
abbrev pub IsNoNext : (holds : HeadParts → Bool) → (limit : ℕ) → Place → Type 0
IsNoNext holds limit at = (m : Message) (next : Place) → FirstAt limit at (Request m) next
    → holds m.head ≡ false

-- the request that stands first was shown; or none stands there whole, and nothing was shown
abbrev pub ShowsNext : {X : Type 0} → (sees : X → X → Message → Type 0) → (before after : X)
    → (limit : ℕ) → Place → (shown : Bool) → Type 0
ShowsNext sees before after limit at true =
    (m : Message) × (next : Place) × FirstAt limit at (Request m) next × sees before after m
ShowsNext sees before after limit at false = IsNoRequest limit at × (after ≡ before)
