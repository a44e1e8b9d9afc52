-- What a stop leaves of an archive that represents a state.
use Rattle.std.proofs.Common.{◌≡◌, ◌⊎◌, inl, inr}
use Rattle.dep_types.specs.State.{State}
use Rattle.dep_types.specs.Conditions.{Condition, Represents, Leaves}
use Rattle.dep_exchange.specs.Shut.{LeavesNoMore}

-- a crash leaves the state that it represents and nothing else
abbrev pub Settles : Condition → Type 0
Settles c = (s : State) → Represents c s → Leaves c (λ found. found ≡ s)

-- an archive that represents a state leaves that state
pub stays_as : (c : Condition) (s : State) → Settles c → Represents c s → Leaves c (λ found. found ≡ s)
stays_as c s settles represents = settles s represents

-- what leaves some states leaves more
pub leaves_wider : (c : Condition) (P Q : State → Type 0) → ((s : State) → P s → Q s) → Leaves c P → Leaves c Q
leaves_wider c P Q f leaves image h = let l = leaves image h in (l.0, l.1, f l.0 l.2)

-- it leaves a state or that same state
pub leaves_once : (c : Condition) (s : State) → Leaves c (λ found. (found ≡ s) ⊎ (found ≡ s)) → Leaves c (λ found. found ≡ s)
leaves_once c s leaves = leaves_wider c _ _ (λ found e. elim e [ inl same ↦ same | inr same ↦ same ]) leaves

-- what a crash may leave of no more than before represents the same states
pub leaves_before : (old new : Condition) (P : State → Type 0) → LeavesNoMore old new → Leaves old P → Leaves new P
leaves_before old new P no_more leaves image h =
    let before = no_more image h in
    let l = leaves before.0 before.1 in
    (l.0, (before.2 l.0).0 l.1, l.2)
