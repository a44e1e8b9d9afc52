-- Whose contents are sent on in a round.
use Rattle.std.specs.Prelude.{◌≡◌, ◌⊎◌, ◌≤◌, ◌+◌, ◌-◌, ◌==◌, ◌*◌, ◌<◌, ◌&&◌, ◌||◌, not, nat_lt, length, List, [], ◌∷◌, ℕ, Bool, true, false, if◌then◌else◌}
use Rattle.dep_host.specs.declared.share.Share.{Share}

-- so many contents are sent on in a round at most
abbrev pub most_sent : ℕ
most_sent = 64

-- It is the turn of a place in a round that sends contents on from a first place, as the next one does from this one:
-- it is at or behind the first, and in prefix of the next, or all had their turn.
abbrev pub is_turn : (first next place : ℕ) → Bool
is_turn first next place = not (nat_lt place first) && (next == 0 || nat_lt place next)

-- The next round sends contents on from the first place, or as many as may be were sent on, and it goes on behind
-- these.
abbrev pub IsNextPlace : (places first next sent : ℕ) → Type 0
IsNextPlace places first next sent = (next ≡ 0)
    ⊎ ((sent ≡ most_sent) × (first + most_sent ≤ next) × (next ≤ places))

-- rounds one behind the other that send contents on from a first place, and then from these
abbrev pub AreNexts : (places first : ℕ) → List ℕ → Type 0
AreNexts places first [] = Unit {0}
AreNexts places first (next ∷ more) =
    ((sent : ℕ) × IsNextPlace places first next sent) × AreNexts places next more

-- in one of these it is the turn of a place
abbrev pub IsTurnInOne : (first : ℕ) → List ℕ → (place : ℕ) → Type 0
IsTurnInOne first [] place = ⊥
IsTurnInOne first (next ∷ more) place = (is_turn first next place ≡ true) ⊎ IsTurnInOne next more place

-- Of any rounds one behind the other that are as many as this, one is the turn of each place: of 1,024 places of any
-- 17 rounds.
abbrev pub TurnsCome : Type 0
TurnsCome = (places first place : ℕ) (nexts : List ℕ) → place < places → first ≤ places
    → AreNexts places first nexts → places + most_sent ≤ most_sent * length nexts
    → IsTurnInOne first nexts place

-- whose turn it is once a content was sent on at a place, or not
abbrev pub counted : Share → (at : ℕ) → (has_sent : Bool) → Share
counted share at true = record share {
  left = share.left - 1;
  next = if share.left - 1 == 0 then at + 1 else share.next;
}
counted share at false = share
