-- How often it is the turn of a place.
use Rattle.std.proofs.Common.{◌≡◌, inl, inr, ◌<◌, ◌≤◌, ◌+◌, ◌*◌, ℕ, zero, suc, Bool, true, if◌then◌else◌, List, [], ◌∷◌, refl, ap, length, arith}
use Rattle.std.proofs.Math.Nat.{mul-suc}
use Rattle.dep_host.specs.Sharing.{AreNexts, IsNextPlace, IsTurnInOne, is_turn, most_sent}
use Rattle.dep_host.proofs.ShareLemmas.{turn_comes}

-- in how many of these rounds it is
abbrev pub turns_in : (first : ℕ) → List ℕ → (place : ℕ) → ℕ
turns_in first [] place = 0
turns_in first (next ∷ more) place = (if is_turn first next place then 1 else 0) + turns_in next more place

one_turn : (first place : ℕ) (nexts : List ℕ) → IsTurnInOne first nexts place → 1 ≤ turns_in first nexts place
one_turn first place [] turn = absurd turn
one_turn first place (next ∷ more) (inl turn) =
    let count : Bool → ℕ = λ b. if b then 1 else 0 in
    let one : count (is_turn first next place) ≡ count true = ap count turn in
    omega (arith, one)
one_turn first place (next ∷ more) (inr later) = let some = one_turn next place more later in omega (arith, some)

-- the next round goes on from one of the places, or at their end
next_within : (places first next sent : ℕ) → IsNextPlace places first next sent → next ≤ places
next_within places first next sent (inl e) = omega (arith, e)
next_within places first next sent (inr h) = h.2

-- so many rounds and those behind them
record Parted (places place k first : ℕ) (nexts : List ℕ) : Type 0 where
  front : List ℕ
  rest : List ℕ
  from : ℕ
  enough : length front ≡ k
  all : length nexts ≡ k + length rest
  in_front : AreNexts places first front
  within : from ≤ places
  behind : AreNexts places from rest
  turns : turns_in first nexts place ≡ turns_in first front place + turns_in from rest place

part : (places place k first : ℕ) (nexts : List ℕ) → k ≤ length nexts → first ≤ places → AreNexts places first nexts → Parted places place k first nexts
part places place zero first nexts many within all = record {
  front = [];
  rest = nexts;
  from = first;
  enough = refl;
  all = omega arith;
  in_front = tt;
  within = within;
  behind = all;
  turns = let none : turns_in first [] place ≡ 0 = refl in omega (arith, none);
}
part places place (suc k) first [] many within all = absurd (let no : ⊥ = omega (arith, many) in no)
part places place (suc k) first (next ∷ more) many within all =
    let h = part places place k next more (omega (arith, many)) (next_within places first next all.0.0 all.0.1) all.1 in
    let long = h.enough in
    let rest_long = h.all in
    let later = h.turns in
    record {
      front = next ∷ h.front;
      rest = h.rest;
      from = h.from;
      enough = omega (arith, long);
      all = omega (arith, rest_long);
      in_front = (all.0, h.in_front);
      within = h.within;
      behind = h.behind;
      turns = omega (arith, later);
    }

-- as often as there are enough rounds for
pub turns_come_often : (places place k : ℕ) → place < places → places + most_sent ≤ most_sent * k → (times first : ℕ) (nexts : List ℕ) → first ≤ places → AreNexts places first nexts
    → k * times ≤ length nexts → times ≤ turns_in first nexts place
turns_come_often places place k there enough zero first nexts within all many = omega arith
turns_come_often places place k there enough (suc times) first nexts within all many =
    let more = mul-suc k times in
    let parted = part places place k first nexts (omega (arith, many, more)) within all in
    let long = parted.enough in
    let front_enough : places + most_sent ≤ most_sent * length parted.front = let e : places + 64 ≤ 64 * k = enough in let g : places + 64 ≤ 64 * length parted.front = omega (arith, e, long) in g in
    let one = one_turn first place parted.front (turn_comes places place there parted.front first within parted.in_front front_enough) in
    let left = parted.all in
    let later = turns_come_often places place k there enough times parted.from parted.rest parted.within parted.behind (omega (arith, many, more, left)) in
    let sum = parted.turns in
    omega (arith, one, later, sum)
