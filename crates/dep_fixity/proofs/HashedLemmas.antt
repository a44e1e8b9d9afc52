-- What is known of octets that were hashed, once more of them come or some go.
use Rattle.std.proofs.Common.{◌≡◌, ◌≤◌, ℕ, ◌-◌, ◌+◌, List, ◌++◌, length, take, drop, sym, ap, subst, ◌∙◌, arith, length-append, length-take, Result, Ok, Err, OnOk, OnErr}
use Rattle.std.proofs.lemmas.List.{length-take-le, take-append-drop, take-append-le}
use Rattle.std.proofs.Math.Seq.{take-append-add, take-take}
use Rattle.dep_fixity.specs.Fixity.{HashesMessage}
use Rattle.dep_fixity.specs.Hashing.{IsHashed}
use Rattle.dep_fixity.specs.declared.hashed.Hashed.{Hashed}

-- with more octets behind them
pub with_more : (h : Hashed) (octets more : List ℕ) → IsHashed h octets → IsHashed h (octets ++ more)
with_more h octets more is = record {
  within = omega (arith, is.within, length-append octets more);
  holds = subst (HashesMessage h.hasher) (sym (take-append-le h.count octets more is.within)) is.holds;
}

-- without those behind the first
pub with_less : (h : Hashed) (octets : List ℕ) (count : ℕ) → h.count ≤ count → IsHashed h octets → IsHashed h (take count octets)
with_less h octets count kept is = record {
  within = omega (arith, is.within, kept, length-take count octets);
  holds = subst (HashesMessage h.hasher) (sym (take-take h.count count octets kept)) is.holds;
}

-- the first octets are fewer of them and those up to there
front_is : (octets : List ℕ) (i n : ℕ) → i ≤ n → i ≤ length octets → take i octets ++ take (n - i) (drop i octets) ≡ take n octets
front_is octets i n less within =
    let size : length (take i octets) ≡ i = length-take-le i octets within in
    let count : length (take i octets) + (n - i) ≡ n = omega (arith, size, less) in
    sym (take-append-add (take i octets) (drop i octets) (n - i))
    ∙ (ap (λ k. take k (take i octets ++ drop i octets)) count ∙ ap (take n) (take-append-drop i octets))

-- the hasher was given those up to there too
pub with_next : (octets : List ℕ) (h g : Hashed) → IsHashed h octets → h.count ≤ g.count → g.count ≤ length octets
    → HashesMessage g.hasher (take h.count octets ++ take (g.count - h.count) (drop h.count octets)) → IsHashed g octets
with_next octets h g is less within holds = record {
  within = within;
  holds = subst (HashesMessage g.hasher) (front_is octets h.count g.count less is.within) holds;
}

-- the same octets, or more of them
pub kept_or_more : {A E : Type 0} (h : Hashed) (old more new : List ℕ) (result : Result A E) → OnOk result (new ≡ old ++ more)
    → OnErr result (new ≡ old) → IsHashed h old → IsHashed h new
kept_or_more h old more new (Ok a) ok err is = subst (IsHashed h) (sym ok) (with_more h old more is)
kept_or_more h old more new (Err e) ok err is = subst (IsHashed h) (sym err) is
