-- Whose contents are sent on in a round.
use Rattle.std.proofs.Common.{◌≡◌, ◌⊎◌, ◌<◌, ◌≤◌, ◌+◌, ◌-◌, ◌*◌, ◌==◌, ◌&&◌, ◌||◌, not, nat_lt, if◌then◌else◌, ℕ, suc, List, [], ◌∷◌, length, Bool, true, false, inl, inr, refl, sym, ap, subst, ◌∙◌, arith}
use Rattle.std.proofs.lemmas.Bool.{cases_eq, cases_lt, eq-eqb, ne_eqb, lt-ltb, le-ltb}
use Rattle.std.proofs.Math.Bool.{or-true}
use Rattle.dep_host.specs.declared.share.Share.{Share}
use Rattle.dep_host.specs.Sharing.{IsNextPlace, AreNexts, IsTurnInOne, counted, is_turn, most_sent}

-- so many contents were sent on at the places so far
pub record SharesSo (share : Share) (at sent : ℕ) : Type 0 where
  pub counts : sent + share.left ≡ 64
  pub goes_by : ((share.next ≡ 0) × (0 < share.left) × (sent ≤ at - share.first))
      ⊎ ((share.left ≡ 0) × (share.first + 64 ≤ share.next) × (share.next ≤ at))

pub shares_begin : (share : Share) → share.next ≡ 0 → share.left ≡ most_sent → SharesSo share 0 0
shares_begin share next left =
    let l : share.left ≡ 64 = left in
    record { counts = omega (arith, l); goes_by = inl (next, omega (arith, l), omega arith) }

and_false : (b : Bool) → (b && false) ≡ false
and_false true = refl
and_false false = refl

-- it is the turn of a place behind the first alone
pub turn_behind : (first next at : ℕ) → is_turn first next at ≡ true → first ≤ at
turn_behind first next at h = elim (cases_lt at first) [
  | inl lt ↦ absurd (let bad : false ≡ true = sym (ap (λ (b : Bool). not b && (next == 0 || nat_lt at next)) (lt-ltb at first lt)) ∙ h in cc)
  | inr ge ↦ ge
]

-- and in prefix of the next
turn_before : (first next at : ℕ) → is_turn first next at ≡ true → (next ≡ 0) ⊎ (at < next)
turn_before first next at h = elim (cases_lt at next) [
  | inl lt ↦ inr lt
  | inr ge ↦ elim (cases_eq next 0) [
    | inl e ↦ inl e
    | inr ne ↦ absurd (let none : is_turn first next at ≡ false = ap (λ (b : Bool). not (nat_lt at first) && (b || nat_lt at next)) (ne_eqb next 0 ne)
        ∙ (ap (λ (b : Bool). not (nat_lt at first) && b) (le-ltb at next ge) ∙ and_false (not (nat_lt at first))) in
        let bad : false ≡ true = sym none ∙ h in cc)
  ]
]

-- where the last one was sent on it was the turn of the places so far just where it was before
turn_stays : (first next at place : ℕ) → next ≡ 0 → place < at + 1 → is_turn first (at + 1) place ≡ is_turn first next place
turn_stays first next at place none lt =
    ap (λ (b : Bool). not (nat_lt place first) && (at + 1 == 0 || b)) (lt-ltb place (at + 1) lt) ∙ (ap (λ (b : Bool). not (nat_lt place first) && b) (or-true (at + 1 == 0))
    ∙ sym (ap (λ (b : Bool). not (nat_lt place first) && (b || nat_lt place next)) (eq-eqb next 0 none)))

-- a content was sent on at one place more, whose turn it was
one_more : (share : Share) (at sent : ℕ) → sent + share.left ≡ 64 → share.next ≡ 0 → 0 < share.left → sent ≤ at - share.first → share.first ≤ at
    → SharesSo (counted share at true) (at + 1) (sent + 1)
    × ((place : ℕ) → place < at + 1 → is_turn share.first (counted share at true).next place ≡ is_turn share.first share.next place)
one_more share at sent counts next some few behind = elim (cases_eq (share.left - 1) 0) [
  | inl e ↦
      let is : (counted share at true).next ≡ at + 1 = ap (λ (b : Bool). if b then at + 1 else share.next) (eq-eqb (share.left - 1) 0 e) in (
        record {
          counts = omega (arith, counts, some);
          goes_by = inr (e, omega (arith, is, counts, e, some, few, behind), omega (arith, is));
        },
        λ place lt. ap (λ (n : ℕ). is_turn share.first n place) is ∙ turn_stays share.first share.next at place next lt,
      )
  | inr ne ↦
      let is : (counted share at true).next ≡ share.next = ap (λ (b : Bool). if b then at + 1 else share.next) (ne_eqb (share.left - 1) 0 ne) in (
        record {
          counts = omega (arith, counts, some);
          goes_by = inl (is ∙ next, omega (arith, ne, some), omega (arith, few, behind));
        },
        λ place lt. ap (λ (n : ℕ). is_turn share.first n place) is,
      )
]

sent_more : (share : Share) (at sent : ℕ) → SharesSo share at sent → is_turn share.first share.next at ≡ true
    → SharesSo (counted share at true) (at + 1) (sent + 1)
    × ((place : ℕ) → place < at + 1 → is_turn share.first (counted share at true).next place ≡ is_turn share.first share.next place)
sent_more share at sent s turn = elim s.goes_by [
  | inl h ↦ one_more share at sent s.counts h.0 h.1 h.2 (turn_behind share.first share.next at turn)
  | inr h ↦ absurd (elim (turn_before share.first share.next at turn) [
    | inl e ↦ let a = h.1 in let no : ⊥ = omega (arith, e, a) in no
    | inr lt ↦ let b = h.2 in let no : ⊥ = omega (arith, lt, b) in no
  ])
]

-- or none was
pub shares_on : (share : Share) (at sent more : ℕ) (has_sent : Bool) → SharesSo share at sent → (has_sent ≡ true → is_turn share.first share.next at ≡ true) → more ≡ (if has_sent then 1 else 0)
    → SharesSo (counted share at has_sent) (at + 1) (sent + more)
    × ((counted share at has_sent).first ≡ share.first)
    × ((place : ℕ) → place < at + 1 → is_turn share.first (counted share at has_sent).next place ≡ is_turn share.first share.next place)
shares_on share at sent more true s turn one =
    let m = sent_more share at sent s (turn refl) in
    (subst (λ (n : ℕ). SharesSo (counted share at true) (at + 1) (sent + n)) (sym one) m.0, refl, m.1)
shares_on share at sent more false s turn none =
    let n : more ≡ 0 = none in
    let c = s.counts in (
      record {
        counts = omega (arith, c, n);
        goes_by = elim s.goes_by [
          | inl h ↦ let few = h.2 in inl (h.0, h.1, omega (arith, few, n))
          | inr h ↦ let le = h.2 in inr (h.0, h.1, omega (arith, le))
        ];
      },
      refl,
      λ place lt. refl,
    )

pub counted_first : (share : Share) (at : ℕ) (has_sent : Bool) → (counted share at has_sent).first ≡ share.first
counted_first share at true = refl
counted_first share at false = refl

-- some may be sent on still where it is the turn of a place
pub room_left : (share : Share) (at sent : ℕ) → SharesSo share at sent → is_turn share.first share.next at ≡ true → 0 < share.left
room_left share at sent s turn = elim s.goes_by [
  | inl h ↦ h.1
  | inr h ↦ absurd (elim (turn_before share.first share.next at turn) [
    | inl e ↦ let a = h.1 in let no : ⊥ = omega (arith, e, a) in no
    | inr lt ↦ let b = h.2 in let no : ⊥ = omega (arith, lt, b) in no
  ])
]

-- no more than so many were sent on, and from where it goes on
pub sent_few : (share : Share) (at sent : ℕ) → SharesSo share at sent → sent ≤ most_sent
sent_few share at sent s = let c = s.counts in let few : sent ≤ 64 = omega (arith, c) in few

pub shares_end : (share : Share) (places at sent : ℕ) → SharesSo share at sent → at ≤ places → IsNextPlace places share.first share.next sent
shares_end share places at sent s within = elim s.goes_by [
  | inl h ↦ inl h.0
  | inr h ↦
      let c = s.counts in let none = h.0 in let far = h.1 in let le = h.2 in
      let all : sent ≡ 64 = omega (arith, c, none) in
      inr (all, far, omega (arith, le, within))
]

turn_here : (first next place : ℕ) → first ≤ place → (next == 0) ≡ true → is_turn first next place ≡ true
turn_here first next place ge e = ap (λ (b : Bool). not b && (next == 0 || nat_lt place next)) (le-ltb place first ge) ∙ ap (λ (b : Bool). b || nat_lt place next) e

turn_there : (first next place : ℕ) → first ≤ place → place < next → is_turn first next place ≡ true
turn_there first next place ge lt =
    ap (λ (b : Bool). not b && (next == 0 || nat_lt place next)) (le-ltb place first ge) ∙ (ap (λ (b : Bool). next == 0 || b) (lt-ltb place next lt) ∙ or-true (next == 0))

-- it is its turn, or the next round begins nearer to it
turn_or_nearer : (places first next place sent : ℕ) → place < places → IsNextPlace places first next sent
    → (is_turn first next place ≡ true) ⊎ (((first ≤ place) × (first + 64 ≤ next) × (next ≤ place)) ⊎ ((place < first) × ((next ≡ 0) ⊎ ((first + 64 ≤ next) × (next ≤ places)))))
turn_or_nearer places first next place sent there n = elim (cases_lt place first) [
  | inl lt ↦ inr (inr (
    lt,
    elim n [
      | inl e ↦ inl e
      | inr h ↦ inr (h.1, h.2)
    ],
  ))
  | inr ge ↦ elim n [
    | inl e ↦ inl (turn_here first next place ge (eq-eqb next 0 e))
    | inr h ↦ elim (cases_lt place next) [
      | inl lt ↦ inl (turn_there first next place ge lt)
      | inr past ↦ inr (inl (ge, h.1, past))
    ]
  ]
]

turn_front : (places place : ℕ) → place < places → (nexts : List ℕ) (first : ℕ) → first ≤ place → AreNexts places first nexts → place < first + 64 * length nexts → IsTurnInOne first nexts place
turn_front places place there [] first ge all far = absurd (let no : ⊥ = omega (arith, ge, far) in no)
turn_front places place there (next ∷ more) first ge all far = elim (turn_or_nearer places first next place all.0.0 there all.0.1) [
  | inl turn ↦ inl turn
  | inr (inl h) ↦ let a = h.1 in let l : length (next ∷ more) ≡ suc (length more) = refl in
      inr (turn_front places place there more next h.2 all.1 (omega (arith, far, a, l)))
  | inr (inr h) ↦ absurd (let lt = h.0 in let no : ⊥ = omega (arith, ge, lt) in no)
]

turn_back : (places place : ℕ) → place < places → (nexts : List ℕ) (first : ℕ) → place < first → first ≤ places → AreNexts places first nexts → place + 64 + places < first + 64 * length nexts
    → IsTurnInOne first nexts place
turn_back places place there [] first lt within all far = absurd (let no : ⊥ = omega (arith, within, far, there) in no)
turn_back places place there (next ∷ more) first lt within all far =
    let l : length (next ∷ more) ≡ suc (length more) = refl in
    elim (turn_or_nearer places first next place all.0.0 there all.0.1) [
      | inl turn ↦ inl turn
      | inr (inl h) ↦ absurd (let ge = h.0 in let no : ⊥ = omega (arith, ge, lt) in no)
      | inr (inr (past, inl e)) ↦ inr (turn_front places place there more next (omega (arith, e)) all.1 (omega (arith, e, far, within, l)))
      | inr (inr (past, inr h)) ↦ let a = h.0 in inr (turn_back places place there more next (omega (arith, past, a)) h.1 all.1 (omega (arith, a, far, l)))
    ]

pub turn_comes : (places place : ℕ) → place < places → (nexts : List ℕ) (first : ℕ) → first ≤ places → AreNexts places first nexts → places + most_sent ≤ most_sent * length nexts → IsTurnInOne first nexts place
turn_comes places place there nexts first within all many =
    let m : places + 64 ≤ 64 * length nexts = many in
    elim (cases_lt place first) [
      | inl lt ↦ turn_back places place there nexts first lt within all (omega (arith, m, lt))
      | inr ge ↦ turn_front places place there nexts first ge all (omega (arith, m, there))
    ]
