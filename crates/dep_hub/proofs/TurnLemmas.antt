-- Of the connections whose next request is prepared, the one whose turn it is.
use Rattle.std.proofs.Common.{◌≡◌, ◌≢◌, ◌⊎◌, inl, inr, ℕ, zero, suc, ◌==◌, ◌+◌, ◌≤◌, ◌<◌, ◌&&◌, nat_lt, Bool, true, false, List, [], ◌∷◌, length, get_or, Option, None, Some, is_some, if◌then◌else◌, refl, sym, ap, subst, ◌∙◌, arith}
use Rattle.std.specs.Prelude.{MatchOption}
use Rattle.std.proofs.lemmas.Bool.{cases_lt, cases_Bool}
use Rattle.std.proofs.lemmas.Bool.Decides.{nat_tests}
use Rattle.dep_message.specs.Places.{Reading}
use Rattle.dep_hub.specs.Preparing.{HasTurn, HaveAtMost, is_preparing, prepared_below}
use Rattle.dep_hub.specs.Representing.{intake_of}
use Rattle.dep_hub.specs.RepresentsOwing.{behind_at}
use Rattle.dep_hub.specs.WorkingAhead.{IsNoneBetween, IsTurnOf, goes_down, begins_anew, is_turn_before, turns_below, ComesNearer, fewer, anew}
use Rattle.dep_hub.proofs.PendingLemmas.{true_false}
use Rattle.dep_hub.specs.declared.connections.Connection.{Connection}
use Rattle.dep_hub.specs.declared.hub.Hub.{Hub}

-- none of the first so many has a greater number
abbrev pub NeedAtMost : List Connection → (below count most : ℕ) → Type 0
NeedAtMost cs below count most = (j : ℕ) (c : Connection) → j < count → c ≡ get_or cs j c → prepared_below below c ≤ most

-- this one has that, and is prepared
abbrev pub Needs : List Connection → (below most i : ℕ) → Type 0
Needs cs below most i = (i < length cs) × ((c : Connection) → c ≡ get_or cs i c → prepared_below below c ≡ most) × (0 < most)

-- what was found of the same connections
pub turn_there : (cs ds : List Connection) (last next : ℕ) (o : Option ℕ) (i : ℕ) → cs ≡ ds → o ≡ Some i → MatchOption o (HaveAtMost cs next 0) (HasTurn cs last next) → HasTurn ds last next i
turn_there cs ds last next o i same is found = subst (λ (l : List Connection). HasTurn l last next i) same (subst (λ (x : Option ℕ). MatchOption x (HaveAtMost cs next 0) (HasTurn cs last next)) is found)

pub none_there : (cs ds : List Connection) (last next : ℕ) (o : Option ℕ) → cs ≡ ds → o ≡ None → MatchOption o (HaveAtMost cs next 0) (HasTurn cs last next) → HaveAtMost ds next 0
none_there cs ds last next o same is found = subst (λ (l : List Connection). HaveAtMost l next 0) same (subst (λ (x : Option ℕ). MatchOption x (HaveAtMost cs next 0) (HasTurn cs last next)) is found)

-- ---- by their numbers

-- where one is prepared and below the number, that is known of it
positive : (b t : Bool) (n : ℕ) → 0 < (if b then if t then n + 1 else 0 else 0) → (b ≡ true) × ((t ≡ true) × ((if b then if t then n + 1 else 0 else 0) ≡ n + 1))
positive true true n l = (refl, (refl, refl))
positive true false n l = absurd (omega (arith, l))
positive false t n l = absurd (omega (arith, l))

is_below : (below : ℕ) (c : Connection) → 0 < prepared_below below c → (is_preparing c.behind ≡ true) × ((c.number < below) × (prepared_below below c ≡ c.number + 1))
is_below below c l =
    let p = positive (is_preparing c.behind) (nat_lt c.number below) c.number l in
    let test : nat_lt c.number below ≡ true = p.1.0 in
    (p.0, (grind (arith, nat_tests, test), p.1.1))

-- who is prepared and below the number has at most the greatest
counted : (below most : ℕ) (c : Connection) → prepared_below below c ≤ most → is_preparing c.behind ≡ true → c.number < below → c.number + 1 ≤ most
counted below most c l p b =
    let test : nat_lt c.number below ≡ true = grind (arith, nat_tests, b) in
    subst (λ (n : ℕ). n ≤ most)
    (ap (λ (x : Bool). if x then if nat_lt c.number below then c.number + 1 else 0 else 0) p ∙ ap (λ (x : Bool). if x then c.number + 1 else 0) test) l

pub have_by_number : (cs : List Connection) (below most : ℕ) → HaveAtMost cs below most → (m : ℕ) → is_preparing (behind_at cs m) ≡ true → m < below → m + 1 ≤ most
have_by_number [] below most have m p b = cc p
have_by_number (c ∷ cs) below most have m p b = elim (cases_Bool (c.number == m)) [
  | inl here ↦
      let same : c.number ≡ m = grind (arith, nat_tests, here) in
      let is : is_preparing c.behind ≡ true = sym (ap (λ (t : Bool). is_preparing (if t then c.behind else behind_at cs m)) here) ∙ p in
      subst (λ (n : ℕ). n + 1 ≤ most) same
      (counted below most c (have 0 c (omega arith) refl) is (subst (λ (n : ℕ). n < below) (sym same) b))
  | inr other ↦
      have_by_number cs below most (λ j d l e. have (suc j) d (omega (arith, l)) e) m
      (sym (ap (λ (t : Bool). is_preparing (if t then c.behind else behind_at cs m)) other) ∙ p) b
]

pub none_prepared : (cs : List Connection) (next : ℕ) → HaveAtMost cs next 0 → ((m : ℕ) → is_preparing (behind_at cs m) ≡ true → m < next) → (m : ℕ) → is_preparing (behind_at cs m) ≡ false
none_prepared cs next have low m = elim (cases_Bool (is_preparing (behind_at cs m))) [
  | inl p ↦ let l = have_by_number cs next 0 have m p (low m p) in absurd (omega (arith, l))
  | inr e ↦ e
]

-- whose turn it is, by the numbers
none_between : (cs : List Connection) (below : ℕ) (c : Connection) → HaveAtMost cs below (prepared_below below c) → prepared_below below c ≡ c.number + 1 → IsNoneBetween cs c.number below
none_between cs below c have is m p b =
    let l = subst (λ (n : ℕ). m + 1 ≤ n) is (have_by_number cs below (prepared_below below c) have m p b) in
    omega (arith, l)

pub turn_of : (cs : List Connection) (last next i : ℕ) (c : Connection) → c ≡ get_or cs i c → HasTurn cs last next i → IsTurnOf cs last next c.number
turn_of cs last next i c item (inl g) =
    let at = is_below last c (g.1 c item).0 in
    goes_down at.1.0 (none_between cs last c (g.1 c item).1 at.1.1)
turn_of cs last next i c item (inr h) =
    let g = h.1 in
    let at = is_below next c (g.1 c item).0 in
    begins_anew (λ m p. elim (cases_lt m last) [
      | inl lt ↦ let l = have_by_number cs last 0 h.0 m p lt in absurd (omega (arith, l))
      | inr ge ↦ ge
    ]) (none_between cs next c (g.1 c item).1 at.1.1)

-- what stands at an index is one connection
pub one_at : (cs : List Connection) (i : ℕ) (c d : Connection) → i < length cs → c ≡ get_or cs i c → d ≡ get_or cs i d → c ≡ d
one_at [] i c d l e f = absurd (omega (arith, l))
one_at (x ∷ cs) zero c d l e f = e ∙ sym f
one_at (x ∷ cs) (suc i) c d l e f = one_at cs i c d (omega (arith, l)) e f

pub was_prepared : (cs : List Connection) (last next i : ℕ) (c : Connection) → c ≡ get_or cs i c → HasTurn cs last next i → (i < length cs) × (is_preparing c.behind ≡ true)
was_prepared cs last next i c item (inl g) = (g.0, (is_below last c (g.1 c item).0).0)
was_prepared cs last next i c item (inr h) = (h.1.0, (is_below next c (h.1.1 c item).0).0)

-- ---- how many turns come before

abbrev count : (ℕ → Bool) → ℕ → ℕ
count f zero = 0
count f (suc n) = count f n + (if f n then 1 else 0)

one_at_most : (a b : Bool) → (a ≡ true → b ≡ true) → (if a then 1 else 0) ≤ (if b then 1 else 0)
one_at_most true true h = omega arith
one_at_most true false h = absurd (true_false (sym (h refl)))
one_at_most false true h = omega arith
one_at_most false false h = omega arith

count_most : (f g : ℕ → Bool) (k : ℕ) → ((m : ℕ) → f m ≡ true → g m ≡ true) → count f k ≤ count g k
count_most f g zero h = omega arith
count_most f g (suc n) h =
    let front = count_most f g n h in
    let last = one_at_most (f n) (g n) (h n) in
    omega (arith, front, last)

one_less : (a b : Bool) → a ≡ false → b ≡ true → (if a then 1 else 0) < (if b then 1 else 0)
one_less false true out within = omega arith
one_less true b out within = cc out
one_less false false out within = cc within

count_less : (f g : ℕ → Bool) (k a : ℕ) → a < k → f a ≡ false → g a ≡ true → ((m : ℕ) → f m ≡ true → g m ≡ true) → count f k < count g k
count_less f g zero a l out within h = absurd (omega (arith, l))
count_less f g (suc n) a l out within h = elim (cases_lt a n) [
  | inl lt ↦
      let front = count_less f g n a lt out within h in
      let last = one_at_most (f n) (g n) (h n) in
      omega (arith, front, last)
  | inr ge ↦
      let same : a ≡ n = omega (arith, l, ge) in
      let front = count_most f g n h in
      let last = one_less (f n) (g n) (subst (λ (j : ℕ). f j ≡ false) same out) (subst (λ (j : ℕ). g j ≡ true) same within) in
      omega (arith, front, last)
]

-- a connection of this number is there, and has its turn before another
abbrev comes_before : {A : Type 0} → Hub A → (number m : ℕ) → Bool
comes_before hub number m = is_some (intake_of hub.connections.items m) && is_turn_before hub.last_turn number m

turns_count : {A : Type 0} (hub : Hub A) (number k : ℕ) → turns_below hub number k ≡ count (comes_before hub number) k
turns_count hub number zero = refl
turns_count hub number (suc n) = ap (λ (x : ℕ). x + (if comes_before hub number n then 1 else 0)) (turns_count hub number n)

-- who is prepared is there
pub is_there : (cs : List Connection) (m : ℕ) → is_preparing (behind_at cs m) ≡ true → is_some (intake_of cs m) ≡ true
is_there [] m p = cc p
is_there (c ∷ cs) m p = elim (cases_Bool (c.number == m)) [
  | inl here ↦ rw here refl
  | inr other ↦ rw other (is_there cs m (sym (ap (λ (t : Bool). is_preparing (if t then c.behind else behind_at cs m)) other) ∙ p))
]

module _ (last n a : ℕ) where
  -- turns go on down from the last one's to this one's, which another's comes behind
  abbrev IsBehind : Type 0
  IsBehind = (a < last) × (n < last → n < a)

  before_still : IsBehind → (m : ℕ) → is_turn_before a n m ≡ true → is_turn_before last n m ≡ true
  before_still b m t = elim (cases_lt n last) [
    | inl lt ↦ let less = b.1 lt in let down = b.0 in grind (arith, nat_tests, lt, less, down, t)
    | inr ge ↦ let down = b.0 in grind (arith, nat_tests, ge, down, t)
  ]

  was_before : IsBehind → is_turn_before last n a ≡ true
  was_before b = elim (cases_lt n last) [
    | inl lt ↦ let less = b.1 lt in let down = b.0 in grind (arith, nat_tests, lt, less, down)
    | inr ge ↦ let down = b.0 in grind (arith, nat_tests, ge, down)
  ]

-- none has its turn before itself
no_more : (n a : ℕ) → is_turn_before a n a ≡ false
no_more n a = grind (arith, nat_tests)

-- who is prepared, and whose turn it isn't, comes behind the turn of the one whose it is, or turns go down to it from now on
is_behind : (cs : List Connection) (last next a n : ℕ) → IsTurnOf cs last next a → is_preparing (behind_at cs n) ≡ true → n < next → n ≢ a
    → IsBehind last n a ⊎ ((last ≤ n) × (n < a))
is_behind cs last next a n (goes_down less none) p below other = inl (less, (λ lt. let l = none n p lt in omega (arith, l, other)))
is_behind cs last next a n (begins_anew above none) p below other = inr (above n p, (let l = none n p below in omega (arith, l, other)))

both : (x y : Bool) → (x && y) ≡ true → (x ≡ true) × (y ≡ true)
both true true e = (refl, refl)
both true false e = cc e
both false y e = cc e

-- where turns go on down to another's, fewer come before
turns_fewer : {A : Type 0} (old new : Hub A) (a n : ℕ) → new.next ≡ old.next → ((m : ℕ) → intake_of new.connections.items m ≡ intake_of old.connections.items m)
    → new.last_turn ≡ a → is_preparing (behind_at old.connections.items a) ≡ true → a < old.next → IsBehind old.last_turn n a
    → turns_below new n new.next < turns_below old n old.next
turns_fewer old new a n next intakes last was within behind =
    let there : is_some (intake_of old.connections.items a) ≡ true = is_there old.connections.items a was in
    let still : (m : ℕ) → comes_before new n m ≡ true → comes_before old n m ≡ true = λ m t.
    let x = both (is_some (intake_of new.connections.items m)) (is_turn_before new.last_turn n m) t in
    let y : is_turn_before old.last_turn n m ≡ true = before_still old.last_turn n a behind m (sym (ap (λ (k : ℕ). is_turn_before k n m) last) ∙ x.1) in
    let z : is_some (intake_of old.connections.items m) ≡ true = sym (ap (λ (o : Option Reading). is_some o) (intakes m)) ∙ x.0 in
    ap (λ (t : Bool). t && is_turn_before old.last_turn n m) z ∙ y in
    let here : comes_before old n a ≡ true = ap (λ (t : Bool). t && is_turn_before old.last_turn n a) there ∙ was_before old.last_turn n a behind in
    let gone : comes_before new n a ≡ false =
    ap (λ (k : ℕ). is_some (intake_of new.connections.items a) && is_turn_before k n a) last
    ∙ ap (λ (t : Bool). t && is_turn_before a n a) (ap (λ (o : Option Reading). is_some o) (intakes a) ∙ there)
    ∙ no_more n a in
    let less = count_less (comes_before new n) (comes_before old n) old.next a within gone here still in
    subst (λ (k : ℕ). turns_below new n k < turns_below old n old.next) (sym next)
    (subst (λ (k : ℕ). k < turns_below old n old.next) (sym (turns_count new n old.next))
    (subst (λ (k : ℕ). count (comes_before new n) old.next < k) (sym (turns_count old n old.next)) less))

pub comes_nearer : {A : Type 0} (old new : Hub A) (a n : ℕ) → new.next ≡ old.next → ((m : ℕ) → intake_of new.connections.items m ≡ intake_of old.connections.items m)
    → IsTurnOf old.connections.items old.last_turn old.next a → new.last_turn ≡ a → is_preparing (behind_at old.connections.items a) ≡ true → a < old.next
    → is_preparing (behind_at old.connections.items n) ≡ true → n < old.next → n ≢ a → ComesNearer old new n
comes_nearer old new a n next intakes turn last was within p below other = elim (is_behind old.connections.items old.last_turn old.next a n turn p below other) [
  | inl behind ↦ fewer (turns_fewer old new a n next intakes last was within behind) (λ lt. subst (λ (k : ℕ). n < k) (sym last) (behind.1 lt))
  | inr up ↦ anew up.0 (subst (λ (k : ℕ). n < k) (sym last) up.1)
]
