-- Lists of connections.
use Rattle.std.proofs.Common.{◌≡◌, ℕ, suc, zero, ◌+◌, ◌<◌, ◌≤◌, ◌==◌, Bool, true, false, List, [], ◌∷◌, ◌++◌, get_or, set, take, length, Option, Some, None, if◌then◌else◌, refl, sym, ap, subst, ◌∙◌, arith}
use Rattle.std.specs.List.{remove}
use Rattle.std.specs.Option.{option_map}
use Rattle.std.specs.Prelude.{IsSome}
use Rattle.std.proofs.lemmas.Bool.{eq-eqb}
use Rattle.std.proofs.lemmas.Bool.Decides.{nat_tests}
use Rattle.dep_hub.specs.Numbers.{place_of_number, Ascends}
use Rattle.dep_hub.specs.Representing.{intake_of}
use Rattle.dep_hub.specs.declared.connections.Connection.{Connection}

some_not_none : (o : Option ℕ) → option_map suc o ≡ None → o ≡ None
some_not_none None e = refl
some_not_none (Some j) e = cc

-- the first of the connections with the number
found_next : (i : ℕ) (b : Bool) (o p : Option ℕ) → (if b then Some 0 else option_map suc o) ≡ None → (o ≡ None → p ≡ Some i)
    → (if b then Some 0 else option_map suc p) ≡ Some (suc i)
found_next i true o p e k = cc
found_next i false o p e k = ap (option_map suc) (k (some_not_none o e))

pub found_at : (n i : ℕ) (cs : List Connection) (c : Connection) → i < length cs → get_or cs i c ≡ c → place_of_number n (take i cs) ≡ None → c.number ≡ n → place_of_number n cs ≡ Some i
found_at n i [] c l at none e = absurd (omega (arith, l))
found_at n zero (d ∷ cs) c l at none e =
    ap (λ b. if b then Some 0 else option_map suc (place_of_number n cs)) (eq-eqb d.number n (ap (λ (x : Connection). x.number) at ∙ e))
found_at n (suc i) (d ∷ cs) c l at none e =
    found_next i (d.number == n) (place_of_number n (take i cs)) (place_of_number n cs) none (λ before. found_at n i cs c (omega (arith, l)) at before e)

-- none of those so far has it
none_next : (b : Bool) (o p : Option ℕ) → (if b then Some 0 else option_map suc o) ≡ None → (o ≡ None → p ≡ None)
    → (if b then Some 0 else option_map suc p) ≡ None
none_next true o p e k = cc
none_next false o p e k = ap (option_map suc) (k (some_not_none o e))

none_then : (n i : ℕ) (cs : List Connection) (c : Connection) → i < length cs → get_or cs i c ≡ c → place_of_number n (take i cs) ≡ None → (c.number == n) ≡ false
    → place_of_number n (take (suc i) cs) ≡ None
none_then n i [] c l at none e = absurd (omega (arith, l))
none_then n zero (d ∷ cs) c l at none e =
    ap (λ b. if b then Some 0 else None) (ap (λ (x : Connection). x.number == n) at ∙ e)
none_then n (suc i) (d ∷ cs) c l at none e =
    none_next (d.number == n) (place_of_number n (take i cs)) (place_of_number n (take (suc i) cs)) none (λ before. none_then n i cs c (omega (arith, l)) at before e)

pub none_so_far : (n i : ℕ) (cs : List Connection) (c : Connection) → i < length cs → get_or cs i c ≡ c → place_of_number n (take i cs) ≡ None → (c.number ≡ n → ⊥)
    → place_of_number n (take (i + 1) cs) ≡ None
none_so_far n i cs c l at none other =
    let more : suc i ≡ i + 1 = omega arith in
    let differs : (c.number == n) ≡ false = grind (arith, nat_tests, other) in
    subst (λ (k : ℕ). place_of_number n (take k cs) ≡ None) more (none_then n i cs c l at none differs)

none_at : (n : ℕ) (c : Connection) (cs : List Connection) (b : Bool) → b ≡ (c.number == n)
    → (if b then Some 0 else option_map suc (place_of_number n cs)) ≡ None → (place_of_number n cs ≡ None → intake_of cs n ≡ None)
    → (if b then Some c.intake else intake_of cs n) ≡ None
none_at n c cs true e i k = cc
none_at n c cs false e i k = k (some_not_none (place_of_number n cs) i)

-- who is not there has no index, and the other way round
pub index_none : (n : ℕ) (cs : List Connection) → place_of_number n cs ≡ None → intake_of cs n ≡ None
index_none n [] e = refl
index_none n (c ∷ cs) e = none_at n c cs (c.number == n) refl e (index_none n cs)

pub ascends_le : (low high : ℕ) (cs : List Connection) → Ascends low cs high → low ≤ high
ascends_le low high [] a = a
ascends_le low high (c ∷ cs) a = omega (arith, a.0, ascends_le (c.number + 1) high cs a.1)

some_suc : (o : Option ℕ) (i : ℕ) → option_map suc o ≡ Some (suc i) → o ≡ Some i
some_suc None i e = cc
some_suc (Some j) i e = cc

some_suc_zero : (o : Option ℕ) → option_map suc o ≡ Some zero → ⊥
some_suc_zero None e = cc
some_suc_zero (Some j) e = cc

-- the connection at the index
some_at : (n i : ℕ) (d : Connection) (cs : List Connection) (c : Connection) (b : Bool) → b ≡ (d.number == n)
    → (if b then Some 0 else option_map suc (place_of_number n cs)) ≡ Some i → c ≡ get_or (d ∷ cs) i c
    → ((j : ℕ) → place_of_number n cs ≡ Some j → c ≡ get_or cs j c → (c.number ≡ n) × (intake_of cs n ≡ Some c.intake))
    → (c.number ≡ n) × ((if b then Some d.intake else intake_of cs n) ≡ Some c.intake)
some_at n zero d cs c true e i f k = (grind (arith, nat_tests), ap (λ (x : Connection). Some x.intake) (sym f))
some_at n (suc i) d cs c true e i' f k = cc
some_at n zero d cs c false e i' f k = absurd (some_suc_zero (place_of_number n cs) i')
some_at n (suc i) d cs c false e i' f k = k i (some_suc (place_of_number n cs) i i') f

pub index_some : (n i : ℕ) (cs : List Connection) (c : Connection) → place_of_number n cs ≡ Some i → c ≡ get_or cs i c
    → (c.number ≡ n) × (intake_of cs n ≡ Some c.intake)
index_some n i [] c e f = cc
index_some n i (d ∷ cs) c e f = some_at n i d cs c (d.number == n) refl e f (λ j. index_some n j cs c)

-- a connection is added
pub intake_push : (low : ℕ) (cs : List Connection) (d : Connection) → Ascends low cs d.number
    → (m : ℕ) → intake_of (cs ++ d ∷ []) m ≡ (if m == d.number then Some d.intake else intake_of cs m)
intake_push low [] d a m = grind (arith, nat_tests)
intake_push low (c ∷ cs) d a m =
    let below : c.number + 1 ≤ d.number = ascends_le (c.number + 1) d.number cs a.1 in
    grind (arith, nat_tests, intake_push (c.number + 1) cs d a.1 m)

pub ascends_push : (low : ℕ) (cs : List Connection) (d : Connection) → Ascends low cs d.number → Ascends low (cs ++ d ∷ []) (d.number + 1)
ascends_push low [] d a = (a, omega arith)
ascends_push low (c ∷ cs) d a = (a.0, ascends_push (c.number + 1) cs d a.1)

pub pushed_there : (cs : List Connection) (d : Connection) → Ascends 0 cs d.number → IsSome (intake_of (cs ++ d ∷ []) d.number)
pushed_there cs d a =
    let some : intake_of (cs ++ d ∷ []) d.number ≡ Some d.intake = intake_push 0 cs d a d.number ∙ ap (λ b. if b then Some d.intake else intake_of cs d.number) (eq-eqb d.number d.number refl) in
    subst (λ o. IsSome o) (sym some) refl

-- a connection is changed where it stands
set_at : (n i : ℕ) (c : Connection) (cs : List Connection) (d : Connection) (b : Bool) → b ≡ (c.number == n)
    → (if b then Some 0 else option_map suc (place_of_number n cs)) ≡ Some i → d.number ≡ n → (m : ℕ)
    → ((j : ℕ) → place_of_number n cs ≡ Some j → intake_of (set cs j d) m ≡ (if m == n then Some d.intake else intake_of cs m))
    → intake_of (set (c ∷ cs) i d) m ≡ (if m == n then Some d.intake else intake_of (c ∷ cs) m)
set_at n zero c cs d true e i f m k = grind (arith, nat_tests)
set_at n (suc i) c cs d true e i' f m k = cc
set_at n zero c cs d false e i' f m k = absurd (some_suc_zero (place_of_number n cs) i')
set_at n (suc i) c cs d false e i' f m k = let h = k i (some_suc (place_of_number n cs) i i') in grind (arith, nat_tests, h)

pub intake_set : (n i : ℕ) (cs : List Connection) (d : Connection) → place_of_number n cs ≡ Some i → d.number ≡ n
    → (m : ℕ) → intake_of (set cs i d) m ≡ (if m == n then Some d.intake else intake_of cs m)
intake_set n i [] d e f m = cc
intake_set n i (c ∷ cs) d e f m = set_at n i c cs d (c.number == n) refl e f m (λ j h. intake_set n j cs d h f m)

pub ascends_set : (low high i : ℕ) (cs : List Connection) (c d : Connection) → c ≡ get_or cs i c → d.number ≡ c.number → Ascends low cs high → Ascends low (set cs i d) high
ascends_set low high i [] c d f e a = a
ascends_set low high zero (x ∷ cs) c d f e a = let same : d.number ≡ x.number = e ∙ ap (λ (y : Connection). y.number) f in (rw same a.0, subst (λ (k : ℕ). Ascends (k + 1) cs high) (sym same) a.1)
ascends_set low high (suc i) (x ∷ cs) c d f e a = (a.0, ascends_set (x.number + 1) high i cs c d f e a.1)

-- a number below all of them is not there
pub absent_below : (low high n : ℕ) (cs : List Connection) → Ascends low cs high → n < low → intake_of cs n ≡ None
absent_below low high n [] a l = refl
absent_below low high n (c ∷ cs) a l =
    let more : n < c.number + 1 = omega (arith, a.0) in
    let lo : low ≤ c.number = a.0 in
    let h = absent_below (c.number + 1) high n cs a.1 more in grind (arith, nat_tests, h)

-- nor is one that is not below the end
pub absent_above : (low high n : ℕ) (cs : List Connection) → Ascends low cs high → high ≤ n → intake_of cs n ≡ None
absent_above low high n [] a l = refl
absent_above low high n (c ∷ cs) a l =
    let below : c.number + 1 ≤ high = ascends_le (c.number + 1) high cs a.1 in
    let h = absent_above (c.number + 1) high n cs a.1 l in grind (arith, nat_tests, h)

-- a connection is removed
remove_at : (n low high i : ℕ) (c : Connection) (cs : List Connection) (b : Bool) → b ≡ (c.number == n)
    → (if b then Some 0 else option_map suc (place_of_number n cs)) ≡ Some i → Ascends low (c ∷ cs) high → (m : ℕ)
    → ((j : ℕ) → place_of_number n cs ≡ Some j → intake_of (remove cs j) m ≡ (if m == n then None else intake_of cs m))
    → intake_of (remove (c ∷ cs) i) m ≡ (if m == n then None else intake_of (c ∷ cs) m)
remove_at n low high zero c cs true e i a m k =
    let h = absent_below (c.number + 1) high n cs a.1 in grind (arith, nat_tests, h)
remove_at n low high (suc i) c cs true e i' a m k = cc
remove_at n low high zero c cs false e i' a m k = absurd (some_suc_zero (place_of_number n cs) i')
remove_at n low high (suc i) c cs false e i' a m k = let h = k i (some_suc (place_of_number n cs) i i') in grind (arith, nat_tests, h)

pub intake_remove : (n low high i : ℕ) (cs : List Connection) → place_of_number n cs ≡ Some i → Ascends low cs high
    → (m : ℕ) → intake_of (remove cs i) m ≡ (if m == n then None else intake_of cs m)
intake_remove n low high i [] e a m = cc
intake_remove n low high i (c ∷ cs) e a m = remove_at n low high i c cs (c.number == n) refl e a m (λ j h. intake_remove n (c.number + 1) high j cs h a.1 m)

ascends_weaker : (low lower high : ℕ) (cs : List Connection) → lower ≤ low → Ascends low cs high → Ascends lower cs high
ascends_weaker low lower high [] l a = omega (arith, a)
ascends_weaker low lower high (c ∷ cs) l a = (omega (arith, a.0), a.1)

pub ascends_remove : (low high i : ℕ) (cs : List Connection) → i < length cs → Ascends low cs high → Ascends low (remove cs i) high
ascends_remove low high i [] l a = absurd (omega arith)
ascends_remove low high zero (c ∷ cs) l a = ascends_weaker (c.number + 1) low high cs (omega (arith, a.0)) a.1
ascends_remove low high (suc i) (c ∷ cs) l a = (a.0, ascends_remove (c.number + 1) high i cs (omega arith) a.1)
