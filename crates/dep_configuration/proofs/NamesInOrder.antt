-- Names that are in order, one more at a time.
use Rattle.std.proofs.Common.{◌≡◌, ◌≢◌, ◌∙◌, ℕ, zero, suc, ◌+◌, ◌<◌, ◌≤◌, ◌||◌, Bool, true, false, true≢false, List, [], ◌∷◌, ◌++◌, length, get_or, take, drop, refl, sym, ap, subst, arith, bytes_eq, Contains, IsTrue}
use Rattle.std.specs.Borrow.{Bor}
use Rattle.std.proofs.lemmas.List.{take-append-drop, drop_more, take_more, take_all, get_or_default}
use Rattle.std.proofs.lemmas.List.Elements.{All-nil, All-push, Contains-append_right}
use Rattle.std.proofs.lemmas.List.Quantifiers.{all_pairs_push}
use Rattle.std.proofs.lemmas.Slice.Eq.{bytes_eq-Decides}
use Rattle.std.specs.List.{list_any}
use Rattle.json.specs.Strict.{keys}
use Rattle.json.specs.Value.{members_view}
use Rattle.json.specs.declared.value.Value.{Value}
use Rattle.dep_configuration.specs.Names.{is_field_name, AreFieldNames, StandsBehind}

pub none-named : AreFieldNames []
none-named = record {
  known = All-nil (λ name. IsTrue (is_field_name name));
  once = λ i j d below within. absurd (omega arith);
}

pub one-more : (names : List (List ℕ)) (i : ℕ) (name : List ℕ) → i < length names → get_or names i name ≡ name → AreFieldNames (take i names) → is_field_name name ≡ true → ¬ Contains (take i names) name → AreFieldNames (take (i + 1) names)
one-more names i name within at was known new =
    let grown : take (i + 1) names ≡ take i names ++ name ∷ [] = take_more names i name within ∙ ap (λ n. take i names ++ n ∷ []) at in
    subst AreFieldNames (sym grown) (record {
      known = All-push (λ n. IsTrue (is_field_name n)) (take i names) name was.known known;
      once = all_pairs_push (λ a b. a ≢ b) (take i names) name was.once (λ k d below same. new (k, below, get_or_default (take i names) k name d below ∙ same));
    })

pub stands-behind : (names : List (List ℕ)) (i : ℕ) (name : List ℕ) → i < length names → get_or names i name ≡ name → AreFieldNames (take i names) → StandsBehind (take i names) name names
stands-behind names i name within at was = record {
  behind = drop (i + 1) names;
  stands = sym (take-append-drop i names) ∙ ap (λ l. take i names ++ l) (drop_more names i name within ∙ ap (λ n. n ∷ drop (i + 1) names) at);
  before = was;
}

-- the names of the first members are the first names
pub keys-taken : {A : Type 0} (i : ℕ) (ms : List (Bor (List ℕ) × Value A)) → take i (keys (members_view ms)) ≡ keys (members_view (take i ms))
keys-taken zero ms = refl
keys-taken (suc i) [] = refl
keys-taken (suc i) (m ∷ ms) = ap (λ ks. m.0.now ∷ ks) (keys-taken i ms)

pub contains-name : {A : Type 0} (ms : List (Bor (List ℕ) × Value A)) (name : List ℕ) → list_any (λ m. bytes_eq m.0.now name) ms ≡ true → Contains (keys (members_view ms)) name
contains-name [] name h = absurd (true≢false (sym h))
contains-name (m ∷ ms) name h = by (bytes_eq m.0.now name) refl (contains-name ms name) h
  where
    by : (b : Bool) → bytes_eq m.0.now name ≡ b → (list_any (λ m. bytes_eq m.0.now name) ms ≡ true → Contains (keys (members_view ms)) name) → (b || list_any (λ m. bytes_eq m.0.now name) ms) ≡ true → Contains (m.0.now ∷ keys (members_view ms)) name
    by true e later h = (0, omega arith, (bytes_eq-Decides m.0.now name).0 e)
    by false e later h = Contains-append_right (m.0.now ∷ []) (keys (members_view ms)) name (later h)

both-false : (a b : Bool) → (a || b) ≡ false → (a ≡ false) × (b ≡ false)
both-false true b h = absurd (true≢false h)
both-false false b h = (refl, h)

pub lacks-name : {A : Type 0} (ms : List (Bor (List ℕ) × Value A)) (name : List ℕ) → list_any (λ m. bytes_eq m.0.now name) ms ≡ false → (k : ℕ) → k < length (keys (members_view ms)) → get_or (keys (members_view ms)) k name ≡ name → ⊥
lacks-name [] name h k within e = omega (arith, within)
lacks-name (m ∷ ms) name h zero within e = true≢false (sym ((bytes_eq-Decides m.0.now name).1 e) ∙ (both-false (bytes_eq m.0.now name) (list_any (λ m. bytes_eq m.0.now name) ms) h).0)
lacks-name (m ∷ ms) name h (suc k) within e = lacks-name ms name (both-false (bytes_eq m.0.now name) (list_any (λ m. bytes_eq m.0.now name) ms) h).1 k (omega (arith, within)) e

-- a member's name is the name at its place
pub name-at : {A : Type 0} (ms : List (Bor (List ℕ) × Value A)) (i : ℕ) (m : Bor (List ℕ) × Value A) → i < length ms → get_or ms i m ≡ m → (i < length (keys (members_view ms))) × (get_or (keys (members_view ms)) i m.0.now ≡ m.0.now)
name-at [] i m within e = absurd (omega (arith, within))
name-at (n ∷ ms) zero m within e = (omega arith, ap (λ n. n.0.now) e)
name-at (n ∷ ms) (suc i) m within e =
    let r = name-at ms i m (omega (arith, within)) e in
    (omega (arith, r.0), r.1)

pub unknown-first : (names : List (List ℕ)) (i : ℕ) (name reported : List ℕ) → reported ≡ name → i < length names → get_or names i name ≡ name → AreFieldNames (take i names) → is_field_name name ≡ false → ((front : List (List ℕ)) × StandsBehind front reported names) × (is_field_name reported ≡ false)
unknown-first names i name reported same within at was alien =
    subst (λ t. ((front : List (List ℕ)) × StandsBehind front t names) × (is_field_name t ≡ false)) (sym same)
    ((take i names, stands-behind names i name within at was), alien)

pub repeated-first : (names : List (List ℕ)) (i : ℕ) (name reported : List ℕ) → reported ≡ name → i < length names → get_or names i name ≡ name → AreFieldNames (take i names) → Contains (take i names) name → (front : List (List ℕ)) × StandsBehind front reported names × Contains front reported
repeated-first names i name reported same within at was again =
    subst (λ t. (front : List (List ℕ)) × StandsBehind front t names × Contains front t) (sym same)
    (take i names, stands-behind names i name within at was, again)

pub all-named : {A : Type 0} (i : ℕ) (ms : List (Bor (List ℕ) × Value A)) → length ms ≤ i → AreFieldNames (take i (keys (members_view ms))) → AreFieldNames (keys (members_view ms))
all-named i ms past named = subst AreFieldNames (keys-taken i ms ∙ ap (λ l. keys (members_view l)) (take_all i ms past)) named
