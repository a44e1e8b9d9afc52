-- The numbers of the segments of a sound state's upload rise.
use Rattle.std.proofs.Common.{◌≡◌, ℕ, ◌≤◌, ◌==◌, Bool, true, false, cond, ◌&&◌, nat_lt, List, [], ◌∷◌, map as each, Some, refl, sym, subst, All, T, nat_cmp}
use Rattle.std.specs.Ordering.{is_lt}
use Rattle.std.specs.declared.cmp.Ordering.TheVariants.{Less, Equal, Greater}
use Rattle.std.specs.Cmp.{nat_cmp_total}
use Rattle.std.specs.FinMap as finmap
use Rattle.std.specs.FinMap.Entries.{below_all, is_sorted}
use Rattle.std.proofs.lemmas.Bool.{lt-ltb}
use Rattle.std.proofs.lemmas.List.Elements.{All-head, All-tail, All-weaker}
use Rattle.dep_types.specs.State.{State, Upload}
use Rattle.dep_types.specs.Sound.{IsSound}
use Rattle.dep_bag.proofs.Keys.{entries-held}
use Rattle.dep_docs_out.specs.Segments.{are_segments, rises_above}

both-true : (a b : Bool) → a ≡ true → b ≡ true → (a && b) ≡ true
both-true true b p q = q
both-true false b p q = p

first : (a b : Bool) → T (a && b) → T a
first true b p = tt
first false b p = p

second : (a b : Bool) → T (a && b) → T b
second true b p = p
second false b p = absurd p

both : (a b : Bool) → T a → T b → T (a && b)
both true b p q = q
both false b p q = p

less_by : (b c : Bool) → T (is_lt (cond b Less (cond c Equal Greater))) → b ≡ true
less_by true c h = refl
less_by false true h = absurd h
less_by false false h = absurd h

keys_rise : {X : Type 0} (b : ℕ) (es : List (ℕ × X)) → T (below_all nat_cmp b es) → T (is_sorted nat_cmp es)
    → rises_above b (each (λ e. e.0) es) ≡ true
unfolding rises_above
keys_rise b [] below sorted = refl
keys_rise b (e ∷ es) below sorted =
    both-true (nat_lt b e.0) (rises_above e.0 (each (λ e. e.0) es)) (less_by (nat_lt b e.0) (b == e.0) (first _ _ below))
    (keys_rise e.0 es (first _ _ sorted) (second _ _ sorted))

below_zero : {X : Type 0} (es : List (ℕ × X)) → All (λ e. 1 ≤ e.0) es → T (below_all nat_cmp 0 es)
below_zero [] h = tt
below_zero (e ∷ es) h =
    let least : 1 ≤ e.0 = All-head (λ e. 1 ≤ e.0) e es h in
    both _ _ (subst (λ (t : Bool). T (is_lt (cond t Less (cond (0 == e.0) Equal Greater)))) (sym (lt-ltb 0 e.0 least)) tt)
    (below_zero es (All-tail (λ e. 1 ≤ e.0) e es h))

-- the numbers of the segments that an upload of a sound state has
pub segments_rise : (s : State) → IsSound s → (u : ℕ) (it : Upload) → finmap.get s.uploads u ≡ Some it
    → are_segments (finmap.keys it.segments) ≡ true
segments_rise s sound u it there =
    let held = entries-held nat_cmp_total finmap.nat_cmp-IsAntisymmetric it.segments in
    let least = All-weaker (λ e. finmap.get it.segments e.0 ≡ Some e.1) (λ e. 1 ≤ e.0) (λ e is. ((sound.uploads u it there).segments e.0 e.1 is).0) (finmap.entries it.segments) held in
    keys_rise 0 (finmap.entries it.segments) (below_zero (finmap.entries it.segments) least) (finmap.entries_sorted it.segments)
