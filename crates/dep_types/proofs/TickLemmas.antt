-- What a tick does to uploads and to the numbers that timed out.
use Rattle.std.proofs.Common.{◌≡◌, ℕ, ◌≤◌, min, max, Bool, true, false, cond, not, ◌||◌, Option, Some, None, is_some, refl, sym, ap, ◌∙◌, nat_cmp, IsTrue, arith}
use Rattle.std.specs.Option.{option_map_or}
use Rattle.std.specs.Cmp.{nat_cmp_total}
use Rattle.std.specs.FinMap as map
use Rattle.std.specs.FinSet as set
use Rattle.dep_types.specs.Maps.{Numbered, Numbers}
use Rattle.dep_types.specs.Limits.{greatest_moment}
use Rattle.dep_types.specs.State.{State, Upload, tick, clock_at, expires, expired, unexpired, is_idle}
use Rattle.dep_types.specs.declared.config.Config.{Config}
use Rattle.dep_types.proofs.Kept.{get-kept}

gone : {X : Type 0} (idle : X → Bool) (o : Option X) → option_map_or idle (cond (not (option_map_or idle o false)) o None) false ≡ false
gone idle None = refl
gone idle (Some x) = elim (idle x) as (λ b. idle x ≡ b → option_map_or idle (cond (not b) (Some x) None) false ≡ false) [ true ↦ λ e. refl | false ↦ λ e. e ] refl

pub get-unexpired : (config : Config) (c : ℕ) (us : Numbered Upload) (q : ℕ) → map.get (unexpired config c us) q ≡ cond (not (expires config c us q)) (map.get us q) None
get-unexpired config c us q = get-kept us (λ u. not (expires config c us u)) q

-- among those that are left none expires at the same clock
none_expires : (config : Config) (c : ℕ) (us : Numbered Upload) (q : ℕ) → expires config c (unexpired config c us) q ≡ false
none_expires config c us q = ap (λ o. option_map_or (is_idle config c) o false) (get-unexpired config c us q) ∙ gone (is_idle config c) (map.get us q)

twice : (config : Config) (c : ℕ) (us : Numbered Upload) → unexpired config c (unexpired config c us) ≡ unexpired config c us
twice config c us = map.same_map nat_cmp_total map.nat_cmp-IsAntisymmetric _ _ (λ q.
    get-unexpired config c (unexpired config c us) q ∙ ap (λ b. cond (not b) (map.get (unexpired config c us) q) None) (none_expires config c us q))

pub contains-expired : (config : Config) (c : ℕ) (us : Numbered Upload) (q : ℕ)
    → set.contains (set.from_list {R = nat_cmp} (map.keys (expired config c us))) q ≡ is_some (cond (expires config c us q) (map.get us q) None)
contains-expired config c us q =
    set.contains-from_list nat_cmp_total (map.keys (expired config c us)) q
    ∙ sym (map.contains_key-keys (expired config c us) q)
    ∙ ap is_some (get-kept us (expires config c us) q)

or-nothing : (b : Bool) → (b || false) ≡ b
or-nothing true = refl
or-nothing false = refl

no_more : (config : Config) (c : ℕ) (us : Numbered Upload) (t : Numbers)
    → set.union t (set.from_list (map.keys (expired config c (unexpired config c us)))) ≡ t
no_more config c us t = set.same_set nat_cmp_total set.nat_cmp-IsAntisymmetric _ _ (λ q.
    set.contains-union nat_cmp_total t _ q
    ∙ ap (λ b. set.contains t q || b) (contains-expired config c (unexpired config c us) q ∙ ap (λ b. is_some (cond b (map.get (unexpired config c us) q) None)) (none_expires config c us q))
    ∙ or-nothing (set.contains t q))

same_clock : (a b : ℕ) → max (max a b) b ≡ max a b
same_clock a b = omega arith

pub again : (config : Config) (s : State) (moment : ℕ) → tick config (tick config s moment) moment ≡ tick config s moment
again config s moment =
    let c = clock_at s moment in
    let same : clock_at (tick config s moment) moment ≡ c = same_clock s.clock (min moment greatest_moment) in
    (λ i. record (tick config s moment) {
      clock = same i;
      uploads = unexpired config (same i) (unexpired config c s.uploads);
      timed_out = set.union (tick config s moment).timed_out (set.from_list (map.keys (expired config (same i) (unexpired config c s.uploads))));
    }) ∙ (λ i. record (tick config s moment) {
      uploads = twice config c s.uploads i;
      timed_out = no_more config c s.uploads (tick config s moment).timed_out i;
    })

rises : (a b : ℕ) → a ≤ max a b
rises a b = omega arith

pub clock_rises : (config : Config) (s : State) (moment : ℕ) → s.clock ≤ (tick config s moment).clock
clock_rises config s moment = rises s.clock (min moment greatest_moment)

pub contains-timed_out : (config : Config) (s : State) (moment u : ℕ)
    → set.contains (tick config s moment).timed_out u ≡ (set.contains s.timed_out u || is_some (cond (expires config (clock_at s moment) s.uploads u) (map.get s.uploads u) None))
contains-timed_out config s moment u =
    set.contains-union nat_cmp_total s.timed_out _ u ∙ ap (λ b. set.contains s.timed_out u || b) (contains-expired config (clock_at s moment) s.uploads u)

or-first : (a b : Bool) → a ≡ true → (a || b) ≡ true
or-first true b e = refl
or-first false b e = absurd (cc)

pub for_good : (config : Config) (s : State) (moment u : ℕ) → IsTrue (set.contains s.timed_out u) → IsTrue (set.contains (tick config s moment).timed_out u)
for_good config s moment u was = contains-timed_out config s moment u ∙ or-first _ _ was
