-- A tick keeps a sound state sound.
use Rattle.std.proofs.Common.{◌≡◌, ℕ, ◌≤◌, min, max, Bool, true, false, cond, not, ◌||◌, ◌⊎◌, Option, Some, None, is_some, refl, sym, ◌∙◌, arith, le_refl, inl, inr}
use Rattle.dep_types.specs.Limits.{greatest_moment}
use Rattle.dep_types.specs.State.{State, Upload, tick, clock_at}
use Rattle.dep_types.specs.Sound.{IsSound}
use Rattle.dep_types.specs.declared.config.Config.{Config}
use Rattle.dep_types.proofs.Kept.{kept-was}
use Rattle.dep_types.proofs.TickLemmas.{get-unexpired, clock_rises, contains-timed_out}
use Rattle.dep_types.proofs.Later.{Later, object_later, upload_later}

ticked_later : (config : Config) (s : State) (moment : ℕ) → Later s (tick config s moment)
ticked_later config s moment = record {
  clock = clock_rises config s moment;
  object = le_refl s.next.object;
  file = le_refl s.next.file;
  upload = le_refl s.next.upload;
  change = le_refl s.next.change;
}

clock_bounded : (a b g : ℕ) → a ≤ g → max a (min b g) ≤ g
clock_bounded a b g h = omega arith

or-cases : (a b : Bool) → (a || b) ≡ true → (a ≡ true) ⊎ (b ≡ true)
or-cases true b e = inl refl
or-cases false b e = inr e

-- an upload that expires was there, and is not among those left
one_expired : (b : Bool) (o : Option Upload) → is_some (cond b o None) ≡ true → ((u : Upload) × (o ≡ Some u)) × (cond (not b) o None ≡ None)
one_expired true (Some u) e = ((u, refl), refl)
one_expired true None e = absurd (cc)
one_expired false o e = absurd (cc)

not_left : (b : Bool) (o : Option Upload) → o ≡ None → cond (not b) o None ≡ None
not_left true o e = refl
not_left false o e = e

pub keeps_sound : (config : Config) (s : State) (moment : ℕ) → IsSound s → IsSound (tick config s moment)
keeps_sound config s moment h =
    let later = ticked_later config s moment in
    let left = get-unexpired config (clock_at s moment) s.uploads in
    record {
      clock = clock_bounded s.clock moment greatest_moment h.clock;
      next_object = h.next_object;
      next_file = h.next_file;
      next_upload = h.next_upload;
      next_change = h.next_change;
      object_bound = h.object_bound;
      file_bound = h.file_bound;
      upload_bound = h.upload_bound;
      change_bound = h.change_bound;
      objects = λ n o e. object_later s (tick config s moment) later n o (h.objects n o e);
      one_place = h.one_place;
      uploads = λ n u e. upload_later s (tick config s moment) later n u (h.uploads n u (kept-was _ _ u (sym (left n) ∙ e)).1);
      timed_out = λ n e. elim (or-cases _ _ (sym (contains-timed_out config s moment n) ∙ e)) [
        | inl was ↦ ((h.timed_out n was).0, left n ∙ not_left _ _ (h.timed_out n was).1)
        | inr now ↦ let went = one_expired _ _ now in ((h.uploads n went.0.0 went.0.1).number_given, left n ∙ went.1)
      ];
    }
