-- A segment that was received stays while its upload is there, and an upload's number is never given again.
use Rattle.std.proofs.Common.{◌≡◌, ◌∙◌, ◌⊎◌, inl, inr, ℕ, ◌<◌, List, Option, Some, None, refl, sym, ap, subst, le_refl, le-add_right}
use Rattle.std.specs.FinMap as map
use Rattle.dep_types.specs.Maps.{Numbered}
use Rattle.dep_types.specs.State.{State, Upload, tick, clock_at}
use Rattle.dep_types.specs.declared.config.Config.{Config}
use Rattle.dep_types.proofs.Kept.{found, get-insert_other, kept-was}
use Rattle.dep_types.proofs.TickLemmas.{get-unexpired}
use Rattle.dep_decisions.specs.Decisions.{decision, numbers_for}
use Rattle.dep_decisions.specs.Effects.{effect, effect_of, fresh, received_beside, used, with_segment, without}
use Rattle.dep_decisions.specs.declared.operation.Operation.{Operation}
use Rattle.dep_decisions.specs.declared.decision.Decision.{Decision}
use Rattle.dep_decisions.specs.declared.decision.Decision.TheVariants.{Open, Receive}
use Rattle.dep_decisions.specs.Laws.{HoldsSegments, KeepsSegments}
use Rattle.dep_decisions.proofs.FoundInMaps.{without-was}
use Rattle.dep_decisions.proofs.GivenOnce.{at-found}
use Rattle.dep_decisions.proofs.InOrder.{below_not}

-- ---- one upload

holds_itself : (u : Upload) → HoldsSegments u u
holds_itself u k bytes e = e

stays_beside : (stored : Option (List ℕ)) (k : ℕ) (new : List ℕ) (m : Numbered (List ℕ)) → map.get m k ≡ stored
    → (j : ℕ) (bytes : List ℕ) → map.get m j ≡ Some bytes → map.get (received_beside stored k new m) j ≡ Some bytes
stays_beside (Some own) k new m there j bytes e = e
stays_beside None k new m none j bytes e =
    get-insert_other m k new j (λ same. (let here : map.get m j ≡ map.get m k = ap (map.get m) same in cc)) ∙ e

with_segment_holds : (s : State) (k : ℕ) (new : List ℕ) (u : Upload) → HoldsSegments u (with_segment s k new u)
with_segment_holds s k new u = stays_beside (map.get u.segments k) k new u.segments refl

-- ---- nothing changes

pub keeps_segments_refl : (s : State) → KeepsSegments s s
keeps_segments_refl s = record {
  next = le_refl s.next.upload;
  segments = λ n after e low. (after, e, holds_itself after);
}

-- ---- ticks

pub tick_keeps_segments : (config : Config) (s : State) (moment : ℕ) → KeepsSegments s (tick config s moment)
tick_keeps_segments config s moment = record {
  next = le_refl s.next.upload;
  segments = λ n after e low. (after, (kept-was _ _ after (sym (get-unexpired config (clock_at s moment) s.uploads n) ∙ e)).1, holds_itself after);
}

-- ---- requests

module _ (s : State) (content : List ℕ) where
  -- it was there, and holds each segment that it had
  abbrev WasThere : ℕ → Upload → Type 0
  WasThere n after = (before : Upload) × (map.get s.uploads n ≡ Some before) × HoldsSegments before after

  left : (us : List ℕ) (n : ℕ) (u : Upload) → map.get (without s.uploads us) n ≡ Some u → WasThere n u
  left us n u e = (u, without-was s.uploads us n u e, holds_itself u)

  opened : (n : ℕ) (u x : Upload) → n < s.next.upload → ((n ≡ s.next.upload) × (u ≡ x)) ⊎ (map.get s.uploads n ≡ Some u) → WasThere n u
  opened n u x low (inl new) = absurd (below_not n s.next.upload low new.0)
  opened n u x low (inr was) = (u, was, holds_itself u)

  received : (n m k : ℕ) (u : Upload)
      → ((y : Upload) × (map.get s.uploads n ≡ Some y) × (n ≡ m) × (u ≡ with_segment s k content y)) ⊎ (map.get s.uploads n ≡ Some u) → WasThere n u
  received n m k u (inl is) = (is.0, is.1, subst (λ (x : Upload). HoldsSegments is.0 x) (sym is.3) (with_segment_holds s k content is.0))
  received n m k u (inr was) = (u, was, holds_itself u)

  was_there : (d : Decision) (n : ℕ) (u : Upload) → map.get (effect_of s content d).uploads n ≡ Some u → n < s.next.upload → WasThere n u
  was_there (Open o) n u e low = opened n u (fresh s o) low (found s.uploads s.next.upload (fresh s o) n u e)
  was_there (Receive m k) n u e low = received n m k u (at-found s.uploads m (with_segment s k content) n u e)
  was_there d n u e low = left (used d) n u e

  decision_keeps_segments : (d : Decision) → KeepsSegments s (effect_of s content d)
  decision_keeps_segments d = record {
    next = le-add_right s.next.upload (numbers_for d).upload;
    segments = was_there d;
  }

pub effect_keeps_segments : (config : Config) (s : State) (op : Operation) → KeepsSegments s (effect config s op)
unfolding effect
effect_keeps_segments config s op = decision_keeps_segments s op.content (decision config op)
