-- A segment stays until its upload is deposited, deleted or timed out.
use Rattle.std.proofs.Common.{◌≡◌, ◌≢◌, ◌⊎◌, inl, inr, ℕ, ◌==◌, nat_eq, Bool, true, false, not, cond, ◌||◌, List, [], ◌∷◌, Option, Some, None, IsTrue, refl, sym, ap, subst, ◌∙◌, arith}
use Rattle.std.specs.List.{list_any}
use Rattle.std.specs.FinMap as map
use Rattle.std.specs.Cmp.{nat_cmp_total}
use Rattle.std.proofs.lemmas.Bool.{eq-eqb}
use Rattle.dep_types.specs.Maps.{Numbered}
use Rattle.dep_types.specs.State.{State, Upload, tick, expires, clock_at}
use Rattle.dep_types.specs.Sound.{IsSound, IsGiven}
use Rattle.dep_types.specs.declared.config.Config.{Config}
use Rattle.dep_types.specs.declared.refusal.Refusal.{Refusal}
use Rattle.dep_types.proofs.Kept.{tied}
use Rattle.dep_types.proofs.TickLemmas.{get-unexpired}
use Rattle.dep_types.proofs.TickSound.{keeps_sound}
use Rattle.dep_fields.specs.Fit.{AreFit}
use Rattle.dep_fields.proofs.FitFields.{fields_are_fit}
use Rattle.dep_decisions.specs.Decisions.{decision}
use Rattle.dep_decisions.specs.Rules.{refusal}
use Rattle.dep_decisions.specs.Effects.{effect, effect_of, without, used, fresh}
use Rattle.dep_decisions.specs.declared.operation.Operation.{Operation}
use Rattle.dep_decisions.specs.declared.decision.Decision.{Decision}
use Rattle.dep_decisions.specs.declared.decision.Decision.TheVariants.{Show, Create, Append, Replace, Complete, SetMetadata, SetFiles, SetFile, DropFile, DropObject, Open, Receive, DropUpload}
use Rattle.dep_decisions.specs.Fit.{IsFitDecision}
use Rattle.dep_decisions.proofs.Accepted.{decision_fit}
use Rattle.dep_answers.specs.Steps.{step_by, operation_step}
use Rattle.dep_message.specs.Stream.{Fault, Continue, Request}
use Rattle.dep_message.specs.declared.message.Message.{Message}
use Rattle.dep_router.specs.Targets.{target}
use Rattle.dep_router.specs.declared.routed.Routed.{Routed}
use Rattle.dep_router.specs.declared.routed.Routed.TheVariants.{To, NotFound, NotAllowed}
use Rattle.dep_exchange.specs.Machine.{operation_of, routed_step, step}
use Rattle.dep_server.specs.Moves.{Move, Made, Begun, moved}
use Rattle.dep_server.specs.Runs.{AnyRun, PointOf, state_at}
use Rattle.dep_server.specs.Acknowledged.{HasSegment, TimesOut, IsUsed, EndsUpload, StaysUntilEnded, SegmentStaysFrom}
use Rattle.dep_server.proofs.UploadsKept.{Holds, beside, with_more}
use Rattle.dep_server.proofs.SegmentsStay.{HasBytes, bytes_kept}
use Rattle.dep_server.proofs.UntilEnded.{HasEnd, until_ended}

-- one of two
second_true : (a b : Bool) → IsTrue b → IsTrue (a || b)
second_true true b e = refl
second_true false b e = e

apart_by : (u v : ℕ) → nat_eq u v ≡ false → u ≢ v
apart_by u v e same = (let on : (u == v) ≡ true = eq-eqb u v same in cc)

module _ (u k : ℕ) (bytes : List ℕ) where
  left_by : (m : Numbered Upload) (v : ℕ) → u ≢ v → Holds u (HasBytes k bytes) m → Holds u (HasBytes k bytes) (map.remove m v)
  left_by m v apart h = (h.0, map.get-remove nat_cmp_total m v u ∙ ap (λ (b : Bool). cond b None (map.get m u)) (tied u v apart) ∙ h.1, h.2)

  by_first : (m : Numbered Upload) (v : ℕ) (us : List ℕ) (b : Bool) → nat_eq u v ≡ b
      → (u ≢ v → Holds u (HasBytes k bytes) (without (map.remove m v) us) ⊎ IsTrue (list_any (nat_eq u) us))
      → Holds u (HasBytes k bytes) (without m (v ∷ us)) ⊎ IsTrue (list_any (nat_eq u) (v ∷ us))
  by_first m v us true e rest = inr (ap (λ (b : Bool). b || list_any (nat_eq u) us) e)
  by_first m v us false e rest = elim (rest (apart_by u v e)) [
    | inl stays ↦ inl stays
    | inr among ↦ inr (second_true (nat_eq u v) (list_any (nat_eq u) us) among)
  ]

  -- it is one of those that go, or stays
  left_or_used : (m : Numbered Upload) (us : List ℕ) → Holds u (HasBytes k bytes) m → Holds u (HasBytes k bytes) (without m us) ⊎ IsTrue (list_any (nat_eq u) us)
  left_or_used m [] h = inl h
  left_or_used m (v ∷ us) h = by_first m v us (nat_eq u v) refl (λ apart. left_or_used (map.remove m v) us (left_by m v apart h))

  module _ (s : State) (content : List ℕ) (given : IsGiven s.next.upload u) where
    left : (d : Decision) → (effect_of s content d).uploads ≡ without s.uploads (used d) → Holds u (HasBytes k bytes) s.uploads
        → Holds u (HasBytes k bytes) (effect_of s content d).uploads ⊎ IsTrue (list_any (nat_eq u) (used d))
    left d same h = subst (λ (m : Numbered Upload). Holds u (HasBytes k bytes) m ⊎ IsTrue (list_any (nat_eq u) (used d))) (sym same) (left_or_used s.uploads (used d) h)

    by_decision : (d : Decision) → IsFitDecision s content d → Holds u (HasBytes k bytes) s.uploads → Holds u (HasBytes k bytes) (effect_of s content d).uploads ⊎ IsTrue (list_any (nat_eq u) (used d))
    by_decision (Open o) fit h = inl (beside u (HasBytes k bytes) s.uploads s.next.upload (fresh s o) (λ e. let low = given.below in omega (arith, low, e)) h)
    by_decision (Receive v j) fit h = inl (with_more u (HasBytes k bytes) (bytes_kept k bytes) s s.uploads v j content (u == v) refl h)
    by_decision Show fit h = left Show refl h
    by_decision (Create d ingests) fit h = left (Create d ingests) refl h
    by_decision (Append n d ingests) fit h = left (Append n d ingests) refl h
    by_decision (Replace n d ingests) fit h = left (Replace n d ingests) refl h
    by_decision (Complete n) fit h = left (Complete n) refl h
    by_decision (SetMetadata n texts) fit h = left (SetMetadata n texts) refl h
    by_decision (SetFiles n new) fit h = left (SetFiles n new) refl h
    by_decision (SetFile n f new) fit h = left (SetFile n f new) refl h
    by_decision (DropFile n f) fit h = left (DropFile n f) refl h
    by_decision (DropObject n) fit h = left (DropObject n) refl h
    by_decision (DropUpload v) fit h = left (DropUpload v) refl h

  module _ (config : Config) where
    abbrev Has : State → Type 0
    Has s = Holds u (HasBytes k bytes) s.uploads

    given_at : (s : State) → IsSound s → Has s → IsGiven s.next.upload u
    given_at s sound h = (sound.uploads u h.0 h.1).number_given

    by_refusal : (s : State) (op : Operation) (o : Option Refusal) → refusal config s op ≡ o → AreFit op.fields → IsSound s → Has s
        → Has (step_by config s op o).state ⊎ ((refusal config s op ≡ None) × IsTrue (list_any (nat_eq u) (used (decision config op))))
    unfolding effect
    by_refusal s op (Some r) refused fit sound h = inl h
    by_refusal s op None accepted fit sound h =
        elim (by_decision s op.content (given_at s sound h) (decision config op) (decision_fit config s op fit accepted) h) [
          | inl stays ↦ inl stays
          | inr among ↦ inr (accepted, among)
        ]

    by_operation : (s : State) (op : Operation) → AreFit op.fields → IsSound s → Has s
        → Has (operation_step config s op).state ⊎ ((refusal config s op ≡ None) × IsTrue (list_any (nat_eq u) (used (decision config op))))
    unfolding operation_step
    by_operation s op fit sound h = by_refusal s op (refusal config s op) refl fit sound h

    by_route : (s : State) (m : Message) (r : Routed) → target m.head.method m.head.path ≡ r → IsSound s → Has s
        → Has (routed_step config s m r).state ⊎ IsUsed config s m u
    by_route s m NotFound e sound h = inl h
    by_route s m (NotAllowed methods) e sound h = inl h
    by_route s m (To t) e sound h = elim (by_operation s (operation_of m t) (fields_are_fit m.head.fields) sound h) [
      | inl stays ↦ inl stays
      | inr taken ↦ inr (record { target = t; accepted = record { named = e; passed = taken.0 }; among = taken.1 })
    ]

    ticked : (s : State) (moment : ℕ) (b : Bool) → expires config (clock_at s moment) s.uploads u ≡ b → Has s → Has (tick config s moment) ⊎ TimesOut config s moment u
    ticked s moment true e h = inr e
    ticked s moment false e h =
        inl (h.0, get-unexpired config (clock_at s moment) s.uploads u ∙ (ap (λ (x : Bool). cond (not x) (map.get s.uploads u) None) e ∙ h.1), h.2)

    by_tick : (s : State) (moment : ℕ) → Has s → Has (tick config s moment) ⊎ TimesOut config s moment u
    by_tick s moment h = ticked s moment (expires config (clock_at s moment) s.uploads u) refl h

    by_request : (s : State) (m : Message) (moment : ℕ) → IsSound s → Has s
        → Has (routed_step config (tick config s moment) m (target m.head.method m.head.path)).state ⊎ (TimesOut config s moment u ⊎ IsUsed config (tick config s moment) m u)
    by_request s m moment sound h = elim (by_tick s moment h) [
      | inl stays ↦ elim (by_route (tick config s moment) m (target m.head.method m.head.path) refl (keeps_sound config s moment sound) stays) [
        | inl there ↦ inl there
        | inr used ↦ inr (inr used)
      ]
      | inr out ↦ inr (inl out)
    ]

    by_move : (s : State) (move : Move) → IsSound s → Has s → Has (moved config s move) ⊎ EndsUpload config s move u
    unfolding step
    by_move s (Made (Fault r head_only) moment) sound h = by_tick s moment h
    by_move s (Made Continue moment) sound h = inl h
    by_move s (Made (Request m) moment) sound h = by_request s m moment sound h
    by_move s (Begun (Fault r head_only) moment) sound h = by_tick s moment h
    by_move s (Begun Continue moment) sound h = inl h
    by_move s (Begun (Request m) moment) sound h = by_tick s moment h

    abbrev Ends : State → Move → Type 0
    Ends s move = EndsUpload config s move u

    reported : (s : State) (moves : List Move) (last : State) → Has last ⊎ HasEnd config Ends s moves → StaysUntilEnded config s moves last u k bytes
    reported s moves last (inl h) = inl (record { upload = h.0; there = h.1; received = h.2 })
    reported s moves last (inr e) = inr (record { before = e.before; behind = e.behind; move = e.move; among = e.among; ends = e.ends })

  -- from a point of a run on
  pub segment_stays : (r : AnyRun) (p : PointOf r) → IsSound r.first → HasSegment (state_at p) u k bytes → SegmentStaysFrom p u k bytes
  segment_stays r p sound h =
      reported r.config (state_at p) p.behind r.last.state
      (until_ended r (Has r.config) (Ends r.config) (by_move r.config) p sound (h.upload, h.there, h.received))
