-- A segment that was received stays for as long as its upload is there.
use Rattle.std.proofs.Common.{◌≡◌, ◌≢◌, ◌⊎◌, inl, inr, ℕ, List, Option, Some, None, refl, sym, subst, ◌∙◌}
use Rattle.std.specs.FinMap as map
use Rattle.dep_types.specs.State.{State, Upload, tick}
use Rattle.dep_types.specs.Sound.{IsSound}
use Rattle.dep_types.specs.declared.config.Config.{Config}
use Rattle.dep_types.specs.declared.refusal.Refusal.{Refusal}
use Rattle.dep_types.proofs.Kept.{get-insert_same, get-insert_other}
use Rattle.dep_fields.specs.declared.kind.Kind.TheVariants as of
use Rattle.dep_decisions.specs.Kinds.{content_kind}
use Rattle.dep_decisions.specs.Rules.{refusal}
use Rattle.dep_decisions.specs.Effects.{effect, received_beside, with_segment}
use Rattle.dep_decisions.specs.Laws.{posted_to}
use Rattle.dep_decisions.specs.declared.operation.Operation.{Operation}
use Rattle.dep_decisions.proofs.SegmentRequests.{effect_is, let_through, present}
use Rattle.dep_decisions.proofs.Segments.{stands_then}
use Rattle.dep_answers.specs.Steps.{step_by, operation_step}
use Rattle.dep_message.specs.Stream.{Request}
use Rattle.dep_message.specs.declared.message.Message.{Message}
use Rattle.dep_router.specs.Targets.{target}
use Rattle.dep_router.specs.declared.routed.Routed.{Routed}
use Rattle.dep_router.specs.declared.routed.Routed.TheVariants.{To}
use Rattle.dep_exchange.specs.Machine.{operation_of, routed_step, step}
use Rattle.dep_exchange.specs.Records.{Record, World, Run}
use Rattle.dep_server.specs.Acknowledged.{RunsThrough, HasSegment, IsGone}
use Rattle.dep_server.proofs.UploadsKept.{HoldsStill, IsKept, still_there}

-- ---- a segment that is there

module _ (k : ℕ) (bytes : List ℕ) where
  abbrev pub HasBytes : Upload → Type 0
  HasBytes upload = map.get upload.segments k ≡ Some bytes

  apart_from : (upload : Upload) (j : ℕ) → map.get upload.segments j ≡ None → HasBytes upload → k ≢ j
  apart_from upload j none h same = let there = subst (λ n. map.get upload.segments n ≡ Some bytes) same h in cc (none, there)

  grown : (j : ℕ) (content : List ℕ) (upload : Upload) (o : Option (List ℕ)) → map.get upload.segments j ≡ o → HasBytes upload
      → map.get (received_beside o j content upload.segments) k ≡ Some bytes
  grown j content upload (Some stored) there h = h
  grown j content upload None none h = get-insert_other upload.segments j content k (apart_from upload j none h) ∙ h

  -- a segment of the upload is received: another one, or this one again, which leaves its bytes
  pub bytes_kept : IsKept HasBytes
  bytes_kept s j content upload h = grown j content upload (map.get upload.segments j) refl h

module _ (u k : ℕ) (bytes : List ℕ) where
  reported : (s : State) → HoldsStill u (HasBytes k bytes) s.uploads → HasSegment s u k bytes ⊎ IsGone s u
  reported s (inl h) = inl (record { upload = h.0; there = h.1; received = h.2 })
  reported s (inr gone) = inr gone

  pub stays : (config : Config) (first : State) (records : List Record) (w : World) (r : Run config first records w) (through : State)
      → IsSound first → RunsThrough r through → HasSegment through u k bytes → HasSegment w.state u k bytes ⊎ IsGone w.state u
  stays config first records w r through sound t h =
      reported w.state (still_there u (HasBytes k bytes) (bytes_kept k bytes) r through sound t (h.upload, h.there, h.received))

-- ---- a segment that is accepted

pub received_by : (config : Config) (s : State) (op : Operation) (u k : ℕ) → op.target ≡ posted_to u → content_kind op ≡ Some (of.Segment k)
    → refusal config s op ≡ None → HasSegment (effect config s op) u k op.content
received_by config s op u k target kind accepted =
    let x = present config op u k target kind s accepted in
    subst (λ (t : State). HasSegment t u k op.content) (sym (effect_is config op u k target kind s x.0 x.1))
    (record {
      upload = with_segment s k op.content x.0;
      there = get-insert_same s.uploads u (with_segment s k op.content x.0);
      received = stands_then x.0 k op.content (let_through config op u k target kind s x.0 accepted x.1) s;
    })

accepted_by : (config : Config) (s : State) (op : Operation) (u k : ℕ) → op.target ≡ posted_to u → content_kind op ≡ Some (of.Segment k)
    → (o : Option Refusal) → refusal config s op ≡ o → o ≡ None → HasSegment (step_by config s op o).state u k op.content
accepted_by config s op u k target kind None accepted e = received_by config s op u k target kind accepted
accepted_by config s op u k target kind (Some r) accepted e = cc

-- what is accepted as a segment stands in the state that the step leaves
pub received_represents : (config : Config) (s : State) (m : Message) (moment u k : ℕ)
    → target m.head.method m.head.path ≡ To (posted_to u)
    → content_kind (operation_of m (posted_to u)) ≡ Some (of.Segment k)
    → refusal config (tick config s moment) (operation_of m (posted_to u)) ≡ None
    → HasSegment (step config s (Request m) moment).state u k m.content
unfolding step operation_step
received_represents config s m moment u k named kind accepted =
    let op : Operation = operation_of m (posted_to u) in
    subst (λ (r : Routed). HasSegment (routed_step config (tick config s moment) m r).state u k m.content) (sym named)
    (accepted_by config (tick config s moment) op u k refl kind (refusal config (tick config s moment) op) refl accepted)
