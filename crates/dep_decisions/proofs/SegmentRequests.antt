-- Requests that send a segment: the rules that they meet, and what they make of the archive.
use Rattle.std.proofs.Common.{◌≡◌, ◌∙◌, ℕ, if◌then◌else◌, true, [], ◌∷◌, Option, Some, None, is_some, option_and_then, unwrap_or, sym, ap}
use Rattle.std.specs.FinMap as map
use Rattle.std.specs.FinSet as set
use Rattle.dep_types.specs.Maps.{Numbered, first_of}
use Rattle.dep_types.specs.State.{State, Upload}
use Rattle.dep_types.specs.Numbers.{room_for}
use Rattle.dep_types.specs.declared.config.Config.{Config}
use Rattle.dep_types.specs.declared.counters.Counters.{Counters}
use Rattle.dep_types.specs.declared.refusal.Refusal.TheVariants as why
use Rattle.dep_types.specs.declared.target.Target.{Target}
use Rattle.dep_types.specs.declared.target.Resource.TheVariants as at_resource
use Rattle.dep_fields.specs.declared.kind.Kind.{Kind}
use Rattle.dep_fields.specs.declared.kind.Kind.TheVariants as of
use Rattle.dep_decisions.specs.Kinds.{content_kind}
use Rattle.dep_decisions.specs.Decisions.{decision, decision_at, decision_with, numbers_for, received, references_in}
use Rattle.dep_decisions.specs.LookUps.{in_state, tag_at}
use Rattle.dep_decisions.specs.Rules.{access_refusal, content_by, content_refusal, document_refusal, document_rule, has_content, presence_refusal, presence_rule, reads_alone, received_refusal, refusal, refusal_by, room_rule, segment_refusal, size_refusal, size_rule, tag_refusal, tag_rule, unless}
use Rattle.dep_decisions.specs.Effects.{effect, effect_of, with_segment}
use Rattle.dep_decisions.specs.Laws.{posted_to}
use Rattle.dep_decisions.specs.declared.operation.Operation.{Operation}
use Rattle.dep_decisions.specs.declared.decision.Decision.{Decision}
use Rattle.dep_decisions.specs.declared.decision.Decision.TheVariants.{Show, Receive}
use Rattle.dep_decisions.proofs.FoundInMaps.{at-some}
use Rattle.dep_decisions.proofs.Passed.{behalf_passed, content_passed, presence_passed}
use Rattle.dep_decisions.proofs.ReadAlone.{none_taken}
use Rattle.dep_decisions.proofs.Referred.{upload_there}

module _ (config : Config) (op : Operation) (u k : ℕ) (target : op.target ≡ posted_to u) (kind : content_kind op ≡ Some (of.Segment k)) where
  asked : decision config op ≡ Receive u k
  unfolding decision_with
  asked =
      ap (λ (t : Target). unwrap_or (decision_at (references_in config op) op t.resource t.method) Show) target
      ∙ ap (λ (o : Option Kind). unwrap_or (option_and_then (received u) o) Show) kind

  -- ---- the rules

  content_there : has_content op.target.method ≡ true
  content_there = ap (λ (t : Target). has_content t.method) target

  presence_is : (s : State) → presence_rule (in_state s) op ≡ presence_refusal (in_state s) (at_resource.Upload u)
  unfolding presence_rule
  presence_is s = ap (λ (t : Target). presence_refusal (in_state s) t.resource) target

  tag_none : (s : State) → tag_rule config (in_state s) op ≡ None
  unfolding tag_rule
  tag_none s = ap (λ (t : Target). tag_refusal config.require_if_match op.if_match (tag_at s t.resource)) target

  document_none : (s : State) → document_rule config (in_state s) op ≡ None
  unfolding document_rule
  document_none s = ap (λ (o : Option Kind). option_and_then (document_refusal config (in_state s) op) o) kind

  room_none : (s : State) → room_rule config (in_state s) op ≡ None
  unfolding room_rule room_for
  room_none s = ap (λ (d : Decision). unless (room_for s.next (numbers_for d)) why.StoreFull) asked

  size_is : (s : State) → size_rule config (in_state s) op ≡ option_and_then (λ upload. segment_refusal upload k op.content) (map.get s.uploads u)
  unfolding size_rule
  size_is s = ap (λ (o : Option Kind). option_and_then (size_refusal config (in_state s) op) o) kind ∙ ap (λ (t : Target). received_refusal (in_state s) t.resource k op.content) target

  pub size_at : (s : State) (x : Upload) → map.get s.uploads u ≡ Some x → size_rule config (in_state s) op ≡ segment_refusal x k op.content
  size_at s x there = size_is s ∙ ap (option_and_then (λ upload. segment_refusal upload k op.content)) there

  -- where it is accepted its upload is there, and lets it through
  pub present : (s : State) → refusal config s op ≡ None → (x : Upload) × (map.get s.uploads u ≡ Some x)
  present s accepted = upload_there s u (sym (presence_is s) ∙ presence_passed config (in_state s) op accepted)

  pub let_through : (s : State) (x : Upload) → refusal config s op ≡ None → map.get s.uploads u ≡ Some x → segment_refusal x k op.content ≡ None
  let_through s x accepted there = sym (size_at s x there) ∙ (content_passed config (in_state s) op accepted content_there).size

  -- where it was accepted once, it is so in each state whose upload lets it through
  pub accepted_again : (s t : State) (x : Upload) → refusal config s op ≡ None → map.get t.uploads u ≡ Some x → segment_refusal x k op.content ≡ None → refusal config t op ≡ None
  unfolding refusal_by access_refusal content_refusal content_by
  accepted_again s t x accepted there passes =
      let behalf = behalf_passed config (in_state s) op accepted in
      let content = content_passed config (in_state s) op accepted content_there in
      let here : presence_rule (in_state t) op ≡ None = presence_is t
      ∙ ap (λ (o : Option Upload). if is_some o then None else if set.contains t.timed_out u then Some why.SegmentedUploadTimedOut else Some why.NotFound) there in
      let size : size_rule config (in_state t) op ≡ None = size_at t x there ∙ passes in
      let tag = tag_none t in
      let document = document_none t in
      let room = room_none t in
      (λ i. first_of
      (first_of (behalf i ∷ here i ∷ (if reads_alone (target i).resource (target i).method then None else tag i) ∷ [])
      ∷ (if content_there i then first_of (content.fields i ∷ content.digest i ∷ document i ∷ size i ∷ []) else None)
      ∷ room i ∷ []))

  -- ---- what it makes of the archive

  pub effect_is : (s : State) (x : Upload) → map.get s.uploads u ≡ Some x
      → effect config s op ≡ record s { uploads = map.insert s.uploads u (with_segment s k op.content x) }
  unfolding effect
  effect_is s x there =
      ap (effect_of s op.content) asked
      ∙ ap (λ (m : Numbered Upload). record (effect_of s op.content (Receive u k)) { uploads = m }) (at-some s.uploads u (with_segment s k op.content) x there)
      ∙ ap (λ (next : Counters). record s { next = next; uploads = map.insert s.uploads u (with_segment s k op.content x) }) (none_taken s.next)
