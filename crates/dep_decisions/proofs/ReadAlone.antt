-- Requests that are only read, and those that are read no further than what they ask for.
use Rattle.std.proofs.Common.{◌≡◌, ◌∙◌, ℕ, false, List, [], ◌∷◌, Option, Some, None, IsTrue, if◌then◌else◌, refl, sym, ap, add-zero}
use Rattle.dep_types.specs.Maps.{first_of}
use Rattle.dep_types.specs.Methods.{is_safe}
use Rattle.dep_types.specs.State.{State}
use Rattle.dep_types.specs.Numbers.{counters_after, numbers, room_for}
use Rattle.dep_types.specs.declared.config.Config.{Config}
use Rattle.dep_types.specs.declared.counters.Counters.{Counters}
use Rattle.dep_types.specs.declared.refusal.Refusal.{Refusal}
use Rattle.dep_types.specs.declared.refusal.Refusal.TheVariants.{StoreFull}
use Rattle.dep_types.specs.declared.target.Target.{Target}
use Rattle.dep_types.specs.declared.target.Resource.{Resource}
use Rattle.dep_types.specs.declared.target.Resource.TheVariants.{Upload}
use Rattle.dep_types.specs.declared.target.Method.{Method}
use Rattle.dep_types.specs.declared.target.Method.TheVariants.{Get, Head, Post, Put, Delete}
use Rattle.dep_fields.specs.declared.field.Field.{Field}
use Rattle.dep_docs_in.specs.declared.reference.Reference.{Reference}
use Rattle.dep_decisions.specs.Asked.{asked_at}
use Rattle.dep_decisions.specs.Decisions.{decision, decision_with, numbers_for, references_in}
use Rattle.dep_decisions.specs.LookUps.{in_state}
use Rattle.dep_decisions.specs.Rules.{access_refusal, behalf_refusal, behalf_rule, content_by, content_refusal, has_content, is_upload, presence_rule, presence_refusal, reads_alone, refusal, refusal_by, room_rule, tag_rule, unless}
use Rattle.dep_decisions.specs.Effects.{effect, effect_of}
use Rattle.dep_decisions.specs.declared.operation.Operation.{Operation}
use Rattle.dep_decisions.specs.declared.decision.Decision.{Decision}
use Rattle.dep_decisions.specs.declared.decision.Decision.TheVariants.{Show, DropUpload}
use Rattle.dep_decisions.proofs.AskedIs.{shown_by_get, shown_by_head}

upload_in : Resource → Option ℕ
upload_in (Upload u) = Some u
upload_in _ = None

-- the upload that such a request drops
dropped_at : Resource → Method → Option ℕ
dropped_at resource Delete = upload_in resource
dropped_at resource method = None

-- what such a request asks for
abbrev asked_by : Option ℕ → Decision
asked_by None = Show
asked_by (Some u) = DropUpload u

drops_so : (refs : Option (List Reference)) (op : Operation) (resource : Resource) → IsTrue (is_upload resource) → asked_at refs op resource Delete ≡ asked_by (upload_in resource)
unfolding upload_in
drops_so refs op (Upload u) h = refl
drops_so refs op _ h = cc h

asks_at : (refs : Option (List Reference)) (op : Operation) (resource : Resource) (method : Method) → IsTrue (reads_alone resource method)
    → asked_at refs op resource method ≡ asked_by (dropped_at resource method)
unfolding dropped_at
asks_at refs op resource Get h = sym (shown_by_get refs op resource)
asks_at refs op resource Head h = sym (shown_by_head refs op resource)
asks_at refs op resource Delete h = drops_so refs op resource h
asks_at refs op resource _ h = cc h

asks_so : (config : Config) (op : Operation) → IsTrue (reads_alone op.target.resource op.target.method)
    → decision config op ≡ asked_by (dropped_at op.target.resource op.target.method)
unfolding decision_with
asks_so config op h = asks_at (references_in config op) op op.target.resource op.target.method h

-- ---- the rules that such a request meets

no_content : (resource : Resource) (method : Method) → IsTrue (reads_alone resource method) → has_content method ≡ false
no_content resource Post h = cc h
no_content resource Put h = cc h
no_content resource _ h = refl

room_left : (next : Counters) (dropped : Option ℕ) → unless (room_for next (numbers_for (asked_by dropped))) StoreFull ≡ None
unfolding room_for
room_left next None = refl
room_left next (Some u) = refl

alone : (b p : Option Refusal) → first_of (first_of (b ∷ p ∷ None ∷ []) ∷ None ∷ None ∷ []) ≡ first_of (b ∷ p ∷ [])
alone None (Some r) = refl
alone _ _ = refl

refused_so : (config : Config) (s : State) (op : Operation) → IsTrue (reads_alone op.target.resource op.target.method)
    → refusal config s op ≡ first_of (behalf_rule config op ∷ presence_rule (in_state s) op ∷ [])
unfolding refusal_by access_refusal content_refusal room_rule
refused_so config s op h =
    let content = no_content op.target.resource op.target.method h in
    let room = ap (λ (d : Decision). unless (room_for s.next (numbers_for d)) StoreFull) (asks_so config op h) ∙ room_left s.next (dropped_at op.target.resource op.target.method) in
    (λ i. first_of (first_of (behalf_rule config op ∷ presence_rule (in_state s) op ∷ (if h i then None else tag_rule config (in_state s) op) ∷ [])
    ∷ (if content i then content_by config (in_state s) op else None) ∷ room i ∷ []))
    ∙ alone (behalf_rule config op) (presence_rule (in_state s) op)

by_both : (config : Config) (s : State) (op other : Operation) → op.target ≡ other.target → op.fields.on_behalf_of ≡ other.fields.on_behalf_of
    → first_of (behalf_rule config op ∷ presence_rule (in_state s) op ∷ []) ≡ first_of (behalf_rule config other ∷ presence_rule (in_state s) other ∷ [])
unfolding behalf_rule presence_rule
by_both config s op other target behalf =
    ap (λ (b : Field (List ℕ)). first_of (behalf_refusal config.on_behalf_of b ∷ presence_refusal (in_state s) op.target.resource ∷ [])) behalf
    ∙ ap (λ (t : Target). first_of (behalf_refusal config.on_behalf_of other.fields.on_behalf_of ∷ presence_refusal (in_state s) t.resource ∷ [])) target

still_read : (op other : Operation) → op.target ≡ other.target → IsTrue (reads_alone op.target.resource op.target.method)
    → IsTrue (reads_alone other.target.resource other.target.method)
still_read op other target h = ap (λ (t : Target). reads_alone t.resource t.method) (sym target) ∙ h

-- what such a request changes doesn't look at the content
plain_effect : (s : State) (one other : List ℕ) (dropped : Option ℕ) → effect_of s one (asked_by dropped) ≡ effect_of s other (asked_by dropped)
plain_effect s one other None = refl
plain_effect s one other (Some u) = refl

pub read_no_further : (config : Config) (s : State) (op other : Operation) → IsTrue (reads_alone op.target.resource op.target.method)
    → op.target ≡ other.target → op.fields.on_behalf_of ≡ other.fields.on_behalf_of
    → (refusal config s op ≡ refusal config s other) × (effect config s op ≡ effect config s other)
unfolding effect
read_no_further config s op other h target behalf =
    let also = still_read op other target h in (
      refused_so config s op h ∙ by_both config s op other target behalf ∙ sym (refused_so config s other also),
      ap (effect_of s op.content) (asks_so config op h)
          ∙ plain_effect s op.content other.content (dropped_at op.target.resource op.target.method)
          ∙ ap (effect_of s other.content) (ap (λ (t : Target). asked_by (dropped_at t.resource t.method)) target ∙ sym (asks_so config other also)),
    )

-- ---- what is only read

pub none_taken : (next : Counters) → counters_after next (numbers 0 0 0 0) ≡ next
none_taken next = rw (add-zero next.object, add-zero next.file, add-zero next.upload, add-zero next.change) refl

shown : (s : State) (content : List ℕ) → effect_of s content Show ≡ s
shown s content = ap (λ (c : Counters). record s { next = c }) (none_taken s.next)

read_is_plain : (resource : Resource) (method : Method) → IsTrue (is_safe method) → IsTrue (reads_alone resource method) × (asked_by (dropped_at resource method) ≡ Show)
unfolding dropped_at
read_is_plain resource Get h = (refl, refl)
read_is_plain resource Head h = (refl, refl)
read_is_plain resource _ h = cc h

pub reads_keep : (config : Config) (s : State) (op : Operation) → IsTrue (is_safe op.target.method) → effect config s op ≡ s
unfolding effect
reads_keep config s op h =
    let plain = read_is_plain op.target.resource op.target.method h in
    ap (effect_of s op.content) (asks_so config op plain.0 ∙ plain.1) ∙ shown s op.content
