-- An object that was changed is answered with the number of the change as its tag.
use Rattle.std.proofs.Common.{◌≡◌, ◌∙◌, ◌⊎◌, inl, inr, ℕ, ◌||◌, Bool, true, false, List, Option, Some, None, refl, sym, ap, if◌then◌else◌}
use Rattle.std.specs.Option.{option_map}
use Rattle.std.specs.FinMap as finmap
use Rattle.dep_types.specs.Maps.{Numbered}
use Rattle.dep_types.specs.State as state
use Rattle.dep_types.specs.State.{State}
use Rattle.dep_types.specs.declared.config.Config.{Config}
use Rattle.dep_types.specs.declared.refusal.Refusal.TheVariants.{NotFound}
use Rattle.dep_types.specs.declared.target.Resource.{Resource}
use Rattle.dep_types.specs.declared.target.Resource.TheVariants.{Service, Object}
use Rattle.dep_types.specs.declared.target.Method.{Method}
use Rattle.dep_types.specs.declared.target.Method.TheVariants.{Post, Put}
use Rattle.dep_types.proofs.Kept.{get-insert_same}
use Rattle.dep_fields.specs.declared.kind.Kind.{Kind}
use Rattle.dep_fields.specs.declared.kind.Kind.TheVariants as of
use Rattle.dep_docs_in.specs.declared.reference.Reference.{Reference}
use Rattle.dep_decisions.specs.Kinds.{content_kind, kind_without, is_completion, may_complete, takes_kind}
use Rattle.dep_decisions.specs.Decisions.{decision_at, deposit_of, ingests, references_in}
use Rattle.dep_decisions.specs.LookUps.{has_object, in_state, tag_at}
use Rattle.dep_decisions.specs.Rules.{document_rule, has_content, kind_rule, presence_rule, presence_refusal, refusal}
use Rattle.dep_decisions.specs.Effects.{appended, at, changed, effect, effect_of, filled, ingested_by}
use Rattle.dep_decisions.specs.declared.operation.Operation.{Operation}
use Rattle.dep_decisions.specs.declared.decision.Deposit.{Deposit}
use Rattle.dep_decisions.specs.declared.decision.Deposit.TheVariants as deposit
use Rattle.dep_decisions.specs.declared.decision.Decision.{Decision}
use Rattle.dep_decisions.specs.declared.decision.Decision.TheVariants.{Append, Complete, Replace}
use Rattle.dep_decisions.proofs.FoundInMaps.{at-some, unless-none}
use Rattle.dep_decisions.proofs.Passed.{content_passed, presence_passed}
use Rattle.dep_answers.specs.Answers.{Answer}
use Rattle.dep_answers.specs.Steps.{accepted_answer}
use Rattle.dep_answers.proofs.Made.{answered, decided, deposit_for, deposited, document_passed, it_is, kind_unless, left_by, taken, reported_kind}

-- ---- what becomes of an object

changed_at : (m : Numbered state.Object) (n : ℕ) (f : state.Object → state.Object) (o : state.Object) → finmap.get m n ≡ Some o
    → finmap.get (at m n f) n ≡ Some (f o)
changed_at m n f o there = ap (λ (x : Numbered state.Object). finmap.get x n) (at-some m n f o there) ∙ get-insert_same m n (f o)

module _ (config : Config) (s : State) (op : Operation) where
  appended_tag : (d : Deposit) (o : state.Object) → (appended s op.content d o).tag ≡ s.next.change
  appended_tag (deposit.Files new) o = refl
  appended_tag (deposit.Metadata texts) o = refl

  filled_tag : (d : Deposit) (b : Bool) → (filled s op.content d b).tag ≡ s.next.change
  filled_tag (deposit.Files new) b = refl
  filled_tag (deposit.Metadata texts) b = refl

  object_tag : (t : State) (n : ℕ) (o : state.Object) → finmap.get t.objects n ≡ Some o → o.tag ≡ s.next.change
      → tag_at t (Object n) ≡ Some s.next.change
  object_tag t n o there is = ap (option_map (λ (x : state.Object). x.tag)) there ∙ ap (λ (k : ℕ). Some k) is

  -- the tag of what was asked for, once this decision is carried out
  abbrev Reports : Resource → Decision → Type 0
  Reports r d = tag_at (effect_of s op.content d) r ≡ Some s.next.change

  completed : (n : ℕ) (o : state.Object) → finmap.get s.objects n ≡ Some o → Reports (Object n) (Complete n)
  completed n o there =
      object_tag (effect_of s op.content (Complete n)) n (ingested_by true (changed s o))
      (changed_at s.objects n (λ x. ingested_by true (changed s x)) o there) refl

  grown : (n : ℕ) (o : state.Object) → finmap.get s.objects n ≡ Some o → (d : Deposit) → Reports (Object n) (Append n d (ingests op))
  grown n o there d =
      object_tag (effect_of s op.content (Append n d (ingests op))) n (ingested_by (ingests op) (appended s op.content d o))
      (changed_at s.objects n (λ x. ingested_by (ingests op) (appended s op.content d x)) o there) (appended_tag d o)

  replaced : (n : ℕ) (o : state.Object) → finmap.get s.objects n ≡ Some o → (d : Deposit) → Reports (Object n) (Replace n d (ingests op))
  replaced n o there d =
      object_tag (effect_of s op.content (Replace n d (ingests op))) n (filled s op.content d (o.ingested || ingests op))
      (changed_at s.objects n (λ x. filled s op.content d (x.ingested || ingests op)) o there) (filled_tag d (o.ingested || ingests op))

  -- ---- what is asked for

  abbrev entries : Option (List Reference)
  entries = references_in config op

  -- what is asked for tells the number of the change
  abbrev IsAsked : Resource → Method → Type 0
  IsAsked r m = (d : Decision) × ((decision_at entries op r m ≡ Some d) × Reports r d)

  posted_kinds : (n : ℕ) (kind : Kind) → takes_kind (Object n) Post kind ≡ true → takes_kind Service Post kind ≡ true
  posted_kinds n (of.File name) e = refl
  posted_kinds n of.Metadata e = refl
  posted_kinds n of.References e = refl
  posted_kinds n (of.Opening o) e = absurd (cc)
  posted_kinds n (of.Segment k) e = absurd (cc)

  put_kinds : (n : ℕ) (kind : Kind) → takes_kind (Object n) Put kind ≡ true → takes_kind Service Post kind ≡ true
  put_kinds n (of.File name) e = refl
  put_kinds n of.Metadata e = refl
  put_kinds n of.References e = refl
  put_kinds n (of.Opening o) e = absurd (cc)
  put_kinds n (of.Segment k) e = absurd (cc)

  -- the deposit of a content that is taken
  deposit_is : (kind : Kind) → content_kind op ≡ Some kind → takes_kind Service Post kind ≡ true → document_rule config (in_state s) op ≡ None
      → (d : Deposit) × (deposit_of entries op ≡ Some d)
  deposit_is kind is takes e =
      let d = deposit_for config s op kind takes (document_passed config s op kind is e) in
      (d.0, deposited config s op kind d.0 is d.1)

  grown_or_completed : (n : ℕ) (o : state.Object) → finmap.get s.objects n ≡ Some o → op.target.resource ≡ Object n → op.target.method ≡ Post
      → kind_rule op ≡ None → document_rule config (in_state s) op ≡ None → (b : Bool) → is_completion op ≡ b → IsAsked (Object n) Post
  grown_or_completed n o there r m kinds document true is =
      (Complete n, (ap (λ (b : Bool). if b then Some (Complete n) else option_map (λ d. Append n d (ingests op)) (deposit_of entries op)) is, completed n o there))
  grown_or_completed n o there r m kinds document false is =
      let kind = kind_unless op is kinds in
      let takes = posted_kinds n kind.0 ((λ i. takes_kind (sym r i) (sym m i) kind.0) ∙ taken op kind.0 (λ i. kind_without (r i) (m i)) kind.1) in
      let d = deposit_is kind.0 kind.1 takes document in (
        Append n d.0 (ingests op),
        (
          ap (λ (b : Bool). if b then Some (Complete n) else option_map (λ d. Append n d (ingests op)) (deposit_of entries op)) is
              ∙ ap (option_map (λ (x : Deposit). Append n x (ingests op))) d.1,
          grown n o there d.0,
        ),
      )

  in_its_place : (n : ℕ) (o : state.Object) → finmap.get s.objects n ≡ Some o → op.target.resource ≡ Object n → op.target.method ≡ Put
      → kind_rule op ≡ None → document_rule config (in_state s) op ≡ None → IsAsked (Object n) Put
  in_its_place n o there r m kinds document =
      let kind = reported_kind op (λ i. may_complete (r i) (m i)) kinds in
      let takes = put_kinds n kind.0 ((λ i. takes_kind (sym r i) (sym m i) kind.0) ∙ taken op kind.0 (λ i. kind_without (r i) (m i)) kind.1) in
      let d = deposit_is kind.0 kind.1 takes document in
      (Replace n d.0 (ingests op), (ap (option_map (λ (x : Deposit). Replace n x (ingests op))) d.1, replaced n o there d.0))

  -- ---- objects

  object_there : (n : ℕ) → op.target.resource ≡ Object n → presence_rule (in_state s) op ≡ None → (o : state.Object) × (finmap.get s.objects n ≡ Some o)
  unfolding presence_rule
  object_there n r e = it_is (finmap.get s.objects n) (unless-none (has_object s n) NotFound (ap (presence_refusal (in_state s)) (sym r) ∙ e))

  reports : (r : Resource) (m : Method) → op.target.resource ≡ r → op.target.method ≡ m → IsAsked r m → tag_at (effect config s op) r ≡ Some s.next.change
  reports r m at by asked =
      ap (λ (t : State). tag_at t r) (left_by config s op asked.0 (decided config s op r m asked.0 at by asked.1.0)) ∙ asked.1.1

  pub posted_tag : (n : ℕ) → op.target.resource ≡ Object n → op.target.method ≡ Post → refusal config s op ≡ None
      → (accepted_answer config (effect config s op) op).tag ≡ Some s.next.change
  posted_tag n r m e =
      let passed = content_passed config (in_state s) op e (ap has_content m) in
      let o = object_there n r (presence_passed config (in_state s) op e) in
      ap (λ (a : Answer). a.tag) (answered config s op (Object n) Post r m (effect config s op))
      ∙ reports (Object n) Post r m (grown_or_completed n o.0 o.1 r m passed.kind passed.document (is_completion op) refl)

  pub put_tag : (n : ℕ) → op.target.resource ≡ Object n → op.target.method ≡ Put → refusal config s op ≡ None
      → (accepted_answer config (effect config s op) op).tag ≡ Some s.next.change
  put_tag n r m e =
      let passed = content_passed config (in_state s) op e (ap has_content m) in
      let o = object_there n r (presence_passed config (in_state s) op e) in
      ap (λ (a : Answer). a.tag) (answered config s op (Object n) Put r m (effect config s op))
      ∙ reports (Object n) Put r m (in_its_place n o.0 o.1 r m passed.kind passed.document)

pub reported_tag : (config : Config) (s : State) (op : Operation) (n : ℕ) → op.target.resource ≡ Object n
    → (op.target.method ≡ Post) ⊎ (op.target.method ≡ Put) → refusal config s op ≡ None
    → (accepted_answer config (effect config s op) op).tag ≡ Some s.next.change
reported_tag config s op n at (inl by) e = posted_tag config s op n at by e
reported_tag config s op n at (inr by) e = put_tag config s op n at by e
