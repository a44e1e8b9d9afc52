-- What an accepted request made is what it is told.
use Rattle.std.proofs.Common.{◌≡◌, ◌∙◌, ℕ, ◌+◌, ◌-◌, ◌&&◌, ◌||◌, Bool, true, false, List, [], Option, Some, None, is_some, unwrap_or, refl, sym, ap, arith, nat_cmp, map as each, if◌then◌else◌}
use Rattle.std.specs.Option.{option_map, option_and_then}
use Rattle.std.specs.FinMap as finmap
use Rattle.std.proofs.lemmas.List.{nil_from_length}
use Rattle.dep_types.specs.State as state
use Rattle.dep_types.specs.State.{State, Texts}
use Rattle.dep_types.specs.Rows.{object_view, upload_row}
use Rattle.dep_types.specs.declared.config.Config.{Config}
use Rattle.dep_types.specs.declared.refusal.Refusal.TheVariants.{BadRequest, ContentMalformed}
use Rattle.dep_types.specs.declared.target.Resource.{Resource}
use Rattle.dep_types.specs.declared.target.Resource.TheVariants.{Service, Staging}
use Rattle.dep_types.specs.declared.target.Method.{Method}
use Rattle.dep_types.specs.declared.target.Method.TheVariants.{Post}
use Rattle.dep_types.proofs.Kept.{get-insert_same}
use Rattle.dep_fields.specs.declared.field.Field.{Field}
use Rattle.dep_fields.specs.declared.field.Field.TheVariants.{Absent, Bad, Value}
use Rattle.dep_fields.specs.declared.kind.Kind.{Kind}
use Rattle.dep_fields.specs.declared.kind.Kind.TheVariants as of
use Rattle.dep_fields.specs.declared.kind.Opening.{Opening}
use Rattle.dep_docs_in.specs.Documents.{metadata_read}
use Rattle.dep_docs_in.specs.declared.reference.Reference.{Reference}
use Rattle.dep_docs_out.specs.Documents.{status_document, object_url, upload_document, upload_url}
use Rattle.dep_decisions.specs.Kinds.{content_kind, kind_by, kind_without, is_completion, may_complete, may_hold, takes_kind}
use Rattle.dep_decisions.specs.Decisions.{decision, decision_at, decision_with, deposit_by, deposit_of, ingests, opened, references_in, referred_files}
use Rattle.dep_decisions.specs.LookUps.{in_state}
use Rattle.dep_decisions.specs.Rules.{document_refusal, document_rule, has_content, kind_rule, references_refusal, refusal}
use Rattle.dep_decisions.specs.Effects.{effect, effect_of, filled, fresh}
use Rattle.dep_decisions.specs.declared.operation.Operation.{Operation}
use Rattle.dep_decisions.specs.declared.decision.Deposit.{Deposit}
use Rattle.dep_decisions.specs.declared.decision.Deposit.TheVariants as deposit
use Rattle.dep_decisions.specs.declared.decision.Decision.{Decision}
use Rattle.dep_decisions.specs.declared.decision.Decision.TheVariants.{Show, Create, Open}
use Rattle.dep_decisions.proofs.FoundInMaps.{unless-none}
use Rattle.dep_decisions.proofs.Passed.{content_passed}
use Rattle.dep_answers.specs.Answers.{Document, answer}
use Rattle.dep_answers.specs.Replies.{answer_to, created_answer, opened_answer}
use Rattle.dep_answers.specs.Steps.{accepted_answer}
use Rattle.dep_answers.specs.Laws.{IsReportedObject, IsReportedUpload}

-- ---- kinds

chosen_kind : (b : Bool) (k kind : Kind) → (if b then Some k else None) ≡ Some kind → (b ≡ true) × (k ≡ kind)
chosen_kind true k kind e = (refl, cc)
chosen_kind false k kind e = absurd (cc)

front_true : (a b : Bool) → (a && b) ≡ true → a ≡ true
front_true true b e = refl
front_true false b e = e

-- a kind that a resource takes only where Content-Disposition tells it
taken_by : (op : Operation) (field : Field Kind) (kind : Kind) → kind_without op.target.resource op.target.method ≡ None
    → kind_by op field ≡ Some kind → takes_kind op.target.resource op.target.method kind ≡ true
taken_by op (Value k) kind without e =
    let is = chosen_kind (takes_kind op.target.resource op.target.method k && may_hold k op.content) k kind e in
    ap (takes_kind op.target.resource op.target.method) (sym is.1)
    ∙ front_true (takes_kind op.target.resource op.target.method k) (may_hold k op.content) is.0
taken_by op Bad kind without e = absurd (cc)
taken_by op Absent kind without e = absurd (let none : None ≡ Some kind = sym without ∙ e in cc)

pub taken : (op : Operation) (kind : Kind) → kind_without op.target.resource op.target.method ≡ None → content_kind op ≡ Some kind
    → takes_kind op.target.resource op.target.method kind ≡ true
unfolding content_kind
taken op kind without e = taken_by op op.fields.disposition kind without e

either_true : (a b : Bool) → (a || b) ≡ true → b ≡ false → a ≡ true
either_true true b e n = refl
either_true false b e n = absurd (cc)

pub it_is : {X : Type 0} (o : Option X) → is_some o ≡ true → (x : X) × (o ≡ Some x)
it_is None e = absurd (cc)
it_is (Some x) e = (x, refl)

none_of : (a b c d : Bool) → a ≡ false → (a && b && c && d) ≡ false
none_of false b c d e = refl
none_of true b c d e = absurd (cc)

no_completion : (op : Operation) → may_complete op.target.resource op.target.method ≡ false → is_completion op ≡ false
unfolding is_completion
no_completion op e = none_of (may_complete op.target.resource op.target.method) _ _ _ e

pub kind_unless : (op : Operation) → is_completion op ≡ false → kind_rule op ≡ None → (kind : Kind) × (content_kind op ≡ Some kind)
unfolding kind_rule
kind_unless op none e =
    it_is (content_kind op) (either_true (is_some (content_kind op)) (is_completion op) (unless-none (is_some (content_kind op) || is_completion op) BadRequest e) none)

pub reported_kind : (op : Operation) → may_complete op.target.resource op.target.method ≡ false → kind_rule op ≡ None
    → (kind : Kind) × (content_kind op ≡ Some kind)
reported_kind op whole e = kind_unless op (no_completion op whole) e

back : (n : ℕ) → (n + 1) - 1 ≡ n
back n = omega arith

no_keys : finmap.keys (finmap.empty {X = List ℕ} {R = nat_cmp}) ≡ []
no_keys = ap (λ (l : List (ℕ × List ℕ)). each (λ e. e.0) l) (nil_from_length (finmap.entries finmap.empty) (sym (finmap.len-entries finmap.empty) ∙ finmap.len-empty nat_cmp (List ℕ)))

-- ---- deposits

module _ (config : Config) (s : State) (op : Operation) where
  abbrev refs : Option (List Reference)
  refs = references_in config op

  pub document_passed : (kind : Kind) → content_kind op ≡ Some kind → document_rule config (in_state s) op ≡ None → document_refusal config (in_state s) op kind ≡ None
  unfolding document_rule
  document_passed kind is e = ap (option_and_then (document_refusal config (in_state s) op)) (sym is) ∙ e

  references_there : (o : Option (List Reference)) → references_refusal (in_state s) o ≡ None → (entries : List Reference) × (o ≡ Some entries)
  references_there None e = absurd (cc)
  references_there (Some entries) e = (entries, refl)

  pub deposit_for : (kind : Kind) → takes_kind Service Post kind ≡ true → document_refusal config (in_state s) op kind ≡ None
      → (d : Deposit) × (deposit_by refs op kind ≡ Some d)
  deposit_for (of.File name) takes e = (_, refl)
  deposit_for of.Metadata takes e =
      let read = it_is (metadata_read op.content) (unless-none (is_some (metadata_read op.content)) ContentMalformed e) in
      (deposit.Metadata read.0, ap (option_map (λ (texts : Texts). deposit.Metadata texts)) read.1)
  deposit_for of.References takes e =
      let there = references_there refs e in
      (deposit.Files (referred_files op there.0), ap (option_map (λ (entries : List Reference). deposit.Files (referred_files op entries))) there.1)
  deposit_for (of.Opening o) takes e = absurd (cc)
  deposit_for (of.Segment k) takes e = absurd (cc)

  pub deposited : (kind : Kind) (d : Deposit) → content_kind op ≡ Some kind → deposit_by refs op kind ≡ Some d → deposit_of refs op ≡ Some d
  unfolding deposit_of
  deposited kind d is e = ap (option_and_then (deposit_by refs op)) is ∙ e

  pub decided : (r : Resource) (m : Method) (d : Decision) → op.target.resource ≡ r → op.target.method ≡ m → decision_at refs op r m ≡ Some d
      → decision config op ≡ d
  unfolding decision_with
  decided r m d at by e = (λ i. unwrap_or (decision_at refs op (at i) (by i)) Show) ∙ ap (λ (o : Option Decision). unwrap_or o Show) e

  pub left_by : (d : Decision) → decision config op ≡ d → effect config s op ≡ effect_of s op.content d
  unfolding effect
  left_by d e = ap (effect_of s op.content) e

  pub answered : (r : Resource) (m : Method) → op.target.resource ≡ r → op.target.method ≡ m → (t : State)
      → accepted_answer config t op ≡ answer_to config t r m
  unfolding accepted_answer
  answered r m at by t = λ i. answer_to config t (at i) (by i)

  -- ---- objects

  filled_tag : (d : Deposit) → (filled s op.content d (ingests op)).tag ≡ s.next.change
  filled_tag (deposit.Files new) = refl
  filled_tag (deposit.Metadata texts) = refl

  reported_object_at : (d : Deposit) → op.target.resource ≡ Service → op.target.method ≡ Post → decision config op ≡ Create d (ingests op)
      → IsReportedObject config s op
  reported_object_at d at by is =
      let o = filled s op.content d (ingests op) in
      let after = effect_of s op.content (Create d (ingests op)) in
      let there : finmap.get after.objects s.next.object ≡ Some o = get-insert_same s.objects s.next.object o in
      let left : effect config s op ≡ after = left_by (Create d (ingests op)) is in
      record {
        object = o;
        there = ap (λ (t : State). finmap.get t.objects s.next.object) left ∙ there;
        tag = filled_tag d;
        answer = ap (λ (t : State). accepted_answer config t op) left
            ∙ answered Service Post at by after
            ∙ ap (created_answer config after) (back s.next.object)
            ∙ (λ i. answer 201 (option_map (λ (x : state.Object). Document (status_document config (object_view s.next.object x))) (there i))
            (option_map (λ (x : state.Object). x.tag) (there i)) (option_map (λ (x : state.Object). object_url config s.next.object) (there i)))
            ∙ ap (λ (n : ℕ). answer 201 (Some (Document (status_document config (object_view s.next.object o)))) (Some n) (Some (object_url config s.next.object))) (filled_tag d);
      }

  pub reported_object : op.target.resource ≡ Service → op.target.method ≡ Post → refusal config s op ≡ None → IsReportedObject config s op
  reported_object at by e =
      let passed = content_passed config (in_state s) op e (ap has_content by) in
      let kind = reported_kind op (λ i. may_complete (at i) (by i)) passed.kind in
      let takes = (λ i. takes_kind (sym at i) (sym by i) kind.0) ∙ taken op kind.0 (λ i. kind_without (at i) (by i)) kind.1 in
      let d = deposit_for kind.0 takes (document_passed kind.0 kind.1 passed.document) in
      reported_object_at d.0 at by
      (decided Service Post (Create d.0 (ingests op)) at by (ap (option_map (λ (x : Deposit). Create x (ingests op))) (deposited kind.0 d.0 kind.1 d.1)))

  -- ---- uploads

  opening_for : (kind : Kind) → takes_kind Staging Post kind ≡ true → (o : Opening) × (opened kind ≡ Some (Open o))
  opening_for (of.Opening o) takes = (o, refl)
  opening_for (of.File name) takes = absurd (cc)
  opening_for of.Metadata takes = absurd (cc)
  opening_for of.References takes = absurd (cc)
  opening_for (of.Segment k) takes = absurd (cc)

  reported_upload_at : (o : Opening) → op.target.resource ≡ Staging → op.target.method ≡ Post → decision config op ≡ Open o
      → IsReportedUpload config s op
  reported_upload_at o at by is =
      let u = fresh s o in
      let after = effect_of s op.content (Open o) in
      let there : finmap.get after.uploads s.next.upload ≡ Some u = get-insert_same s.uploads s.next.upload u in
      let left : effect config s op ≡ after = left_by (Open o) is in
      record {
        opening = o;
        there = ap (λ (t : State). finmap.get t.uploads s.next.upload) left ∙ there;
        answer = ap (λ (t : State). accepted_answer config t op) left
            ∙ answered Staging Post at by after
            ∙ ap (opened_answer config after) (back s.next.upload)
            ∙ (λ i. answer 201 (option_map (λ (x : state.Upload). Document (upload_document config (upload_row s.next.upload x) (finmap.keys x.segments))) (there i))
            None (option_map (λ (x : state.Upload). upload_url config s.next.upload) (there i)))
            ∙ ap (λ (l : List ℕ). answer 201 (Some (Document (upload_document config (upload_row s.next.upload u) l))) None (Some (upload_url config s.next.upload))) no_keys;
      }

  pub reported_upload : op.target.resource ≡ Staging → op.target.method ≡ Post → refusal config s op ≡ None → IsReportedUpload config s op
  reported_upload at by e =
      let kind = reported_kind op (λ i. may_complete (at i) (by i)) (content_passed config (in_state s) op e (ap has_content by)).kind in
      let takes = (λ i. takes_kind (sym at i) (sym by i) kind.0) ∙ taken op kind.0 (λ i. kind_without (at i) (by i)) kind.1 in
      let o = opening_for kind.0 takes in
      reported_upload_at o.0 at by
      (decided Staging Post (Open o.0) at by (ap (option_and_then opened) kind.1 ∙ o.1))
