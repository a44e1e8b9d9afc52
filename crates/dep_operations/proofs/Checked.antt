-- What is known after the rules on a content.
use Rattle.std.proofs.Common.{◌≡◌, ◌∙◌, Bool, true, false, [], ◌∷◌, Option, Some, None, option_and_then, if◌then◌else◌, refl, sym, ap}
use Rattle.std.specs.Prelude.{IfSome}
use Rattle.dep_types.specs.Maps.{first_of}
use Rattle.dep_types.specs.declared.config.Config.{Config}
use Rattle.dep_types.specs.declared.refusal.Refusal.{Refusal}
use Rattle.dep_fixity.specs.Fixity.{digests_of, promises}
use Rattle.dep_fixity.specs.declared.field.DigestList.{DigestList}
use Rattle.dep_fields.specs.declared.field.Field.{Field}
use Rattle.dep_fields.specs.declared.field.Field.TheVariants.{Absent, Bad, Value}
use Rattle.dep_fields.specs.declared.kind.Kind.{Kind}
use Rattle.dep_fields.specs.declared.kind.Kind.TheVariants as of
use Rattle.dep_decisions.specs.Kinds.{content_kind}
use Rattle.dep_decisions.specs.Laws.{refusal_before_room}
use Rattle.dep_decisions.specs.Rules.{access_refusal, content_by, content_refusal, digest_rule, digests_if_promised, document_refusal, document_rule, fields_refusal, has_content, size_refusal, size_rule}
use Rattle.dep_decisions.specs.declared.operation.Operation.{Operation}
use Rattle.dep_decisions.proofs.Taken.{content_taken}
use Rattle.dep_operations.specs.Checks.{IsCheckedBy}
use Rattle.dep_operations.specs.Seen.{in_view}
use Rattle.dep_operations.specs.declared.order.Checked.TheVariants.{Passed}
use Rattle.dep_operations.specs.declared.view.View.{View}

of_content : (op : Operation) (needed : Bool) → IfSome (if needed then Some (digests_of op.content) else None) (λ d. d ≡ digests_of op.content)
of_content op true = refl
of_content op false = tt

-- the digests that are promised are those of the content
pub promised_are : (op : Operation) (f : Field DigestList) → IfSome (digests_if_promised op f) (λ d. d ≡ digests_of op.content)
promised_are op Absent = tt
promised_are op Bad = tt
promised_are op (Value list) = of_content op (promises list)

-- the rules on a content, by what each comes to
pub content_reported : (config : Config) (view : View) (op : Operation) (fields digest document size : Option Refusal)
    → fields ≡ fields_refusal op → digest ≡ digest_rule op → document ≡ document_rule config (in_view view) op → size ≡ size_rule config (in_view view) op
    → content_by config (in_view view) op ≡ first_of (fields ∷ digest ∷ document ∷ size ∷ [])
unfolding content_by
content_reported config view op fields digest document size a b c d = (λ i. first_of (sym a i ∷ sym b i ∷ sym c i ∷ sym d i ∷ []))

single : (m : Option Refusal) → first_of (m ∷ []) ≡ m
single None = refl
single (Some r) = refl

document_for : (config : Config) (view : View) (op : Operation) (r : Refusal) (o : Option Kind)
    → option_and_then (size_refusal config (in_view view) op) o ≡ Some r → option_and_then (document_refusal config (in_view view) op) o ≡ None
document_for config view op r (Some of.Metadata) e = cc e
document_for config view op r (Some of.References) e = cc e
document_for config view op r _ e = refl

-- what has a size that is refused has no document
pub no_document : (config : Config) (view : View) (op : Operation) (r : Refusal) → size_rule config (in_view view) op ≡ Some r → document_rule config (in_view view) op ≡ None
unfolding size_rule document_rule
no_document config view op r e = document_for config view op r (content_kind op) e

-- where the other rules on a content pass, it is the rule on the document
pub document_left : (config : Config) (view : View) (op : Operation) → None ≡ fields_refusal op → None ≡ digest_rule op → None ≡ size_rule config (in_view view) op
    → document_rule config (in_view view) op ≡ content_by config (in_view view) op
document_left config view op fields digest size =
    sym (content_reported config view op None None (document_rule config (in_view view) op) None fields digest refl size ∙ last (document_rule config (in_view view) op))
  where
    last : (m : Option Refusal) → first_of (m ∷ None ∷ []) ≡ m
    last None = refl
    last (Some r) = refl

-- where the rules on who asks pass, those on a content are left
pub content_left : (config : Config) (view : View) (op : Operation) → access_refusal config (in_view view) op ≡ None → has_content op.target.method ≡ true
    → content_by config (in_view view) op ≡ refusal_before_room config (in_view view) op
unfolding content_refusal
content_left config view op access has =
    sym (
    ap (λ a. first_of (a ∷ content_refusal config (in_view view) op ∷ [])) access
    ∙ ap (λ b. first_of ((if b then content_by config (in_view view) op else None) ∷ [])) has
    ∙ single (content_by config (in_view view) op)
    )

-- and without a content nothing
pub nothing_left : (config : Config) (view : View) (op : Operation) → access_refusal config (in_view view) op ≡ None → has_content op.target.method ≡ false
    → IsCheckedBy (refusal_before_room config (in_view view) op) op (Passed (record { metadata = None; digests = None }))
unfolding content_refusal
nothing_left config view op access none = (
  ap (λ a. first_of (a ∷ content_refusal config (in_view view) op ∷ [])) access
      ∙ ap (λ b. first_of ((if b then content_by config (in_view view) op else None) ∷ [])) none,
  record { metadata = λ is. let has = content_taken op of.Metadata is in absurd (cc (has, none)); digests = tt },
)
