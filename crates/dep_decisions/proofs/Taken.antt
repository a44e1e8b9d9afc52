-- What a request has whose content is of a kind: a target that takes it, and a method with a content; and it completes no object.
use Rattle.std.proofs.Common.{◌≡◌, ◌∙◌, ◌&&◌, Bool, true, false, Some, None, inl, inr, refl, sym, ap}
use Rattle.dep_types.specs.declared.target.Resource.{Resource}
use Rattle.dep_types.specs.declared.target.Resource.TheVariants.{Service, Object, Metadata}
use Rattle.dep_types.specs.declared.target.Method.{Method}
use Rattle.dep_types.specs.declared.target.Method.TheVariants.{Get, Post, Put}
use Rattle.dep_params.proofs.Runs.{and_both, chosen}
use Rattle.dep_fields.specs.declared.field.Field.{Field}
use Rattle.dep_fields.specs.declared.field.Field.TheVariants.{Absent, Bad, Value}
use Rattle.dep_fields.specs.declared.kind.Kind.{Kind}
use Rattle.dep_fields.specs.declared.kind.Kind.TheVariants as of
use Rattle.dep_decisions.specs.Kinds.{is_absent, is_completion, kind_by, content_kind, kind_without, may_complete, may_hold, takes_kind}
use Rattle.dep_decisions.specs.Rules.{has_content}
use Rattle.dep_decisions.specs.declared.operation.Operation.{Operation}

taken_without : (resource : Resource) (method : Method) (k : Kind) → kind_without resource method ≡ Some k → takes_kind resource method k ≡ true
taken_without (Metadata n) Put k e = let same : k ≡ of.Metadata = cc in ap (takes_kind (Metadata n) Put) same
taken_without _ _ k e = cc e

taken_by : (op : Operation) (field : Field Kind) (k : Kind) → kind_by op field ≡ Some k → takes_kind op.target.resource op.target.method k ≡ true
taken_by op (Value j) k e = elim (chosen (takes_kind op.target.resource op.target.method j && may_hold j op.content) (Some j) None (Some k) e) [
  | inl is ↦
      let same : j ≡ k = cc (is.1) in
      ap (takes_kind op.target.resource op.target.method) (sym same) ∙ (and_both (takes_kind op.target.resource op.target.method j) (may_hold j op.content) is.0).0
  | inr other ↦ cc (other.1)
]
taken_by op Bad k e = cc e
taken_by op Absent k e = taken_without op.target.resource op.target.method k e

-- the target takes it
pub taken : (op : Operation) (k : Kind) → content_kind op ≡ Some k → takes_kind op.target.resource op.target.method k ≡ true
unfolding content_kind
taken op k e = taken_by op op.fields.disposition k e

takes_content : (resource : Resource) (method : Method) (k : Kind) → takes_kind resource method k ≡ true → has_content method ≡ true
takes_content Service Get k e = cc e
takes_content _ Post k e = refl
takes_content _ Put k e = refl
takes_content _ _ k e = cc e

-- the method has a content
pub content_taken : (op : Operation) (k : Kind) → content_kind op ≡ Some k → has_content op.target.method ≡ true
content_taken op k e = takes_content op.target.resource op.target.method k (taken op k e)

uncompleted_without : (resource : Resource) (method : Method) (k : Kind) → kind_without resource method ≡ Some k → may_complete resource method ≡ false
uncompleted_without (Object n) method k e = cc e
uncompleted_without _ _ k e = refl

and_none : (a : Bool) → (a && false) ≡ false
and_none true = refl
and_none false = refl

and_neither : (a b c d : Bool) → (a && b) ≡ false → (a && b && c && d) ≡ false
and_neither a b c d e = ap (λ (x : Bool). x && c && d) e

uncompleted_by : (op : Operation) (field : Field Kind) (k : Kind) → kind_by op field ≡ Some k → (may_complete op.target.resource op.target.method && is_absent field) ≡ false
uncompleted_by op (Value j) k e = and_none (may_complete op.target.resource op.target.method)
uncompleted_by op Bad k e = cc e
uncompleted_by op Absent k e = ap (λ (b : Bool). b && true) (uncompleted_without op.target.resource op.target.method k e)

-- no object is completed
pub uncompleted : (op : Operation) (k : Kind) → content_kind op ≡ Some k → is_completion op ≡ false
unfolding is_completion content_kind
uncompleted op k e =
    and_neither (may_complete op.target.resource op.target.method) (is_absent op.fields.disposition) _ _ (uncompleted_by op op.fields.disposition k e)
