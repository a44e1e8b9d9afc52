-- The rules on references, by what each comes to.
use Rattle.std.proofs.Common.{◌≡◌, ◌∙◌, Bool, List, [], ◌∷◌, Option, Some, None, refl, ap}
use Rattle.dep_types.specs.Maps.{first_of}
use Rattle.dep_types.specs.declared.refusal.Refusal.{Refusal}
use Rattle.dep_types.specs.declared.refusal.Refusal.TheVariants.{BadRequest}
use Rattle.dep_docs_in.specs.declared.reference.Reference.{Reference}
use Rattle.dep_decisions.specs.Rules.{each, entries_refusal, occurs_twice, when}
use Rattle.dep_operations.specs.Rules.{entry_refusal, rule_of}
use Rattle.dep_operations.specs.Seen.{entries_seen, in_view}
use Rattle.dep_operations.specs.Views.{uploads_named}
use Rattle.dep_operations.specs.declared.references.EntryRule.TheVariants.{PointsAtUpload, IsBinary}
use Rattle.dep_operations.specs.declared.references.UploadRule.{UploadRule}
use Rattle.dep_operations.specs.declared.references.UploadRule.TheVariants.{IsThere, IsWhole, HasLength, HasDigests}
use Rattle.dep_operations.specs.declared.view.UploadView.{UploadView}
use Rattle.dep_operations.specs.declared.view.View.{View}

pub one : (m : Option Refusal) → first_of (m ∷ []) ≡ m
one None = refl
one (Some r) = refl

pub entries_reported : (view : View) (refs : List Reference) (views : List UploadView) (twice : Bool) (elsewhere other there whole long same : Option Refusal)
    → views ≡ view.uploads → elsewhere ≡ each (entry_refusal PointsAtUpload) refs → other ≡ each (entry_refusal IsBinary) refs → twice ≡ occurs_twice (uploads_named refs)
    → there ≡ each (rule_of IsThere) (entries_seen refs views) → whole ≡ each (rule_of IsWhole) (entries_seen refs views)
    → long ≡ each (rule_of HasLength) (entries_seen refs views) → same ≡ each (rule_of HasDigests) (entries_seen refs views)
    → first_of (elsewhere ∷ other ∷ when twice BadRequest ∷ there ∷ whole ∷ long ∷ same ∷ []) ≡ entries_refusal (in_view view) refs
unfolding entries_refusal
entries_reported view refs views twice elsewhere other there whole long same is a b c d e f g =
    let of = λ (rule : UploadRule). ap (λ us. each (rule_of rule) (entries_seen refs us)) is in
    let there_is = d ∙ of IsThere in
    let whole_is = e ∙ of IsWhole in
    let long_is = f ∙ of HasLength in
    let same_is = g ∙ of HasDigests in
    (λ i. first_of (a i ∷ b i ∷ when (c i) BadRequest ∷ there_is i ∷ whole_is i ∷ long_is i ∷ same_is i ∷ []))
