-- What is ruled by the uploads that references name, before any digest is taken.
use Rattle.std.proofs.Common.{◌≡◌, ◌∙◌, true, false, List, Option, Some, None, is_some, option_map, IfSome, refl, sym, ap}
use Rattle.dep_types.specs.State.{State}
use Rattle.dep_types.specs.declared.config.Config.{Config}
use Rattle.dep_types.specs.declared.refusal.Refusal.{Refusal}
use Rattle.dep_types.specs.declared.target.Resource.TheVariants.{Service}
use Rattle.dep_fields.specs.declared.kind.Kind.TheVariants as of
use Rattle.dep_docs_in.specs.declared.reference.Reference.{Reference}
use Rattle.dep_docs_in.specs.Documents.{references_read}
use Rattle.dep_decisions.specs.Decisions.{references_by, references_in}
use Rattle.dep_decisions.specs.Kinds.{content_kind}
use Rattle.dep_decisions.specs.Purposes.{kind_for}
use Rattle.dep_decisions.specs.declared.purpose.Purpose.{Purpose}
use Rattle.dep_decisions.specs.declared.purpose.Purpose.TheVariants.{References}
use Rattle.dep_decisions.specs.Laws.{refusal_before_room, uploads_refusal}
use Rattle.dep_decisions.specs.LookUps.{in_state, without_entries}
use Rattle.dep_decisions.specs.declared.operation.Operation.{Operation}
use Rattle.dep_decisions.proofs.BeforeDigests.{refused_before, refused_before_entries}
use Rattle.dep_decisions.proofs.ByUploads.{refused_by_uploads}
use Rattle.dep_decisions.proofs.Deposited.{kind_is}
use Rattle.dep_operations.specs.Rulings.{RefusesUndigested, RefusesUnnamed}
use Rattle.dep_operations.specs.Views.{touched_by, uploads_looked_up, uploads_named}
use Rattle.dep_operations.specs.declared.view.View.{View}
use Rattle.dep_operations.proofs.Staged.{by_reference_elsewhere}
use Rattle.dep_views.specs.Seen.{loaded_undigested}
use Rattle.dep_views.specs.declared.view.LoadedView.{LoadedView}
use Rattle.dep_views.proofs.Hashed.{seen_unnamed, seen_whole}
use Rattle.dep_requests.specs.Performing.{IsLoadedFor, IsLookedUp}

found : {X : Type 0} (o : Option X) → is_some o ≡ true → (x : X) × (o ≡ Some x)
found (Some x) e = (x, refl)
found None e = cc e

no_refusal : (o : Option Refusal) → is_some o ≡ false → o ≡ None
no_refusal None e = refl
no_refusal (Some r) e = cc e

module _ (config : Config) (s : State) (op : Operation) (loaded : LoadedView) where
  -- what was seen but for digests, once the rules before them have told
  pub looked_on : (o : Option Refusal) → loaded ≡ loaded_undigested s op.content (touched_by config op) → RefusesUndigested config loaded.view op o
      → IsLookedUp config s op loaded o
  looked_on o seen reported =
      let view = ap (λ (l : LoadedView). l.view) seen in
      record {
        clock = ap (λ (v : View). v.clock) view;
        refused = λ r is. refused_before config (in_state s) op r (sym (reported s view) ∙ is);
        passed = λ none. seen;
      }

  module _ (same : IsLoadedFor config s op loaded) where
    clock_seen : loaded.view.clock ≡ s.clock
    clock_seen = ap (λ (l : LoadedView). l.view.clock) same

    -- without references nothing is looked up
    pub looked_at_none : is_some loaded.view.references ≡ false → IsLookedUp config s op loaded None
    looked_at_none none = record {
      clock = clock_seen;
      refused = λ r is. cc is;
      passed = λ passed. seen_whole s op.content (touched_by config op) loaded same none;
    }

    module _ (some : is_some loaded.view.references ≡ true) (early : Option Refusal) (reported : RefusesUnnamed config loaded.view op early) where
      in_op : (refs : List Reference) × (references_in config op ≡ Some refs)
      in_op = found (references_in config op) (ap is_some (sym (ap (λ (l : LoadedView). l.view.references) same)) ∙ some)

      kind : content_kind op ≡ Some of.References
      kind = kind_is config op in_op.0 in_op.1

      early_is : early ≡ refusal_before_room config (without_entries (in_state s)) op
      early_is = reported s kind (seen_unnamed s op.content (touched_by config op) loaded same some)

      pub looked_early : is_some early ≡ true → IsLookedUp config s op loaded early
      looked_early refuses =
          let it = found early refuses in
          record {
            clock = clock_seen;
            refused = λ r is. refused_before_entries config (in_state s) op r (sym early_is ∙ is);
            passed = λ none. let both = sym it.1 ∙ none in absurd (cc both);
          }

      uploads_are : loaded.uploads ≡ uploads_named in_op.0
      uploads_are =
          ap (λ (l : LoadedView). l.uploads) same
          ∙ by_reference_elsewhere config op kind
          ∙ ap (uploads_looked_up Service) in_op.1

      pub looked_refused : is_some early ≡ false → (r : Refusal) → uploads_refusal (in_state s) loaded.uploads ≡ Some r → IsLookedUp config s op loaded (Some r)
      looked_refused passes r refuses =
          let is = refused_by_uploads config s op in_op.0 r kind in_op.1 (sym early_is ∙ no_refusal early passes) (ap (uploads_refusal (in_state s)) (sym uploads_are) ∙ refuses) in
          record {
            clock = clock_seen;
            refused = λ q e. is ∙ e;
            passed = λ none. cc none;
          }

-- the references in a content that is for references
pub named_in : (config : Config) (op : Operation) (purpose : Option Purpose) → option_map kind_for purpose ≡ content_kind op → purpose ≡ Some References
    → references_in config op ≡ references_read config.base op.content
unfolding references_in
named_in config op purpose kind is = ap (references_by config op) (sym kind ∙ ap (option_map kind_for) is)

-- where some are, they are these
pub said : {X : Type 0} (o : Option X) {read : Option X} → o ≡ read → IfSome o (λ x. read ≡ Some x)
said None e = tt
said (Some x) e = sym e
