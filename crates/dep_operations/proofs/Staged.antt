-- A request to an upload itself refers to none.
use Rattle.std.proofs.Common.{◌≡◌, ◌∙◌, ℕ, true, List, Option, Some, refl, sym, ap}
use Rattle.dep_types.specs.declared.config.Config.{Config}
use Rattle.dep_types.specs.declared.target.Resource.{Resource}
use Rattle.dep_types.specs.declared.target.Resource.TheVariants.{Service, Upload}
use Rattle.dep_types.specs.declared.target.Method.{Method}
use Rattle.dep_types.specs.declared.target.Method.TheVariants.{Get}
use Rattle.dep_fields.specs.declared.kind.Kind.TheVariants as of
use Rattle.dep_docs_in.specs.declared.reference.Reference.{Reference}
use Rattle.dep_decisions.specs.Decisions.{references_in}
use Rattle.dep_decisions.specs.Kinds.{content_kind, takes_kind}
use Rattle.dep_decisions.specs.declared.operation.Operation.{Operation}
use Rattle.dep_decisions.proofs.Taken.{taken}
use Rattle.dep_operations.specs.Views.{uploads_looked_up}

not_uploaded : (u : ℕ) (method : Method) → takes_kind (Upload u) method of.References ≡ true → ⊥
not_uploaded u Get h = cc h
not_uploaded u _ h = cc h

-- no upload takes a document of references
pub not_to_upload : (op : Operation) (u : ℕ) → content_kind op ≡ Some of.References → op.target.resource ≡ Upload u → ⊥
not_to_upload op u is at =
    not_uploaded u op.target.method (ap (λ (r : Resource). takes_kind r op.target.method of.References) (sym at) ∙ taken op of.References is)

elsewhere : (resource : Resource) (method : Method) (refs : Option (List Reference)) → takes_kind resource method of.References ≡ true
    → uploads_looked_up resource refs ≡ uploads_looked_up Service refs
elsewhere (Upload u) method refs h = absurd (not_uploaded u method h)
elsewhere _ method refs h = refl

pub by_reference_elsewhere : (config : Config) (op : Operation) → content_kind op ≡ Some of.References
    → uploads_looked_up op.target.resource (references_in config op) ≡ uploads_looked_up Service (references_in config op)
by_reference_elsewhere config op is = elsewhere op.target.resource op.target.method (references_in config op) (taken op of.References is)
