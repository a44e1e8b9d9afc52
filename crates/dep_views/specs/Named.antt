-- Uploads that references name, as they are looked up.
use Rattle.std.specs.Prelude.{◌≡◌, ℕ, true, List, Some, None, map, unwrap_or}
use Rattle.dep_types.specs.State.{State}
use Rattle.dep_types.specs.declared.refusal.Refusal.{Refusal}
use Rattle.dep_decisions.specs.Laws.{uploads_refusal}
use Rattle.dep_decisions.specs.LookUps.{in_state}
use Rattle.dep_decisions.specs.Rules.{each, upload_refusal}
use Rattle.dep_operations.specs.Views.{upload_undigested}
use Rattle.dep_views.specs.declared.named.NamedUploads.{NamedUploads}
use Rattle.dep_views.specs.declared.named.NamedUploads.TheVariants.{Whole, Refused}

-- refused for the first that isn't there, or else for one that lacks a segment; or known, each in its place
abbrev pub AreNamed : State → List ℕ → NamedUploads → Type 0
AreNamed s us (Refused r) = uploads_refusal (in_state s) us ≡ Some r
AreNamed s us (Whole views) =
    (uploads_refusal (in_state s) us ≡ None) × (views ≡ map (upload_undigested true s) us)

-- refused for the first of these that isn't there, or else for what another one lacks
abbrev pub refused_lacking : State → List ℕ → (lacking : Refusal) → NamedUploads
refused_lacking s us lacking = Refused (unwrap_or (each (upload_refusal (in_state s)) us) lacking)
