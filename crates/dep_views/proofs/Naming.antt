-- The uploads that references name, one entry after another.
use Rattle.std.proofs.Common.{◌≡◌, ◌∙◌, ℕ, ◌<◌, ◌+◌, List, [], ◌∷◌, ◌++◌, take, length, get_or, sym, ap}
use Rattle.std.proofs.lemmas.List.{take_more}
use Rattle.std.proofs.lemmas.List.Elements.{filter_map-append}
use Rattle.std.specs.List.{cons_option}
use Rattle.dep_docs_in.specs.declared.reference.Reference.{Reference}
use Rattle.dep_decisions.specs.Decisions.{upload_number}
use Rattle.dep_operations.specs.Views.{uploads_named}

-- the uploads named up to one more entry
pub named_more : (refs : List Reference) (i : ℕ) (r : Reference) → i < length refs → r ≡ get_or refs i r
    → uploads_named (take (i + 1) refs) ≡ uploads_named (take i refs) ++ cons_option (upload_number r.target) []
named_more refs i r h is =
    ap uploads_named (take_more refs i r h)
    ∙ filter_map-append (λ (r : Reference). upload_number r.target) (take i refs) (get_or refs i r ∷ [])
    ∙ ap (λ (x : Reference). uploads_named (take i refs) ++ cons_option (upload_number x.target) []) (sym is)
