-- What is asked for, by the target and by the purpose of the content.
use Rattle.std.proofs.Common.{◌≡◌, ◌<◌, ◌+◌, ◌∙◌, ℕ, List, [], ◌∷◌, ◌++◌, take, length, get_or, Option, refl, sym, ap}
use Rattle.std.proofs.lemmas.List.{take_more}
use Rattle.std.proofs.lemmas.List.Elements.{filter_map-append}
use Rattle.std.specs.List.{cons_option}
use Rattle.dep_types.specs.declared.target.Resource.{Resource}
use Rattle.dep_types.specs.declared.target.Resource.TheVariants.{Service}
use Rattle.dep_types.specs.declared.target.Method.TheVariants.{Get, Head}
use Rattle.dep_docs_in.specs.declared.reference.Reference.{Reference}
use Rattle.dep_decisions.specs.Asked.{asked_at}
use Rattle.dep_decisions.specs.Decisions.{referred_file, referred_files}
use Rattle.dep_decisions.specs.declared.operation.Operation.{Operation}
use Rattle.dep_decisions.specs.declared.decision.Decision.TheVariants.{Show}

pub shown_by_get : (refs : Option (List Reference)) (op : Operation) (resource : Resource) → Show ≡ asked_at refs op resource Get
shown_by_get refs op Service = refl
shown_by_get refs op _ = refl

pub shown_by_head : (refs : Option (List Reference)) (op : Operation) (resource : Resource) → Show ≡ asked_at refs op resource Head
shown_by_head refs op Service = refl
shown_by_head refs op _ = refl

-- the files up to one more entry
pub files_more : (op : Operation) (refs : List Reference) (i : ℕ) (r : Reference) → i < length refs → r ≡ get_or refs i r
    → referred_files op (take (i + 1) refs) ≡ referred_files op (take i refs) ++ cons_option (referred_file op r) []
files_more op refs i r h is =
    ap (λ (l : List Reference). referred_files op l) (take_more refs i r h)
    ∙ filter_map-append (referred_file op) (take i refs) (get_or refs i r ∷ [])
    ∙ ap (λ (x : Reference). referred_files op (take i refs) ++ cons_option (referred_file op x) []) (sym is)
