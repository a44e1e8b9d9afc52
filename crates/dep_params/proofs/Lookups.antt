-- The parameters from a place on.
use Rattle.std.proofs.Common.{◌≡◌, ◌∙◌, ◌<◌, ◌+◌, ℕ, suc, List, ◌∷◌, Bool, true, false, Some, length, drop, get_or, find, refl, sym, ap, add-one, drop-cons}
use Rattle.std.proofs.lemmas.List.{drop-map}
use Rattle.dep_params.specs.Grammar.{NamedValue}
use Rattle.dep_params.specs.Stored.{view, views}
use Rattle.dep_params.specs.declared.disposition.Parameter.{Parameter}

pub drop-views : (ps : List Parameter) (qs : List NamedValue) (i : ℕ) (p : Parameter) → qs ≡ views ps → i < length ps → p ≡ get_or ps i p
    → drop i qs ≡ view p ∷ drop (i + 1) qs
drop-views ps qs i p same h is =
    ap (λ (l : List NamedValue). drop i l) same ∙ drop-map view i ps
    ∙ ap (λ (l : List Parameter). views l) (drop-cons ps i p h ∙ ap (λ (q : Parameter). q ∷ drop (suc i) ps) (sym is))
    ∙ ap (λ (l : List NamedValue). view p ∷ l) (sym (drop-map view (suc i) ps) ∙ ap (λ (l : List NamedValue). drop (suc i) l) (sym same) ∙ ap (λ (n : ℕ). drop n qs) (sym (add-one i)))

pub find-here : (test : NamedValue → Bool) (list rest : List NamedValue) (q : NamedValue) → list ≡ q ∷ rest → test q ≡ true → find test list ≡ Some q
find-here test list rest q is h = ap (λ (l : List NamedValue). find test l) is ∙ rw h refl

pub find-later : (test : NamedValue → Bool) (list rest : List NamedValue) (q : NamedValue) → list ≡ q ∷ rest → test q ≡ false → find test list ≡ find test rest
find-later test list rest q is h = ap (λ (l : List NamedValue). find test l) is ∙ rw h refl
