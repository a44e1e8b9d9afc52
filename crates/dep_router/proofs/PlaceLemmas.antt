-- The path of a file in a bag is the end of the path that names it.
use Rattle.std.proofs.Common.{◌≡◌, ◌∙◌, ◌<◌, ℕ, length, List, [], ◌∷◌, ◌++◌, Option, Some, None, codes, sym, ap, subst}
use Rattle.std.proofs.lemmas.List.{append-nil}
use Rattle.matchit.specs.Level.{IsText}
use Rattle.matchit.specs.Params.{named, walk}
use Rattle.matchit.specs.Rows.{RowsOf}
use Rattle.matchit.specs.Router.{RouteOf}
use Rattle.matchit.specs.Seek.{first}
use Rattle.matchit.specs.declared.params.Params.{Params}
use Rattle.dep_router.specs.declared.pages.Page.{Page}
use Rattle.dep_router.specs.declared.pages.Page.TheVariants.{BagFile}
use Rattle.dep_router.specs.declared.reading.PathPlace.{PathPlace}
use Rattle.dep_router.specs.declared.reading.PathPlace.TheVariants as at
use Rattle.dep_router.specs.Pages.{routes, named_parts, at_object, HasPageForm, NamedParts}
use Rattle.dep_router.specs.Places.{EndsWith, EndsWithPlace, IsPathOf}
use Rattle.dep_router.proofs.PathLemmas.{found_route}
use Rattle.dep_router.proofs.PartLemmas.{entry_of, walk_of, walk-path, whole_front}

taken_is : (n q end : List ℕ) (parts : NamedParts) → parts ≡ (codes "object", n) ∷ (codes "path", q) ∷ [] → named (codes "path") parts ≡ Some end → q ≡ end
taken_is n q end parts is took = let some : Some q ≡ Some end = rw is at took in cc some

-- what the parameter for the rest of a path took is its end
ends_so : (path end : List ℕ) → HasPageForm BagFile path → named (codes "path") (walk_of BagFile path) ≡ Some end → EndsWith path end
ends_so path end f took =
    let n = f.0 in
    let q = f.1 in
    let walked = ap (walk_of BagFile) f.2 ∙ walk-path n q f.3.0 in
    let same = taken_is n q end (walk_of BagFile path) walked took in
    record {
      front = at_object n (codes "/bag/");
      whole = f.2 ∙ whole_front n (codes "/bag/") q ∙ ap (λ r. at_object n (codes "/bag/") ++ r) (append-nil q ∙ same);
      some = subst (λ (e : List ℕ). 0 < length e) same f.4;
    }

-- what `at` found of a path in a bag is its end
pub found_ends : (router : RowsOf (RouteOf Page)) (path : List ℕ) (params : Params) (value : Page) (place : Option PathPlace) → IsText path → router ≡ routes
    → first router path ≡ Some (entry_of params value) → params.path.now ≡ path → IsPathOf value (named_parts params) place → EndsWithPlace path place
found_ends router path params value (Some (at.Resource resource)) i made found same of = tt
found_ends router path params value None i made found same of = tt
found_ends router path params value (Some (at.InBag object end)) i made found same of =
    let f = found_route path (entry_of params value) i (ap (λ r. first r path) (sym made) ∙ found) in
    let page : f.0 ≡ BagFile = sym (ap (λ (r : RouteOf Page). r.value) f.1) ∙ of.0 in
    let walked : named_parts params ≡ walk_of f.0 path =
    ap (λ (r : RouteOf Page). walk r.pattern r.text params.path.now r.names 0 0) f.1 ∙ ap (walk_of f.0) same in
    let took : named (codes "path") (walk_of f.0 path) ≡ Some end.now = rw walked at of.1 in
    ends_so path end.now (subst (λ p. HasPageForm p path) page f.2) (subst (λ p. named (codes "path") (walk_of p path) ≡ Some end.now) page took)
