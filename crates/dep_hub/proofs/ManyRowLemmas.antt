-- Replies that are made of all the texts of an object's metadata or of all its files: to a GET, a HEAD or a POST alone.
use Rattle.std.proofs.Common.{◌≡◌, ℕ, Bool, true, false, List, [], ◌∷◌, Option, None, Some, find, if◌then◌else◌, bytes_eq, codes, refl, sym, ap, ◌∙◌}
use Rattle.std.specs.Prelude.{unwrap_or}
use Rattle.std.proofs.lemmas.Slice.Eq.{bytes_eq-Decides}
use Rattle.dep_types.specs.declared.target.Resource.{Resource}
use Rattle.dep_types.specs.declared.target.Method.{Method}
use Rattle.dep_types.specs.declared.target.Method.TheVariants.{Get, Head, Post, Put, Delete}
use Rattle.dep_router.specs.Targets.{target, to_resource, to_method, method_of, method_name, methods, segments, resource_of}
use Rattle.dep_hub.specs.Preparing.{many_rows_shown_by}
use Rattle.dep_hub.proofs.PendingLemmas.{true_false}

-- what is found is what was looked for
found_next : (p : Method → Bool) (x m : Method) (is : Bool) (rest : Option Method) → p x ≡ is → (if is then Some x else rest) ≡ Some m
    → (rest ≡ Some m → p m ≡ true) → p m ≡ true
found_next p x m true rest holds e behind = sym (ap (λ (o : Option Method). p (unwrap_or o x)) e) ∙ holds
found_next p x m false rest holds e behind = behind e

found_holds : (p : Method → Bool) (ms : List Method) (m : Method) → find p ms ≡ Some m → p m ≡ true
found_holds p [] m e = cc e
found_holds p (x ∷ ms) m e = found_next p x m (p x) (find p ms) refl e (found_holds p ms m)

module _ (name : List ℕ) (no_get : bytes_eq name (codes "GET") ≡ false) (no_head : bytes_eq name (codes "HEAD") ≡ false) (no_post : bytes_eq name (codes "POST") ≡ false) where
  is_none : (other : List ℕ) → bytes_eq name other ≡ false → name ≡ other → ⊥
  is_none other isnt e = true_false (sym ((bytes_eq-Decides name other).1 e) ∙ isnt)

  by_method : (r : Resource) (o : Option Method) → ((m : Method) → o ≡ Some m → name ≡ method_name m) → many_rows_shown_by (to_method r o) ≡ false
  by_method r None named = refl
  by_method r (Some Get) named = absurd (is_none (codes "GET") no_get (named Get refl))
  by_method r (Some Head) named = absurd (is_none (codes "HEAD") no_head (named Head refl))
  by_method r (Some Post) named = absurd (is_none (codes "POST") no_post (named Post refl))
  by_method r (Some Put) named = refl
  by_method r (Some Delete) named = refl

  by_resource : (o : Option Resource) → many_rows_shown_by (to_resource name o) ≡ false
  by_resource None = refl
  by_resource (Some r) = by_method r (method_of r name)
      (λ m e. sym ((bytes_eq-Decides (method_name m) name).0 (found_holds (λ (k : Method). bytes_eq (method_name k) name) (methods r) m e)))

  -- a request of another method names none
  pub no_many_rows : (path : List ℕ) → many_rows_shown_by (target name path) ≡ false
  unfolding target
  no_many_rows path = by_resource (resource_of (segments path))
