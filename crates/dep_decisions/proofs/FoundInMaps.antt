-- What is found in maps once entries are put in and taken out.
use Rattle.std.proofs.Common.{◌≡◌, ◌≢◌, ◌∙◌, ℕ, ◌++◌, Bool, true, false, cond, List, [], ◌∷◌, Option, Some, None, unwrap_or, refl, sym, ap, subst, nat_cmp, Less, Equal, Greater, is_eq}
use Rattle.std.specs.Option.{option_map_or}
use Rattle.std.specs.Ordering.{eq_by_cmp}
use Rattle.std.specs.Cmp.{nat_cmp_total}
use Rattle.std.specs.Cmp.Lexicographic.{slice_cmp, nat_list_cmp_total}
use Rattle.std.specs.FinMap as map
use Rattle.dep_types.specs.Maps.{Numbered, first_of}
use Rattle.dep_types.specs.State.{Texts, Upload}
use Rattle.dep_types.specs.declared.refusal.Refusal.{Refusal}
use Rattle.dep_docs_in.specs.Fit.{IsKeptName, AreKept}
use Rattle.dep_types.specs.MetadataEntries.{joined}
use Rattle.dep_decisions.specs.Effects.{at, without}
use Rattle.dep_decisions.specs.Rules.{unless}

-- ---- rules that were passed

-- each of these rules was passed
abbrev pub AllPassed : List (Option Refusal) → Type 0
AllPassed [] = Unit {0}
AllPassed (r ∷ rest) = (r ≡ None) × AllPassed rest

pub all_passed : (rows : List (Option Refusal)) → first_of rows ≡ None → AllPassed rows
all_passed [] e = tt
all_passed (None ∷ rest) e = (refl, all_passed rest e)
all_passed (Some r ∷ rest) e = absurd (cc)

pub unless-none : (b : Bool) (r : Refusal) → unless b r ≡ None → b ≡ true
unless-none true r e = refl
unless-none false r e = absurd (cc)

-- ---- numbers

cond-some : {X : Type 0} (b : Bool) (o : Option X) (x : X) → cond b None o ≡ Some x → o ≡ Some x
cond-some true o x e = absurd (cc)
cond-some false o x e = e

cond-none : {X : Type 0} (b : Bool) (o : Option X) → o ≡ None → cond b None o ≡ None
cond-none true o e = refl
cond-none false o e = e

-- what is left was there
pub left-was : {X : Type 0} (m : Numbered X) (k q : ℕ) (x : X) → map.get (map.remove m k) q ≡ Some x → map.get m q ≡ Some x
left-was m k q x e = cond-some (eq_by_cmp nat_cmp q k) (map.get m q) x (sym (map.get-remove nat_cmp_total m k q) ∙ e)

none-left : {X : Type 0} (m : Numbered X) (k q : ℕ) → map.get m q ≡ None → map.get (map.remove m k) q ≡ None
none-left m k q e = map.get-remove nat_cmp_total m k q ∙ cond-none (eq_by_cmp nat_cmp q k) (map.get m q) e

pub without-was : (m : Numbered Upload) (us : List ℕ) (q : ℕ) (u : Upload) → map.get (without m us) q ≡ Some u → map.get m q ≡ Some u
without-was m [] q u e = e
without-was m (k ∷ us) q u e = left-was m k q u (without-was (map.remove m k) us q u e)

pub without-none : (m : Numbered Upload) (us : List ℕ) (q : ℕ) → map.get m q ≡ None → map.get (without m us) q ≡ None
without-none m [] q e = e
without-none m (k ∷ us) q e = without-none (map.remove m k) us q (none-left m k q e)

pub at-some : {X : Type 0} (m : Numbered X) (n : ℕ) (f : X → X) (x : X) → map.get m n ≡ Some x → at m n f ≡ map.insert m n (f x)
at-some m n f x e = ap (λ o. option_map_or (λ y. map.insert m n (f y)) o m) e

pub at-none : {X : Type 0} (m : Numbered X) (n : ℕ) (f : X → X) → map.get m n ≡ None → at m n f ≡ m
at-none m n f e = ap (λ o. option_map_or (λ y. map.insert m n (f y)) o m) e

pub nothing_there : {X : Type 0} (n : ℕ) (x : X) → map.get (map.empty {X = X} {R = nat_cmp}) n ≡ Some x → ⊥
nothing_there {X} n x e = let none = map.get-empty {X = X} nat_cmp n in cc

-- ---- names

pub nothing_named : (name : List ℕ) (texts : List (List ℕ)) → map.get (map.empty {X = List (List ℕ)} {R = slice_cmp nat_cmp}) name ≡ Some texts → ⊥
nothing_named name texts e = let none = map.get-empty {X = List (List ℕ)} (slice_cmp nat_cmp) name in cc

-- each name that is found is kept, and has a text
abbrev pub AreNamed : Texts → Type 0
AreNamed m = (name : List ℕ) (texts : List (List ℕ)) → map.get m name ≡ Some texts → IsKeptName name texts

named-cond : (b : Bool) (o : Option (List (List ℕ))) (name : List ℕ) (new texts : List (List ℕ)) → (b ≡ true → IsKeptName name new)
    → ((old : List (List ℕ)) → o ≡ Some old → IsKeptName name old) → cond b (Some new) o ≡ Some texts → IsKeptName name texts
named-cond true o name new texts is was e = let same : new ≡ texts = cc e in subst (IsKeptName name) same (is refl)
named-cond false o name new texts is was e = was texts e

same-name : (q name : List ℕ) → eq_by_cmp (slice_cmp nat_cmp) q name ≡ true → q ≡ name
same-name q name e = elim (slice_cmp nat_cmp q name) as (λ r. slice_cmp nat_cmp q name ≡ r → is_eq r ≡ true → q ≡ name) [
  | Less ↦ λ r e. absurd (cc e)
  | Equal ↦ λ r e. map.slice_cmp-IsAntisymmetric map.nat_cmp-IsAntisymmetric q name r
  | Greater ↦ λ r e. absurd (cc e)
] refl e

named-insert : (m : Texts) (name : List ℕ) (texts : List (List ℕ)) → IsKeptName name texts → AreNamed m → AreNamed (map.insert m name texts)
named-insert m name texts is was q found e =
    named-cond (eq_by_cmp (slice_cmp nat_cmp) q name) (map.get m q) q texts found
    (λ same. subst (λ (n : List ℕ). IsKeptName n texts) (sym (same-name q name same)) is)
    (λ old there. was q old there)
    (sym (map.get-insert nat_list_cmp_total m name texts q) ∙ e)

some_behind : (a b : List (List ℕ)) → b ≢ [] → (a ++ b) ≢ []
some_behind [] b some e = some e
some_behind (x ∷ a) b some e = cc e

pub named-joined : (entries : List (List ℕ × List (List ℕ))) (old : Texts) → AreKept entries → AreNamed old → AreNamed (joined entries old)
unfolding joined
named-joined [] old all was = was
named-joined ((name, texts) ∷ more) old all was =
    named-joined more (map.insert old name (unwrap_or (map.get old name) [] ++ texts)) all.1
    (named-insert old name (unwrap_or (map.get old name) [] ++ texts) (all.0.0, some_behind (unwrap_or (map.get old name) []) texts all.0.1) was)
