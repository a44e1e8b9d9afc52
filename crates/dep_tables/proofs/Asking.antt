-- What a query of one table answers.
use Rattle.std.proofs.Common.{◌≡◌, ℕ, List, [], ◌∷◌, ◌++◌, map, filter, flat_map, Bool, true, false, if◌then◌else◌, refl, ap, subst, ◌∙◌}
use Rattle.std.specs.List.Sorted.{IsPermutation, IsSorted}
use Rattle.sqlite.specs.declared.types.Value.TheVariants.{Null}
use Rattle.sqlite_value.specs.declared.keys.Key.{Key}
use Rattle.sqlite.specs.Order.{Row}
use Rattle.sqlite.specs.Tree.{Trees}
use Rattle.sqlite.specs.Term.{Term, Env}
use Rattle.sqlite.specs.Query.{Query, Join, IsAnswer, matches, inner, end, output, output_cmp, page, Output}
use Rattle.sqlite.specs.Program.{overlay}
use Rattle.sqlite.specs.Effect.{Database, Answers}
use Rattle.dep_tables.specs.Query.{plain_query, one_table, plainly, passes_tests}

-- What is found, each as an environment: it is put in an order that ORDER BY allows, shown and cut.
pub record PicksBy {X : Type 0} (q : Query) (params : Row) (env : X → Env) (found : List X) (rows : List Row) : Type 0 where
  pub ordered : List Output
  pub same : IsPermutation (map (λ x. output q (env x)) found) ordered
  pub sorted : IsSorted (output_cmp q) ordered
  pub shown : rows ≡ page q params (map (λ o. o.1) ordered)

-- rows of one table, each beside the parameters
abbrev beside : Row → Row → Env
beside params r = params ∷ r ∷ []

abbrev pub Picks : Query → Row → List Row → List Row → Type 0
Picks q params = PicksBy q params (beside params)

map_map : {A B C : Type 0} (f : A → B) (g : B → C) (xs : List A) → map g (map f xs) ≡ map (λ x. g (f x)) xs
map_map f g [] = refl
map_map f g (x ∷ xs) = ap (λ ys. g (f x) ∷ ys) (map_map f g xs)

-- what passes, element by element
chosen : {A B : Type 0} (p : A → Bool) (f : A → B) (xs : List A) → flat_map (λ x. if p x then f x ∷ [] else []) xs ≡ map f (filter p xs)
chosen p f [] = refl
chosen p f (x ∷ xs) = go (p x) (chosen p f xs)
  where
    go : (b : Bool) → flat_map (λ y. if p y then f y ∷ [] else []) xs ≡ map f (filter p xs)
        → (if b then f x ∷ [] else []) ++ flat_map (λ y. if p y then f y ∷ [] else []) xs ≡ map f (if b then x ∷ filter p xs else filter p xs)
    go true e = ap (λ ys. f x ∷ ys) e
    go false e = e

module _ (from : Join) (tests shows : List Term) (order : List (Term × Key)) (limit : Term) where
  abbrev plain : Query
  plain = plain_query from tests shows order limit

  picks_by : {X : Type 0} (env : X → Env) (found : List X) (db : Trees) (params : Row) (rows : List Row) → matches db tests from (params ∷ []) ≡ map env found → IsAnswer plain db params rows → PicksBy plain params env found rows
  picks_by env found db params rows matched a =
      let shown : a.kept ≡ map (λ x. output plain (env x)) found = a.distinct ∙ ap (map (output plain)) (a.grouped ∙ matched) ∙ map_map env (output plain) found in
      record { ordered = a.ordered; same = subst (λ k. IsPermutation k a.ordered) shown a.same; sorted = a.sorted; shown = a.shown }

module _ (tree : ℕ) (tests shows : List Term) (order : List (Term × Key)) (limit : Term) where
  abbrev q : Query
  q = one_table tree tests shows order limit

  pub picks : (trees : Trees) (params : Row) (rows : List Row) → overlay trees [] tree ≡ trees tree → IsAnswer q (overlay trees []) params rows → Picks q params (filter (passes_tests params tests) (trees tree)) rows
  picks trees params rows own a =
      picks_by (inner tree end) tests shows order limit (beside params) (filter (passes_tests params tests) (trees tree)) (overlay trees []) params rows
      (chosen (passes_tests params tests) (beside params) (overlay trees [] tree) ∙ ap (λ all. map (beside params) (filter (passes_tests params tests) all)) own) a

  pub answers : (db : Database) (params : Row) (rows : List Row) → overlay db.trees [] tree ≡ db.trees tree → Answers db (plainly q) params rows → Picks q params (filter (passes_tests params tests) (db.trees tree)) rows
  answers db params rows own h = picks db.trees params rows own (h.answer Null)
