-- Loops that write one member or one item after another.
use Rattle.std.proofs.Common.{◌≡◌, ◌∙◌, ◌+◌, ◌<◌, ◌≤◌, ℕ, List, [], ◌∷◌, ◌++◌, get_or, length, map, take, sym, ap, subst}
use Rattle.std.proofs.lemmas.List.{map_more, take_all}
use Rattle.serde_json.specs.Data.{Data}
use Rattle.dep_docs_out.specs.Json.{Draft, AddsItems, AddsMembers}
use Rattle.dep_docs_out.proofs.TokenLemmas.{◌⨾◌, more_items}

-- one more item
pub item_next : {X : Type 0} (f : X → Data) (xs : List X) (i : ℕ) (x : X) {old between new : Draft} → i < length xs → x ≡ get_or xs i x
    → AddsItems old between (map f (take i xs)) → AddsItems between new (f x ∷ []) → AddsItems old new (map f (take (i + 1) xs))
item_next f xs i x {old} {between} {new} within is g h =
    subst (λ (ds : List Data). AddsItems old new ds) (ap (λ y. map f (take i xs) ++ f y ∷ []) is ∙ sym (map_more f xs i x within)) (more_items g h)

-- the same of a number
pub number_next : (f : ℕ → Data) (xs : List ℕ) (i : ℕ) {old between new : Draft} → i < length xs
    → AddsItems old between (map f (take i xs)) → AddsItems between new (f (get_or xs i 0) ∷ []) → AddsItems old new (map f (take (i + 1) xs))
number_next f xs i {old} {between} {new} within g h =
    subst (λ (ds : List Data). AddsItems old new ds) (sym (map_more f xs i 0 within)) (more_items g h)

pub items_all : {X : Type 0} (f : X → Data) (xs : List X) (i : ℕ) {old new : Draft} → length xs ≤ i
    → AddsItems old new (map f (take i xs)) → AddsItems old new (map f xs)
items_all f xs i {old} {new} end h = subst (λ ys. AddsItems old new (map f ys)) (take_all i xs end) h

-- one more member
pub member_next : {X : Type 0} (f : X → List ℕ × Data) (xs : List X) (i : ℕ) (x : X) {old between new : Draft} → i < length xs → x ≡ get_or xs i x
    → AddsMembers old between (map f (take i xs)) → AddsMembers between new (f x ∷ []) → AddsMembers old new (map f (take (i + 1) xs))
member_next f xs i x {old} {between} {new} within is g h =
    subst (λ (ms : List (List ℕ × Data)). AddsMembers old new ms) (ap (λ y. map f (take i xs) ++ f y ∷ []) is ∙ sym (map_more f xs i x within)) (g ⨾ h)

pub members_all : {X : Type 0} (f : X → List ℕ × Data) (xs : List X) (i : ℕ) {old new : Draft} → length xs ≤ i
    → AddsMembers old new (map f (take i xs)) → AddsMembers old new (map f xs)
members_all f xs i {old} {new} end h = subst (λ ys. AddsMembers old new (map f ys)) (take_all i xs end) h
