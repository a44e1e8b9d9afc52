-- The tokens of a document, and what they are printed as.
use Rattle.std.proofs.Common.{◌≡◌, ◌∙◌, ℕ, false, List, [], ◌∷◌, ◌++◌, refl, sym, ap, subst, append_assoc, append-nil}
use Rattle.json.specs.Token.{Token}
use Rattle.json.specs.Print.{print}
use Rattle.json.specs.Tree.{items_tokens, members_tokens}
use Rattle.serde_json.specs.Data.{Data}
use Rattle.serde_json.specs.Written.{compact_text, items_outline, members_outline}
use Rattle.serde_json.proofs.Texts.{print-outline}
use Rattle.dep_docs_out.specs.Json.{Draft, AddsTokens, AddsItems, AddsMembers, nothing, sorted_object, list, items, members_from, value_tokens, member_tokens, item_tokens}

infixl 10 ◌⨾◌
member_tokens-append : (a b : List (List ℕ × Data)) → member_tokens (a ++ b) ≡ member_tokens a ++ member_tokens b
member_tokens-append [] b = refl
member_tokens-append (m ∷ a) b =
    ap (λ ts. Token.key m.0 ∷ ts) (ap (λ ts. value_tokens m.1 ++ ts) (member_tokens-append a b) ∙ sym (append_assoc (value_tokens m.1) (member_tokens a) (member_tokens b)))

item_tokens-append : (a b : List Data) → item_tokens (a ++ b) ≡ item_tokens a ++ item_tokens b
item_tokens-append [] b = refl
item_tokens-append (d ∷ a) b = ap (λ ts. value_tokens d ++ ts) (item_tokens-append a b) ∙ sym (append_assoc (value_tokens d) (item_tokens a) (item_tokens b))

members_closed : (ms : List (List ℕ × Data)) → members_tokens (members_outline (members_from ms)) ≡ member_tokens ms ++ Token.end_object ∷ []
members_closed [] = refl
members_closed (m ∷ ms) =
    ap (λ ts. Token.key m.0 ∷ ts) (ap (λ ts. value_tokens m.1 ++ ts) (members_closed ms) ∙ sym (append_assoc (value_tokens m.1) (member_tokens ms) (Token.end_object ∷ [])))

items_closed : (ds : List Data) → items_tokens (items_outline (items ds)) ≡ item_tokens ds ++ Token.end_array ∷ []
items_closed [] = refl
items_closed (d ∷ ds) = ap (λ ts. value_tokens d ++ ts) (items_closed ds) ∙ sym (append_assoc (value_tokens d) (item_tokens ds) (Token.end_array ∷ []))

-- what was written after what
then : {old between new : Draft} {first second : List Token} → AddsTokens old between first → AddsTokens between new second → AddsTokens old new (first ++ second)
then {old} {between} {new} {first} {second} g h = record {
  is = λ fine.
      let late = h.is fine in
      let early = g.is late.0 in
      (early.0, late.1 ∙ ap (λ ts. ts ++ second) early.1 ∙ append_assoc old.tokens first second);
}

reported_as : {old new : Draft} {first second : List Token} → first ≡ second → AddsTokens old new first → AddsTokens old new second
reported_as {old} {new} {first} {second} e g = subst (λ (ts : List Token). AddsTokens old new ts) e g

-- members written after members
pub ◌⨾◌ : {old between new : Draft} {a b : List (List ℕ × Data)} → AddsMembers old between a → AddsMembers between new b → AddsMembers old new (a ++ b)
◌⨾◌ {old} {between} {new} {a} {b} g h = record { is = reported_as (sym (member_tokens-append a b)) (then g.is h.is) }

pub no_members_more : (d : Draft) → AddsMembers d d []
no_members_more d = record { is = record { is = λ fine. (fine, sym (append-nil d.tokens)) } }

pub no_items_more : (d : Draft) → AddsItems d d []
no_items_more d = record { is = record { is = λ fine. (fine, sym (append-nil d.tokens)) } }

-- items written after items
pub more_items : {old between new : Draft} {a b : List Data} → AddsItems old between a → AddsItems between new b → AddsItems old new (a ++ b)
more_items {old} {between} {new} {a} {b} g h = record { is = reported_as (sym (item_tokens-append a b)) (then g.is h.is) }

-- an object, between its braces
object_between : {old opened between new : Draft} {ms : List (List ℕ × Data)}
    → AddsTokens old opened (Token.begin_object ∷ []) → AddsMembers opened between ms → AddsTokens between new (Token.end_object ∷ []) → AddsTokens old new (value_tokens (sorted_object ms))
object_between {old} {opened} {between} {new} {ms} b m e =
    let all : AddsTokens old new (Token.begin_object ∷ (member_tokens ms ++ Token.end_object ∷ [])) = then (then b m.is) e in
    reported_as (ap (λ ts. Token.begin_object ∷ ts) (sym (members_closed ms))) all

-- a list, between its brackets
list_between : {old opened between new : Draft} {ds : List Data}
    → AddsTokens old opened (Token.begin_array ∷ []) → AddsItems opened between ds → AddsTokens between new (Token.end_array ∷ []) → AddsTokens old new (value_tokens (list ds))
list_between {old} {opened} {between} {new} {ds} b m e =
    let all : AddsTokens old new (Token.begin_array ∷ (item_tokens ds ++ Token.end_array ∷ [])) = then (then b m.is) e in
    reported_as (ap (λ ts. Token.begin_array ∷ ts) (sym (items_closed ds))) all

-- a member, by its name and its value
pub named : {old opened new : Draft} {name : List ℕ} {d : Data} → AddsTokens old opened (Token.key name ∷ []) → AddsTokens opened new (value_tokens d) → AddsMembers old new ((name, d) ∷ [])
named {old} {opened} {new} {name} {d} k v =
    record { is = reported_as (ap (λ ts. Token.key name ∷ ts) (sym (append-nil (value_tokens d)))) (then k v) }

-- a member that is an object
pub object_member : {old named_at opened between new : Draft} {name : List ℕ} {ms : List (List ℕ × Data)} → AddsTokens old named_at (Token.key name ∷ [])
    → AddsTokens named_at opened (Token.begin_object ∷ []) → AddsMembers opened between ms → AddsTokens between new (Token.end_object ∷ []) → AddsMembers old new ((name, sorted_object ms) ∷ [])
object_member k b m e = named k (object_between b m e)

-- a member that is a list
pub list_member : {old named_at opened between new : Draft} {name : List ℕ} {ds : List Data} → AddsTokens old named_at (Token.key name ∷ [])
    → AddsTokens named_at opened (Token.begin_array ∷ []) → AddsItems opened between ds → AddsTokens between new (Token.end_array ∷ []) → AddsMembers old new ((name, list ds) ∷ [])
list_member k b m e = named k (list_between b m e)

-- an item that is an object
pub object_item : {old opened between new : Draft} {ms : List (List ℕ × Data)}
    → AddsTokens old opened (Token.begin_object ∷ []) → AddsMembers opened between ms → AddsTokens between new (Token.end_object ∷ []) → AddsItems old new (sorted_object ms ∷ [])
object_item {old} {opened} {between} {new} {ms} b m e =
    record { is = reported_as (sym (append-nil (value_tokens (sorted_object ms)))) (object_between b m e) }

-- the text of a whole document, of which nothing has failed
pub whole_text : {opened between : Draft} {ms : List (List ℕ × Data)}
    → AddsTokens nothing opened (Token.begin_object ∷ []) → AddsMembers opened between ms → between.has_failed ≡ false → print (between.tokens ++ Token.end_object ∷ []) ≡ compact_text (sorted_object ms)
whole_text {opened} {between} {ms} b m fine =
    let closed : Draft = record { has_failed = false; tokens = between.tokens ++ Token.end_object ∷ [] } in
    let end : AddsTokens between closed (Token.end_object ∷ []) = record { is = λ _. (fine, refl) } in
    ap print ((object_between b m end).is refl).1 ∙ print-outline (sorted_object ms)
