-- The search for the end of a head goes on where it left off.
use Rattle.std.proofs.Common.{◌≡◌, ℕ, suc, zero, ◌+◌, ◌-◌, Bool, true, false, List, [], ◌∷◌, take, drop, length, Option, Some, None, nat_eq, refl, sym, ap, subst, ◌∙◌, arith, zero-add}
use Rattle.std.specs.List.{starts_with}
use Rattle.std.specs.Option.{option_map}
use Rattle.dep_head.specs.Head.{head_end, empty_line}
use Rattle.dep_head.specs.Marks.{mark_end}
use Rattle.dep_head.proofs.EndFinds.{end_nil}
use Rattle.dep_head.proofs.HeadEnd.{as_mark}
use Rattle.dep_head.proofs.MarkEnds.{end_if, end_is, none_suc}
use Rattle.dep_message.specs.Working.{IsSearched}
use Rattle.dep_body.proofs.Slices.{rest_is}

-- four bytes decide it
begins_front : (k x : ℕ) (bytes : List ℕ)
    → starts_with nat_eq (x ∷ take (suc (suc (suc k))) bytes) empty_line ≡ starts_with nat_eq (x ∷ bytes) empty_line
begins_front k x [] = refl
begins_front k x (a ∷ []) = refl
begins_front k x (a ∷ b ∷ []) = refl
begins_front k x (a ∷ b ∷ c ∷ bytes) = refl

map_zero : (o : Option ℕ) → o ≡ option_map (λ m. 0 + m) o
map_zero None = refl
map_zero (Some m) = ap (λ n. Some n) (sym (zero-add m))

map_suc : (k : ℕ) (o : Option ℕ) → option_map suc (option_map (λ m. k + m) o) ≡ option_map (λ m. suc k + m) o
map_suc k None = refl
map_suc k (Some m) = ap (λ n. Some n) (omega arith)

by_test : (t : Bool) (k : ℕ) (front bytes : List ℕ) (o : Option ℕ) → end_if t empty_line front ≡ None
    → (mark_end empty_line front ≡ None → mark_end empty_line bytes ≡ option_map (λ m. k + m) o) → end_if t empty_line bytes ≡ option_map (λ m. suc k + m) o
unfolding end_if
by_test true k front bytes o e f = cc
by_test false k front bytes o e f = ap (option_map suc) (f (none_suc (mark_end empty_line front) e)) ∙ map_suc k o

-- where the first k + 3 bytes hold no end, it is that of the bytes behind the first k
end_behind : (k : ℕ) (bytes : List ℕ) → mark_end empty_line (take (suc (suc (suc k))) bytes) ≡ None
    → mark_end empty_line bytes ≡ option_map (λ m. k + m) (mark_end empty_line (drop k bytes))
unfolding mark_end
end_behind zero bytes e = map_zero (mark_end empty_line bytes)
end_behind (suc k) [] e = refl
end_behind (suc k) (x ∷ bytes) e =
    end_is empty_line x bytes
    ∙ by_test (starts_with nat_eq (x ∷ bytes) empty_line) k (take (suc (suc (suc k))) bytes) bytes (mark_end empty_line (drop k bytes))
    (ap (λ t. end_if t empty_line (take (suc (suc (suc k))) bytes)) (sym (begins_front k x bytes)) ∙ (sym (end_is empty_line x (take (suc (suc (suc k))) bytes)) ∙ e))
    (end_behind k bytes)

-- the end, found from three bytes before those that were not searched
end_from : (searched : ℕ) (bytes : List ℕ) → IsSearched searched bytes
    → head_end bytes ≡ option_map (λ m. (searched - 3) + m) (head_end (drop (searched - 3) bytes))
end_from zero bytes s = map_zero (head_end bytes)
end_from (suc zero) bytes s = map_zero (head_end bytes)
end_from (suc (suc zero)) bytes s = map_zero (head_end bytes)
end_from (suc (suc (suc k))) bytes s =
    let same : k ≡ suc (suc (suc k)) - 3 = omega arith in
    subst (λ n. head_end bytes ≡ option_map (λ m. n + m) (head_end (drop n bytes))) same
    (as_mark bytes ∙ end_behind k bytes (sym (as_mark (take (suc (suc (suc k))) bytes)) ∙ s.no_end) ∙ ap (option_map (λ m. k + m)) (sym (as_mark (drop k bytes))))

-- the same of a slice
pub end_found : (searched from : ℕ) (bytes : List ℕ) (found : Option ℕ) → IsSearched searched bytes → from ≡ searched - 3
    → found ≡ head_end (take (length bytes - from) (drop from bytes)) → option_map (λ m. from + m) found ≡ head_end bytes
end_found searched from bytes found s same e =
    ap (option_map (λ m. from + m)) (e ∙ ap head_end (rest_is from bytes))
    ∙ sym (subst (λ n. head_end bytes ≡ option_map (λ m. n + m) (head_end (drop n bytes))) (sym same) (end_from searched bytes s))

pub searched_none : (bytes : List ℕ) → IsSearched 0 bytes
searched_none bytes = record { within = omega arith; no_end = end_nil }
