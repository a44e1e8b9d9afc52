-- A walk over numbers that rise.
use Rattle.std.proofs.Common.{◌≡◌, ◌∙◌, ℕ, suc, ◌+◌, length, drop, get_or, drop-cons, ◌<◌, ◌≤◌, Bool, true, false, ◌&&◌, nat_lt, List, sym, ap, arith}
use Rattle.std.proofs.Math.ListN.{drop_of_length-le}
use Rattle.std.proofs.lemmas.Bool.{lt-ltb, le-ltb}
use Rattle.dep_docs_out.specs.Segments.{rises_above}

-- at the next number
next_is : (ks : List ℕ) (last i : ℕ) → i < length ks
    → rises_above last (drop i ks) ≡ (nat_lt last (get_or ks i 0) && rises_above (get_or ks i 0) (drop (i + 1) ks))
unfolding rises_above
next_is ks last i h =
    let next : suc i ≡ i + 1 = omega arith in
    ap (rises_above last) (drop-cons ks i 0 h)
    ∙ ap (λ (j : ℕ). nat_lt last (get_or ks i 0) && rises_above (get_or ks i 0) (drop j ks)) next

pub falls_at : (ks : List ℕ) (last i : ℕ) → i < length ks → rises_above 0 ks ≡ rises_above last (drop i ks)
    → get_or ks i 0 ≤ last → false ≡ rises_above 0 ks
falls_at ks last i h so_far least =
    sym (so_far ∙ next_is ks last i h
    ∙ ap (λ (t : Bool). t && rises_above (get_or ks i 0) (drop (i + 1) ks)) (le-ltb last (get_or ks i 0) least))

pub rises_at : (ks : List ℕ) (last i : ℕ) → i < length ks → rises_above 0 ks ≡ rises_above last (drop i ks)
    → last < get_or ks i 0 → rises_above 0 ks ≡ rises_above (get_or ks i 0) (drop (i + 1) ks)
rises_at ks last i h so_far less =
    so_far ∙ next_is ks last i h
    ∙ ap (λ (t : Bool). t && rises_above (get_or ks i 0) (drop (i + 1) ks)) (lt-ltb last (get_or ks i 0) less)

pub rises_to_end : (ks : List ℕ) (last i : ℕ) → length ks ≤ i → rises_above 0 ks ≡ rises_above last (drop i ks)
    → true ≡ rises_above 0 ks
unfolding rises_above
rises_to_end ks last i h so_far = sym (so_far ∙ ap (rises_above last) (drop_of_length-le ks h))
