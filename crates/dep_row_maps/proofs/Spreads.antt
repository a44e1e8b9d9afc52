-- What is listed for the entries of a map: one more entry, and the order of the list.
use Rattle.std.proofs.Common.{◌≡◌, ℕ, ◌+◌, ◌<◌, ◌≤◌, Bool, true, false, ◌&&◌, cond, T, List, [], ◌∷◌, ◌++◌, Some, None, refl, sym, ap, subst, ◌∙◌, Ordering, Less, Equal, Greater, is_eq, is_lt, append-nil, append_assoc, arith}
use Rattle.std.proofs.lemmas.List.Sorted.{IsPermutation-trans, IsPermutation-sym, IsPermutation-append_left, IsPermutation-append_right, IsPermutation-append_comm}
use Rattle.std.specs.Cmp.{IsTotalOrder}
use Rattle.std.specs.Option.{option_map_or}
use Rattle.std.specs.List.{AllByRecursion, flat_map}
use Rattle.std.specs.List.Sorted.{IsPermutation}
use Rattle.std.specs.FinMap as map
use Rattle.std.specs.FinMap.Entries.{put, find, below_all, is_sorted, by_order}
use Rattle.sqlite_trees.specs.Tree.{IsAscending}
use Rattle.sqlite_trees.proofs.ListLemmas.{all-append, ascending-append}
use Rattle.dep_row_maps.specs.Owned.{placed, spread}

pub less : (o : Ordering) → T (is_lt o) → o ≡ Less
less Less p = refl
less Equal p = absurd p
less Greater p = absurd p

pub both : (a b : Bool) → T (a && b) → T a × T b
both true b p = (tt, p)
both false b p = absurd p

module _ {K X : Type 0} {R : K → K → Ordering} (total : IsTotalOrder R) where
  pub below_more : (a b : K) (es : List (K × X)) → R a b ≡ Less → T (below_all R b es) → T (below_all R a es)
  below_more a b [] lower h = tt
  below_more a b (e ∷ es) lower h =
      let parts = both _ _ h in
      let first : R a e.0 ≡ Less = total.trans a b e.0 lower (less _ parts.0) in
      subst (λ o. T (is_lt o && below_all R a es)) (sym first) (below_more a b es lower parts.1)

  pub missing : (k : K) (es : List (K × X)) → T (below_all R k es) → find R k es ≡ None
  missing k [] h = refl
  missing k (e ∷ es) h = let parts = both _ _ h in ap (λ o. cond (is_eq o) (Some e.1) (find R k es)) (less _ parts.0) ∙ missing k es parts.1

  module _ {Y : Type 0} (same : map.IsAntisymmetric R) (lists : K → X → List Y) where
    abbrev flat : List (K × X) → List Y
    flat = flat_map (λ e. lists e.0 e.1)

    put_flat : (k : K) (v : X) (more : List Y) (es : List (K × X)) → T (is_sorted R es) → IsPermutation (lists k v) (option_map_or (lists k) (find R k es) [] ++ more)
        → IsPermutation (flat es ++ more) (flat (put R k v es))
    put_flat k v more [] sorted grows = rw append-nil (IsPermutation-sym _ _ grows)
    put_flat k v more (e ∷ es) sorted grows = go (R k e.0) refl grows (put_flat k v more es (both _ _ sorted).1)
      where
        go : (o : Ordering) → R k e.0 ≡ o → IsPermutation (lists k v) (option_map_or (lists k) (cond (is_eq (R k e.0)) (Some e.1) (find R k es)) [] ++ more)
            → (IsPermutation (lists k v) (option_map_or (lists k) (find R k es) [] ++ more) → IsPermutation (flat es ++ more) (flat (put R k v es)))
            → IsPermutation ((lists e.0 e.1 ++ flat es) ++ more) (flat (by_order o ((k, v) ∷ e ∷ es) ((e.0, v) ∷ es) (e ∷ put R k v es)))
        go Less is grows later =
            let none = missing k es (below_more k e.0 es is (both _ _ sorted).0) in
            let new : IsPermutation (lists k v) more = rw (is, none) at grows in
            IsPermutation-trans _ _ _ (IsPermutation-append_comm (lists e.0 e.1 ++ flat es) more) (IsPermutation-append_left (lists e.0 e.1 ++ flat es) _ _ (IsPermutation-sym _ _ new))
        go Equal is grows later =
            let it = same k e.0 is in
            let new : IsPermutation (lists k v) (lists k e.1 ++ more) = rw is at grows in
            let new2 : IsPermutation (lists e.0 v) (lists e.0 e.1 ++ more) = subst (λ q. IsPermutation (lists q v) (lists q e.1 ++ more)) it new in
            rw append_assoc (IsPermutation-trans _ _ _ (IsPermutation-append_right (lists e.0 e.1) _ _ (IsPermutation-append_comm (flat es) more))
            (rw (← append_assoc (lists e.0 e.1) more (flat es)) (IsPermutation-append_left (flat es) _ _ (IsPermutation-sym _ _ new2))))
        go Greater is grows later = rw append_assoc (IsPermutation-append_right (lists e.0 e.1) _ _ (later (rw is at grows)))

    -- an entry whose list grows
    pub spread-insert : (m : map.FinMap R X) (k : K) (v : X) (more : List Y) → IsPermutation (lists k v) (option_map_or (lists k) (map.get m k) [] ++ more)
        → IsPermutation (spread lists m ++ more) (spread lists (map.insert m k v))
    spread-insert m k v more grows =
        rw (map.entries-insert total m k v) (put_flat k v more (map.entries m) (map.entries_sorted m) (rw (map.get-entries m k) at grows))

    -- the list rises where each entry's does, and each is below those of later keys
    module _ (Below : Y → Y → Type 0) (rises : (k : K) (x : X) → IsAscending Below (lists k x))
        (across : (a b : K) (x y : X) → R a b ≡ Less → AllByRecursion (λ u. AllByRecursion (Below u) (lists b y)) (lists a x)) where
      all_later : (us : List Y) (a : K) (es : List (K × X)) → T (below_all R a es) → ((b : K) (y : X) → R a b ≡ Less → AllByRecursion (λ u. AllByRecursion (Below u) (lists b y)) us)
          → AllByRecursion (λ u. AllByRecursion (Below u) (flat es)) us
      all_later us a [] h each = all_none us
        where
          all_none : (us : List Y) → AllByRecursion (λ u. AllByRecursion (Below u) []) us
          all_none [] = tt
          all_none (u ∷ us) = (tt, all_none us)
      all_later us a (e ∷ es) h each = let parts = both _ _ h in join us (each e.0 e.1 (less _ parts.0)) (all_later us a es parts.1 each)
        where
          join : (us : List Y) → AllByRecursion (λ u. AllByRecursion (Below u) (lists e.0 e.1)) us → AllByRecursion (λ u. AllByRecursion (Below u) (flat es)) us
              → AllByRecursion (λ u. AllByRecursion (Below u) (lists e.0 e.1 ++ flat es)) us
          join [] p q = tt
          join (u ∷ us) p q = (all-append (Below u) (lists e.0 e.1) (flat es) p.0 q.0, join us p.1 q.1)

      flat_rises : (es : List (K × X)) → T (is_sorted R es) → IsAscending Below (flat es)
      flat_rises [] h = tt
      flat_rises (e ∷ es) h =
          let parts = both _ _ h in
          ascending-append Below (lists e.0 e.1) (flat es) (rises e.0 e.1) (flat_rises es parts.1) (all_later (lists e.0 e.1) e.0 es parts.0 (λ b y lower. across e.0 b e.1 y lower))

      pub spread_rises : (m : map.FinMap R X) → IsAscending Below (spread lists m)
      spread_rises m = flat_rises (map.entries m) (map.entries_sorted m)

-- ---- elements with their places

pub all_placed : {X Y : Type 0} (P : Y → Type 0) (f : ℕ → X → Y) (k : ℕ) (xs : List X) → ((i : ℕ) (x : X) → k ≤ i → P (f i x)) → AllByRecursion P (placed f k xs)
all_placed P f k [] each = tt
all_placed P f k (x ∷ xs) each = (each k x (omega arith), all_placed P f (k + 1) xs (λ i y h. each i y (omega arith)))

pub placed_rises : {X Y : Type 0} (Below : Y → Y → Type 0) (f : ℕ → X → Y) → ((i j : ℕ) (x y : X) → i < j → Below (f i x) (f j y)) → (k : ℕ) (xs : List X) → IsAscending Below (placed f k xs)
placed_rises Below f rise k [] = tt
placed_rises Below f rise k (x ∷ xs) = (all_placed (Below (f k x)) f (k + 1) xs (λ i y h. rise k i x y (omega arith)), placed_rises Below f rise (k + 1) xs)
