-- Metadata against the list of its entries.
use Rattle.std.proofs.Common.{◌≡◌, ℕ, zero, suc, ◌<◌, ◌≤◌, Bool, true, false, cond, ◌&&◌, List, [], ◌∷◌, Some, None, length, map, T, refl, sym, ap, ◌∙◌, subst, arith, le_refl, nat_cmp, Less, Equal, Greater, Ordering, Result, Ok, Err}
use Rattle.std.specs.Prelude.{slice_index_or, slice_set}
use Rattle.std.specs.Ordering.{ordering_index, ordering_reverse, is_lt, is_eq}
use Rattle.std.specs.Cmp.{alike_right}
use Rattle.std.specs.Cmp.Lexicographic.{slice_cmp, nat_list_cmp_total}
use Rattle.std.specs.FinMap as map
use Rattle.std.specs.FinMap.Entries.{find, put, by_order, below_all, is_sorted, is_sorted-put}
use Rattle.std.specs.List.{insert, AllWithin, HoldsAt}
use Rattle.std.specs.List.Sorted.{IsNonDecreasingBy, IsBinarySearchResult}
use Rattle.dep_types.specs.MetadataEntries.{name_and_texts, IsPlaceOf}
use Rattle.dep_types.specs.declared.metadata.MetadataEntry.{MetadataEntry}

-- no entries
pub nothing : map.from_sorted {X = List (List ℕ)} {R = slice_cmp nat_cmp} [] ≡ map.empty
nothing = map.empty_of_len _ (map.len-entries _ ∙ ap length (map.entries-from_sorted (slice_cmp nat_cmp) [] tt))

-- how two names compare
abbrev names : List ℕ → List ℕ → Ordering
names = slice_cmp nat_cmp

and_first : (a b : Bool) → T (a && b) → T a
and_first true b p = tt
and_first false b p = p

and_second : (a b : Bool) → T (a && b) → T b
and_second true b p = p
and_second false b p = absurd p

less : (o : Ordering) → T (is_lt o) → o ≡ Less
less Less p = refl
less Equal p = absurd p
less Greater p = absurd p

below_each : (k : List ℕ) (es : List MetadataEntry) → T (below_all names k (map name_and_texts es)) → (j : ℕ) (d : MetadataEntry) → j < length es
    → names k (slice_index_or es j d).name ≡ Less
below_each k [] h j d lt = absurd (omega (arith, lt))
below_each k (e ∷ es) h zero d lt = less _ (and_first _ _ h)
below_each k (e ∷ es) h (suc j) d lt = below_each k es (and_second _ _ h) j d (omega (arith, lt))

at_most_two : (o : Ordering) → ordering_index o ≤ 2
at_most_two Less = omega arith
at_most_two Equal = omega arith
at_most_two Greater = omega arith

index_rises : (x y k : List ℕ) → names x y ≡ Less → ordering_index (names x k) ≤ ordering_index (names y k)
index_rises x y k below = elim (names y k) as (λ o. names y k ≡ o → ordering_index (names x k) ≤ ordering_index o) [
  | Less ↦ λ e. subst (λ o. ordering_index o ≤ 0) (sym (nat_list_cmp_total.trans x y k below e)) (omega arith)
  | Equal ↦ λ e. subst (λ o. ordering_index o ≤ 1) (sym below ∙ alike_right nat_list_cmp_total y k x e) (omega arith)
  | Greater ↦ λ e. at_most_two (names x k)
] refl

-- along names that rise, the comparison with another name does not fall
pub rises : (es : List MetadataEntry) → T (is_sorted names (map name_and_texts es)) → (k : List ℕ) → IsNonDecreasingBy (λ e. ordering_index (slice_cmp nat_cmp e.name k)) es
rises [] h k i j d le lt = absurd (omega (arith, lt))
rises (e ∷ es) h k zero zero d le lt = le_refl _
rises (e ∷ es) h k zero (suc j) d le lt = index_rises e.name (slice_index_or es j d).name k (below_each e.name es (and_first _ _ h) j d (omega (arith, lt)))
rises (e ∷ es) h k (suc i) zero d le lt = absurd (omega (arith, le))
rises (e ∷ es) h k (suc i) (suc j) d le lt = rises es (and_second _ _ h) k i j d (omega (arith, le)) (omega (arith, lt))

turned : (x y : List ℕ) (o : Ordering) → names x y ≡ o → names y x ≡ ordering_reverse o
turned x y o e = nat_list_cmp_total.antisymm y x ∙ ap ordering_reverse e

-- ---- a new name

pub put_between : (es : List MetadataEntry) (i : ℕ) (new : MetadataEntry) → i ≤ length es
    → AllWithin (λ e. names e.name new.name ≡ Less) es 0 i → AllWithin (λ e. names e.name new.name ≡ Greater) es i (length es)
    → put names new.name new.texts (map name_and_texts es) ≡ map name_and_texts (insert es i new)
put_between [] zero new le lesser greater = refl
put_between [] (suc i) new le lesser greater = absurd (omega (arith, le))
put_between (e ∷ es) zero new le lesser greater =
    ap (λ o. by_order o (name_and_texts new ∷ name_and_texts e ∷ map name_and_texts es) ((e.name, new.texts) ∷ map name_and_texts es) (name_and_texts e ∷ put names new.name new.texts (map name_and_texts es)))
    (turned e.name new.name Greater (greater 0 e (omega arith) (omega arith)))
put_between (e ∷ es) (suc i) new le lesser greater =
    ap (λ o. by_order o (name_and_texts new ∷ name_and_texts e ∷ map name_and_texts es) ((e.name, new.texts) ∷ map name_and_texts es) (name_and_texts e ∷ put names new.name new.texts (map name_and_texts es)))
    (turned e.name new.name Less (lesser 0 e (omega arith) (omega arith)))
    ∙ ap (λ es. name_and_texts e ∷ es) (put_between es i new (omega (arith, le)) (λ j d l h. lesser (suc j) d (omega arith) (omega (arith, h))) (λ j d l h. greater (suc j) d (omega (arith, l)) (omega (arith, h))))

-- ---- a name that is there

-- the names before a name's place are less
before : (e : MetadataEntry) (es : List MetadataEntry) (i : ℕ) (k : List ℕ) → T (is_sorted names (map name_and_texts (e ∷ es))) → i < length es
    → HoldsAt (λ e. names e.name k ≡ Equal) es i → names k e.name ≡ Greater
before e es i k h lt is =
    turned e.name k Less (sym (alike_right nat_list_cmp_total (slice_index_or es i e).name k e.name (is e)) ∙ below_each e.name es (and_first _ _ h) i e lt)

pub put_at : (es : List MetadataEntry) (i : ℕ) (new : MetadataEntry) → T (is_sorted names (map name_and_texts es)) → i < length es
    → HoldsAt (λ e. names e.name new.name ≡ Equal) es i
    → put names new.name new.texts (map name_and_texts es) ≡ map name_and_texts (slice_set es i new)
put_at [] i new h lt is = absurd (omega (arith, lt))
put_at (e ∷ es) zero new h lt is =
    ap (λ o. by_order o (name_and_texts new ∷ name_and_texts e ∷ map name_and_texts es) ((e.name, new.texts) ∷ map name_and_texts es) (name_and_texts e ∷ put names new.name new.texts (map name_and_texts es)))
    (turned e.name new.name Equal (is e))
    ∙ ap (λ name. (name, new.texts) ∷ map name_and_texts es) (map.slice_cmp-IsAntisymmetric map.nat_cmp-IsAntisymmetric e.name new.name (is e))
put_at (e ∷ es) (suc i) new h lt is =
    ap (λ o. by_order o (name_and_texts new ∷ name_and_texts e ∷ map name_and_texts es) ((e.name, new.texts) ∷ map name_and_texts es) (name_and_texts e ∷ put names new.name new.texts (map name_and_texts es)))
    (before e es i new.name h (omega (arith, lt)) is)
    ∙ ap (λ es. name_and_texts e ∷ es) (put_at es i new (and_second _ _ h) (omega (arith, lt)) is)

-- ---- what is found

pub find_at : (es : List MetadataEntry) (i : ℕ) (k : List ℕ) (d : MetadataEntry) → T (is_sorted names (map name_and_texts es)) → i < length es
    → HoldsAt (λ e. names e.name k ≡ Equal) es i → find names k (map name_and_texts es) ≡ Some (slice_index_or es i d).texts
find_at [] i k d h lt is = absurd (omega (arith, lt))
find_at (e ∷ es) zero k d h lt is = ap (λ o. cond (is_eq o) (Some e.texts) (find names k (map name_and_texts es))) (turned e.name k Equal (is e))
find_at (e ∷ es) (suc i) k d h lt is =
    ap (λ o. cond (is_eq o) (Some e.texts) (find names k (map name_and_texts es))) (before e es i k h (omega (arith, lt)) is)
    ∙ find_at es i k d (and_second _ _ h) (omega (arith, lt)) is

pub find_none : (es : List MetadataEntry) (i : ℕ) (k : List ℕ) → AllWithin (λ e. names e.name k ≡ Less) es 0 i → AllWithin (λ e. names e.name k ≡ Greater) es i (length es)
    → find names k (map name_and_texts es) ≡ None
find_none [] i k lesser greater = refl
find_none (e ∷ es) zero k lesser greater =
    ap (λ o. cond (is_eq o) (Some e.texts) (find names k (map name_and_texts es))) (turned e.name k Greater (greater 0 e (omega arith) (omega arith)))
    ∙ find_none es zero k (λ j d l h. absurd (omega (arith, h))) (λ j d l h. greater (suc j) d (omega arith) (omega (arith, h)))
find_none (e ∷ es) (suc i) k lesser greater =
    ap (λ o. cond (is_eq o) (Some e.texts) (find names k (map name_and_texts es))) (turned e.name k Less (lesser 0 e (omega arith) (omega arith)))
    ∙ find_none es i k (λ j d l h. lesser (suc j) d (omega arith) (omega (arith, h))) (λ j d l h. greater (suc j) d (omega (arith, l)) (omega (arith, h)))

-- ---- the search

pub placed : (es : List MetadataEntry) (k : List ℕ) (r : Result ℕ ℕ) → T (is_sorted names (map name_and_texts es))
    → IsBinarySearchResult (λ e. slice_cmp nat_cmp e.name k) es r → IsPlaceOf es k r
placed es k (Ok i) h is = is
placed es k (Err i) h is = is (rises es h k)

-- ---- an entry more

-- what has the entries that an insertion leaves is in order, and is the map after it
pub in_order : (es fs : List MetadataEntry) (k : List ℕ) (texts : List (List ℕ)) → T (is_sorted names (map name_and_texts es))
    → put names k texts (map name_and_texts es) ≡ map name_and_texts fs → T (is_sorted names (map name_and_texts fs))
in_order es fs k texts h e = subst (λ l. T (is_sorted names l)) e (is_sorted-put names nat_list_cmp_total k texts (map name_and_texts es) h)

pub inserted : (es fs : List MetadataEntry) (k : List ℕ) (texts : List (List ℕ)) → T (is_sorted names (map name_and_texts es))
    → put names k texts (map name_and_texts es) ≡ map name_and_texts fs
    → map.from_sorted {R = slice_cmp nat_cmp} (map name_and_texts fs) ≡ map.insert (map.from_sorted (map name_and_texts es)) k texts
inserted es fs k texts h e =
    map.same_entries_map _ _
    (map.entries-from_sorted names (map name_and_texts fs) (in_order es fs k texts h e)
    ∙ sym e
    ∙ ap (put names k texts) (sym (map.entries-from_sorted names (map name_and_texts es) h))
    ∙ sym (map.entries-insert nat_list_cmp_total (map.from_sorted (map name_and_texts es)) k texts))
