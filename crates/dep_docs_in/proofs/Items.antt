-- Items that are read one after another.
use Rattle.std.proofs.Common.{◌≡◌, ◌==◌, Bool, true, false, ℕ, zero, suc, ◌+◌, ◌<◌, List, [], ◌∷◌, ◌++◌, length, drop, Option, Some, None, option_map, append_assoc, append-nil, refl, sym, ap, ◌∙◌, arith}
use Rattle.std.proofs.Math.Seq.{drop-cons}
use Rattle.std.proofs.lemmas.Bool.{eqb-true}
use Rattle.std.specs.Prelude.{slice_index_or}
use Rattle.serde_json.specs.Data.{Data, Items, item, no_items}
use Rattle.serde_json.specs.Find.{as_str, as_array}
use Rattle.serde_json.specs.View.{view, items_view}
use Rattle.serde_json.specs.declared.value.Value.{Value}
use Rattle.dep_types.specs.Maps.{◌>>=◌, provided}
use Rattle.dep_docs_in.specs.Ahead.{with_front}
use Rattle.dep_docs_in.specs.Documents.{each_read, not_empty, text_or_list, texts_in}
use Rattle.dep_docs_in.specs.Faults.{IsUnreadable}
use Rattle.dep_docs_in.specs.declared.fault.DocFault.{DocFault}
use Rattle.dep_docs_in.specs.declared.fault.DocFault.TheVariants.{Malformed, Memory}

module _ {X : Type 0} (reads : Data → Option X) where
  pub none_yet : (front : List X) (o : Option (List X)) → front ≡ [] → o ≡ with_front front o
  none_yet front None e = refl
  none_yet front (Some xs) e = ap (λ f. Some (f ++ xs)) (sym e)

  next : (i : ℕ) → suc i ≡ i + 1
  next i = omega arith

  split : (vs : List Value) (i : ℕ) (v : Value) → i < length vs → slice_index_or vs i v ≡ v
      → each_read reads (items_view (drop i vs)) ≡ (reads (view v) >>= (λ x. each_read reads (items_view (drop (i + 1) vs)) >>= (λ xs. Some (x ∷ xs))))
  unfolding each_read
  split vs i v lt is = ap (λ l. each_read reads (items_view l)) (drop-cons vs i v lt ∙ (λ j. is j ∷ drop (next i j) vs))

  pushed : (front : List X) (x : X) (o : Option (List X)) → with_front front (o >>= (λ xs. Some (x ∷ xs))) ≡ with_front (front ++ x ∷ []) o
  pushed front x None = refl
  pushed front x (Some xs) = ap Some (sym (append_assoc front (x ∷ []) xs))

  pub one_more : (all : Option (List X)) (vs : List Value) (i : ℕ) (v : Value) (front now : List X) (x : X) → all ≡ with_front front (each_read reads (items_view (drop i vs)))
      → i < length vs → slice_index_or vs i v ≡ v → reads (view v) ≡ Some x → now ≡ front ++ x ∷ []
      → all ≡ with_front now (each_read reads (items_view (drop (i + 1) vs)))
  one_more all vs i v front now x so_far lt is read e =
      so_far
      ∙ ap (with_front front) (split vs i v lt is ∙ ap (λ o. o >>= (λ x. each_read reads (items_view (drop (i + 1) vs)) >>= (λ xs. Some (x ∷ xs)))) read)
      ∙ pushed front x (each_read reads (items_view (drop (i + 1) vs)))
      ∙ ap (λ f. with_front f (each_read reads (items_view (drop (i + 1) vs)))) (sym e)

  pub failed : (all : Option (List X)) (vs : List Value) (i : ℕ) (v : Value) (front : List X) (e : DocFault) → all ≡ with_front front (each_read reads (items_view (drop i vs)))
      → i < length vs → slice_index_or vs i v ≡ v → IsUnreadable e (reads (view v)) → IsUnreadable e all
  failed all vs i v front Malformed so_far lt is none =
      so_far ∙ ap (with_front front) (split vs i v lt is ∙ ap (λ o. o >>= (λ x. each_read reads (items_view (drop (i + 1) vs)) >>= (λ xs. Some (x ∷ xs)))) none)
  failed all vs i v front Memory so_far lt is none = tt

  past : (vs : List Value) (i : ℕ) → length vs < i + 1 → drop i vs ≡ []
  past [] zero h = refl
  past [] (suc i) h = refl
  past (v ∷ vs) zero h = absurd (omega (arith, h))
  past (v ∷ vs) (suc i) h = past vs i (omega (arith, h))

  pub at_end : (all : Option (List X)) (vs : List Value) (i : ℕ) (front : List X) → all ≡ with_front front (each_read reads (items_view (drop i vs)))
      → length vs < i + 1 → all ≡ Some front
  unfolding each_read
  at_end all vs i front so_far h = so_far ∙ ap (λ l. with_front front (each_read reads (items_view l))) (past vs i h) ∙ ap Some (append-nil front)

  then_one : (o : Option X) (more : Option (List X)) → ((o >>= (λ x. more >>= (λ xs. Some (x ∷ xs)))) >>= not_empty) ≡ (o >>= (λ x. more >>= (λ xs. Some (x ∷ xs))))
  then_one (Some x) (Some xs) = refl
  then_one _ _ = refl

  -- where there are items, something is read or nothing can be
  pub some_read : (o : Option Items) (vs : List Value) → o ≡ Some (items_view vs) → 0 < length vs
      → (o >>= (λ items. each_read reads items >>= not_empty)) ≡ each_read reads (items_view vs)
  unfolding each_read
  some_read o [] there some = absurd (omega (arith, some))
  some_read o (v ∷ vs) there some = rw there (then_one (reads (view v)) (each_read reads (items_view vs)))

  pub none_read : (b : Bool) (o : Option Items) (vs : List Value) → o ≡ Some (items_view vs) → (length vs == 0) ≡ true
      → (provided b o >>= (λ items. each_read reads items >>= not_empty)) ≡ None
  unfolding each_read
  none_read true o [] there none = rw there refl
  none_read false o [] there none = refl
  none_read b o (v ∷ vs) there none = absurd (omega (arith, eqb-true (length (v ∷ vs)) 0 none))

  pub unlisted : (b : Bool) (o : Option Items) → o ≡ None → (provided b o >>= (λ items. each_read reads items >>= not_empty)) ≡ None
  unlisted true o none = rw none refl
  unlisted false o none = refl

one_text : (o : Option (List ℕ)) → (o >>= (λ x. Some (x ∷ []))) ≡ text_or_list o None
one_text None = refl
one_text (Some text) = refl

-- a text is read as the list of it
pub one_read : (d : Data) → as_array d ≡ None → each_read as_str (item d no_items) ≡ texts_in d
unfolding each_read
one_read d none = one_text (as_str d) ∙ ap (text_or_list (as_str d)) (sym none)
