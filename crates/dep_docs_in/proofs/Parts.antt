-- Entries of a document of references that are read some at a time.
use Rattle.std.proofs.Common.{◌≡◌, ◌∙◌, ◌==◌, ℕ, zero, suc, ◌+◌, ◌<◌, ◌≤◌, Bool, true, false, List, [], ◌∷◌, ◌++◌, length, drop, Option, Some, None, option_map, is_some, IfSome, length-append, refl, sym, ap, arith}
use Rattle.std.specs.Prelude.{slice_index_or}
use Rattle.serde_json.specs.View.{view, items_view}
use Rattle.serde_json.specs.declared.value.Value.{Value}
use Rattle.dep_docs_in.specs.Ahead.{items_behind, read_behind, with_front}
use Rattle.dep_types.specs.Maps.{◌>>=◌}
use Rattle.serde_json.specs.Data.{Data}
use Rattle.dep_docs_in.specs.Documents.{document, each_read, entries_of, reference_in, references_of, references_read}
use Rattle.dep_docs_in.specs.Faults.{IsUnreadable}
use Rattle.dep_docs_in.specs.declared.fault.DocFault.{DocFault}
use Rattle.dep_docs_in.specs.declared.reference.Reference.{Reference}
use Rattle.dep_docs_in.proofs.Items.{none_yet, one_more, failed, at_end, some_read}

-- what is there where something is
pub taken : {X : Type 0} {P : X → Type 0} (o : Option X) → IfSome o P → is_some o ≡ true → (x : X) × P x
taken None h is = cc is
taken (Some x) h is = (x, h)

behind-drop : (n : ℕ) (vs : List Value) → items_behind n (items_view vs) ≡ items_view (drop n vs)
unfolding items_behind
behind-drop zero vs = refl
behind-drop (suc n) [] = refl
behind-drop (suc n) (v ∷ vs) = behind-drop n vs

module _ (base : List ℕ) (vs : List Value) where
  listed : (front : List Reference) → read_behind base front (items_view vs) ≡ with_front front (each_read (reference_in base) (items_view (drop (length front) vs)))
  listed front = ap (λ ds. with_front front (each_read (reference_in base) ds)) (behind-drop (length front) vs)

  next_length : (front now : List Reference) (x : Reference) → now ≡ front ++ x ∷ [] → length now ≡ length front + 1
  next_length front now x e = ap length e ∙ length-append front (x ∷ [])

  -- the next entry was read
  pub grown : (v : Value) (front now : List Reference) (x : Reference) → length front < length vs → slice_index_or vs (length front) v ≡ v
      → reference_in base (view v) ≡ Some x → now ≡ front ++ x ∷ [] → read_behind base front (items_view vs) ≡ read_behind base now (items_view vs)
  grown v front now x lt is read e =
      one_more (reference_in base) (read_behind base front (items_view vs)) vs (length front) v front now x (listed front) lt is read e
      ∙ ap (λ n. with_front now (each_read (reference_in base) (items_view (drop n vs)))) (sym (next_length front now x e))
      ∙ sym (listed now)

  -- it can't be read
  pub stopped : (v : Value) (front : List Reference) (e : DocFault) → length front < length vs → slice_index_or vs (length front) v ≡ v
      → IsUnreadable e (reference_in base (view v)) → IsUnreadable e (read_behind base front (items_view vs))
  stopped v front e lt is none = failed (reference_in base) (read_behind base front (items_view vs)) vs (length front) v front e (listed front) lt is none

  -- all were read
  pub all_read : (front : List Reference) → length vs ≤ length front → read_behind base front (items_view vs) ≡ Some front
  all_read front h = at_end (reference_in base) _ vs (length front) front (listed front) (omega (arith, h))

  -- none was
  pub none_read_yet : (front : List Reference) → front ≡ [] → each_read (reference_in base) (items_view vs) ≡ read_behind base front (items_view vs)
  none_read_yet front e = none_yet (reference_in base) [] (each_read (reference_in base) (items_view vs)) refl ∙ sym (listed []) ∙ ap (λ f. read_behind base f (items_view vs)) (sym e)

  -- what a document says is what its entries say
  pub said : (content : List ℕ) (d : Data) → document content ≡ Some d → entries_of d ≡ Some (items_view vs) → 0 < length vs
      → references_read base content ≡ each_read (reference_in base) (items_view vs)
  said content d is there some = ap (λ o. o >>= references_of base) is ∙ some_read (reference_in base) (entries_of d) vs there some

  -- and what is said behind no reference yet
  pub begun : (content : List ℕ) (d : Data) (front : List Reference) → document content ≡ Some d → entries_of d ≡ Some (items_view vs)
      → 0 < length vs → front ≡ [] → references_read base content ≡ (entries_of d >>= read_behind base front)
  begun content d front is there some none =
      said content d is there some ∙ none_read_yet front none ∙ ap (λ o. o >>= read_behind base front) (sym there)
