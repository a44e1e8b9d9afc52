-- Texts that are gathered name by name.
use Rattle.std.proofs.Common.{◌≡◌, ℕ, cond, List, [], ◌∷◌, ◌++◌, Some, refl, sym, ap, ◌∙◌, Ordering, Less, Equal, Greater, is_eq, nat_cmp}
use Rattle.std.specs.Prelude.{unwrap_or}
use Rattle.std.proofs.lemmas.Cmp.{nat_list_cmp_total, tied_itself}
use Rattle.std.specs.Cmp.Lexicographic.{slice_cmp}
use Rattle.std.specs.FinMap as finmap
use Rattle.dep_types.specs.State.{Texts}
use Rattle.dep_row_maps.specs.Stored.{with_added_text, texts_under}

bytes_same : finmap.IsAntisymmetric (slice_cmp nat_cmp)
bytes_same = finmap.slice_cmp-IsAntisymmetric finmap.nat_cmp-IsAntisymmetric

texts_now : (m : Texts) (name : List ℕ) (texts : List (List ℕ)) → texts_under (finmap.insert m name texts) name ≡ texts
texts_now m name texts =
    ap (λ o. unwrap_or o []) (finmap.get-insert nat_list_cmp_total m name texts name ∙ ap (λ o. cond (is_eq o) (Some texts) (finmap.get m name)) (tied_itself nat_list_cmp_total name))

insert_over : (m : Texts) (name : List ℕ) (a b : List (List ℕ)) → finmap.insert (finmap.insert m name a) name b ≡ finmap.insert m name b
insert_over m name a b = finmap.same_map nat_list_cmp_total bytes_same _ _ (λ q.
    finmap.get-insert nat_list_cmp_total (finmap.insert m name a) name b q ∙ ap (cond (is_eq (slice_cmp nat_cmp q name)) (Some b)) (finmap.get-insert nat_list_cmp_total m name a q) ∙ go q (slice_cmp nat_cmp q name)
    ∙ sym (finmap.get-insert nat_list_cmp_total m name b q))
  where
    go : (q : List ℕ) (o : Ordering) → cond (is_eq o) (Some b) (cond (is_eq o) (Some a) (finmap.get m q)) ≡ cond (is_eq o) (Some b) (finmap.get m q)
    go q Less = refl
    go q Equal = refl
    go q Greater = refl

-- one more text of the name that is gathered last
pub one_more : (m : Texts) (name key : List ℕ) (texts more : List (List ℕ)) (value : List ℕ) → name ≡ key → more ≡ texts ++ value ∷ [] → finmap.insert m name more ≡ with_added_text (finmap.insert m name texts) (key, value)
one_more m name key texts more value same grown =
    ap (finmap.insert m name) grown ∙ sym (insert_over m name texts (texts ++ value ∷ [])) ∙ ap (λ ts. finmap.insert (finmap.insert m name texts) name (ts ++ value ∷ [])) (sym (texts_now m name texts))
    ∙ ap (λ k. with_added_text (finmap.insert m name texts) (k, value)) same
