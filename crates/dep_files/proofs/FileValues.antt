-- The SHA-512 values of the files of an object.
use Rattle.std.proofs.Common.{◌≡◌, ℕ, ◌+◌, List, [], ◌∷◌, ◌++◌, length, take, map, Option, Some, None, refl, sym, ap, ◌∙◌}
use Rattle.std.specs.Prelude.{option_map}
use Rattle.std.specs.List.{AllByRecursion, slice_get}
use Rattle.std.specs.FinMap as finmap
use Rattle.std.proofs.lemmas.List.{take_more}
use Rattle.std.proofs.lemmas.Option.{get_or_from_slice_get, slice_get-map, slice_get_within}
use Rattle.sha2.specs.Sha512.{sha512}
use Rattle.sqlite.proofs.MarkLemmas.{slice_get-take}
use Rattle.sqlite_rules.proofs.ListLemmas.{all_from}
use Rattle.sqlite_trees.proofs.ListLemmas.{all-slice_get}
use Rattle.dep_types.specs.State as machine
use Rattle.dep_types.specs.State.{File}
use Rattle.dep_types.specs.Rows.{file_row, sha512s_of}
use Rattle.dep_types.specs.declared.rows.FileRow.{FileRow}
use Rattle.dep_row_maps.specs.ReadLaws.{file_rows}
use Rattle.dep_row_maps.specs.TablesAre.{files_at}
use Rattle.dep_row_maps.proofs.Left.{entry_found}

-- it is the SHA-512 of the file with this row, where that is there
abbrev pub IsValueOf : machine.State → FileRow → List ℕ → Type 0
IsValueOf s row value = (n : ℕ) (it : File) → finmap.get (files_at s.objects n) row.file ≡ Some it → value ≡ sha512 it.content

module _ (s : machine.State) (n : ℕ) where
  abbrev IsThere : ℕ × File → Type 0
  IsThere e = finmap.get (files_at s.objects n) e.0 ≡ Some e.1

  abbrev row_of : ℕ × File → FileRow
  row_of e = file_row n e.0 e.1

  abbrev value_of : ℕ × File → List ℕ
  value_of e = sha512 e.1.content

  -- the value at the place of a row
  value_at : (es : List (ℕ × File)) → AllByRecursion IsThere es → (p : ℕ) (row : FileRow) (value : List ℕ) → slice_get (map row_of es) p ≡ Some row → IsValueOf s row value → slice_get (map value_of es) p ≡ Some value
  value_at es there p row value at its = go (slice_get es p) refl (sym (slice_get-map row_of es p) ∙ at)
    where
      go : (found : Option (ℕ × File)) → slice_get es p ≡ found → option_map row_of found ≡ Some row → slice_get (map value_of es) p ≡ Some value
      go None is e = absurd (cc)
      go (Some e) is of_row =
          let same : row_of e ≡ row = cc in
          let has : finmap.get (files_at s.objects n) row.file ≡ Some e.1 = ap (λ (r : FileRow). finmap.get (files_at s.objects n) r.file) (sym same) ∙ all-slice_get IsThere es p e is there in
          slice_get-map value_of es p ∙ ap (option_map value_of) is ∙ ap Some (sym (its n e.1 has))

  -- one more value behind those of the files before it
  pub one_more_value : (rows : List FileRow) → rows ≡ take (length rows) (file_rows n (files_at s.objects n)) → (p : ℕ) (row : FileRow) (value : List ℕ) (values now : List (List ℕ)) → slice_get rows p ≡ Some row → IsValueOf s row value
      → values ≡ take p (sha512s_of (files_at s.objects n)) → now ≡ values ++ value ∷ [] → now ≡ take (p + 1) (sha512s_of (files_at s.objects n))
  one_more_value rows first p row value values now at its before grown =
      let files = finmap.entries (files_at s.objects n) in
      let all = sha512s_of (files_at s.objects n) in
      let listed = file_rows n (files_at s.objects n) in
      let there = all_from IsThere files (λ e has. finmap.get-entries (files_at s.objects n) e.0 ∙ entry_found files (finmap.entries_sorted (files_at s.objects n)) e has) in
      let in_all : slice_get listed p ≡ Some row = sym (slice_get-take (length rows) listed p (slice_get_within rows p row at)) ∙ ap (λ l. slice_get l p) (sym first) ∙ at in
      let next : slice_get all p ≡ Some value = value_at files there p row value in_all its in
      grown ∙ ap (λ l. l ++ value ∷ []) before ∙ ap (λ v. take p all ++ v ∷ []) (sym (get_or_from_slice_get all p value value next)) ∙ sym (take_more all p value (slice_get_within all p value next))
