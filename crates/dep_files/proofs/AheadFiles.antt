-- The first files of an object, and those that follow them.
use Rattle.std.proofs.Common.{◌≡◌, ℕ, ◌+◌, ◌-◌, ◌<◌, ◌≤◌, min, List, [], ◌∷◌, ◌++◌, length, take, drop, map, Option, Some, None, IfSome, refl, sym, ap, subst, ◌∙◌, arith}
use Rattle.std.specs.Prelude.{option_map}
use Rattle.std.specs.List.{slice_get}
use Rattle.std.specs.Option.{option_map_or}
use Rattle.std.specs.FinMap as finmap
use Rattle.std.proofs.lemmas.List.{length-take, map-append, take-append-drop, take-append-le, take_min}
use Rattle.std.proofs.lemmas.Option.{slice_get_within, slice_get-get_or}
use Rattle.std.proofs.Math.Seq.{take-add}
use Rattle.sqlite.proofs.MarkLemmas.{slice_get-take}
use Rattle.dep_types.specs.Maps.{Numbered}
use Rattle.dep_types.specs.State.{State, Object, File}
use Rattle.dep_types.specs.Rows.{object_row}
use Rattle.dep_types.specs.Sound.{IsSound}
use Rattle.dep_types.specs.declared.rows.FileRow.{FileRow}
use Rattle.dep_types.specs.declared.rows.ObjectRow.{ObjectRow}
use Rattle.dep_row_maps.specs.Stored.{HasRow}
use Rattle.dep_row_maps.specs.TablesAre.{files_at}
use Rattle.dep_row_maps.specs.ReadLaws.{file_rows, files_from}
use Rattle.dep_row_maps.proofs.ListedFiles.{files_from_none, files_behind}
use Rattle.dep_files.specs.Ahead.{number_behind}
use Rattle.dep_files.specs.Held.{IsReadPart, read_part}
use Rattle.dep_files.specs.declared.held.ReadPart.{ReadPart}

-- ---- the first of a list

-- some that are the first are so by their own number
pub first_are : {X : Type 0} (xs all : List X) (m : ℕ) → xs ≡ take m all → xs ≡ take (length xs) all
first_are xs all m is = is ∙ sym (take_min m all) ∙ ap (λ k. take k all) (sym (ap length is ∙ length-take m all))

-- and are it still, once more stand behind all
pub first_still : {E X : Type 0} (g : E → X) (es more now : List E) (xs : List X) → now ≡ es ++ more → xs ≡ take (length xs) (map g es) → xs ≡ take (length xs) (map g now)
first_still g es more now xs is first =
    let all = map g es in
    let count : length xs ≡ min (length xs) (length all) = ap length first ∙ length-take (length xs) all in
    let within : length xs ≤ length all = omega (arith, count) in
    first ∙ sym (ap (λ l. take (length xs) (map g l)) is ∙ ap (take (length xs)) (map-append g es more) ∙ take-append-le (length xs) all (map g more) within)

-- where there is no last one there is none
no_last : {X : Type 0} (xs : List X) → slice_get xs (length xs - 1) ≡ None → xs ≡ []
no_last [] is = refl
no_last (x ∷ xs) is =
    let all = x ∷ xs in
    let never = sym is ∙ slice_get-get_or all (length all - 1) x (omega arith) in
    absurd (cc)

-- ---- the object of a row

-- the object whose row this is
module _ (s : State) (row : ObjectRow) (has : HasRow s row) where
  pub its_object : (o : Object) × ((finmap.get s.objects row.object ≡ Some o) × (row ≡ object_row row.object o))
  its_object = go (finmap.get s.objects row.object) refl has
    where
      go : (found : Option Object) → finmap.get s.objects row.object ≡ found → Some row ≡ option_map (object_row row.object) found → (o : Object) × ((finmap.get s.objects row.object ≡ Some o) × (row ≡ object_row row.object o))
      go None is e = absurd (cc)
      go (Some o) is e = let same : row ≡ object_row row.object o = cc in (o, (is, same))

-- what is read of its object is held for it
module _ {P : Type 0} (IsPartOf : ℕ → Object → P → Type 0) (s : State) (row : ObjectRow) (has : HasRow s row) (part : P) where
  pub held_part : IsSound s → ((o : Object) → finmap.get s.objects row.object ≡ Some o → IsPartOf row.object o part) → IsReadPart IsPartOf s (read_part row part)
  held_part sound are =
      let its = its_object s row has in
      record {
        given = subst (λ tag. tag < s.next.change) (sym (ap (λ (r : ObjectRow). r.object_tag) its.1.1)) (sound.objects row.object its.0 its.1.0).tag_given.below;
        part = λ o there tagged. are o there;
      }

  -- and taken out of it
  pub taken_part : {held : Option (ReadPart P)} → held ≡ Some (read_part row part) → IfSome held (IsReadPart IsPartOf s) → (o : Object) → finmap.get s.objects row.object ≡ Some o → IsPartOf row.object o part
  taken_part is are o there =
      let its = its_object s row has in
      let both : Some its.0 ≡ Some o = sym its.1.0 ∙ there in
      let same : its.0 ≡ o = cc in
      let tagged : o.tag ≡ row.object_tag = sym (ap (λ (r : ObjectRow). r.object_tag) its.1.1 ∙ ap (λ (it : Object). it.tag) same) in
      (subst (λ (x : Option (ReadPart P)). IfSome x (IsReadPart IsPartOf s)) is are).part o there tagged

-- its files
pub files_are : (s : State) (n : ℕ) (o : Object) → finmap.get s.objects n ≡ Some o → files_at s.objects n ≡ o.files
files_are s n o there = ap (λ x. option_map_or (λ (y : Object). y.files) x finmap.empty) there

-- ---- the rows behind those

module _ (n : ℕ) (files : Numbered File) (rows : List FileRow) (first : rows ≡ take (length rows) (file_rows n files)) where
  abbrev all : List FileRow
  all = file_rows n files

  -- from the number behind the last on they are those that are left
  pub left_from : files_from (number_behind rows) all ≡ drop (length rows) all
  left_from = go (slice_get rows (length rows - 1)) refl
    where
      go : (last : Option FileRow) → slice_get rows (length rows - 1) ≡ last → files_from (option_map_or (λ (row : FileRow). row.file + 1) last 0) all ≡ drop (length rows) all
      go None is = files_from_none all ∙ ap (λ (rs : List FileRow). drop (length rs) all) (sym (no_last rows is))
      go (Some row) is =
          let k = length rows - 1 in
          let within : k < length rows = slice_get_within rows k row is in
          let there : slice_get all k ≡ Some row = sym (slice_get-take (length rows) all k within) ∙ ap (λ l. slice_get l k) (sym first) ∙ is in
          let next : k + 1 ≡ length rows = omega (arith, within) in
          files_behind n files k row there ∙ ap (λ k. drop k all) next

  -- with more of them they are the first still
  pub more_first : (from m : ℕ) (page now : List FileRow) → from ≡ number_behind rows → page ≡ take m (files_from from all) → now ≡ rows ++ page → now ≡ take (length now) all
  more_first from m page now begins is joined =
      let rest : page ≡ take m (drop (length rows) all) = is ∙ ap (take m) (ap (λ k. files_from k all) begins ∙ left_from) in
      first_are now all (length rows + m) (joined ∙ (λ i. first i ++ rest i) ∙ sym (take-add (length rows) m all))

  -- with all that are left they are all
  pub rest_all : (from : ℕ) (rest now : List FileRow) → from ≡ number_behind rows → rest ≡ files_from from all → now ≡ rows ++ rest → now ≡ all
  rest_all from rest now begins is joined =
      let left : rest ≡ drop (length rows) all = is ∙ ap (λ k. files_from k all) begins ∙ left_from in
      joined ∙ (λ i. first i ++ left i) ∙ take-append-drop (length rows) all
