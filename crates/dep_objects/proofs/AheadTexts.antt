-- Texts of an object that were read ahead.
use Rattle.std.proofs.Common.{◌≡◌, ◌∙◌, ℕ, true, false, Option, Some, IfSome, fold, map as each, sym, ap, subst}
use Rattle.std.specs.Option.{option_map_or}
use Rattle.std.specs.FinMap as finmap
use Rattle.dep_types.specs.State.{State, Object, Texts}
use Rattle.dep_types.specs.Sound.{IsSound}
use Rattle.dep_types.specs.declared.rows.ObjectRow.{ObjectRow}
use Rattle.dep_row_maps.specs.Stored.{grouped, HasRow, metadata_rows, pair_seen, with_added_text}
use Rattle.dep_row_maps.specs.TablesAre.{metadata_at}
use Rattle.dep_row_maps.specs.ReadLaws.{pair_of}
use Rattle.dep_files.specs.Held.{IsReadPart, read_part}
use Rattle.dep_files.specs.declared.held.ReadPart.{ReadPart}
use Rattle.dep_files.proofs.AheadFiles.{held_part, its_object, taken_part}
use Rattle.dep_objects.specs.Objects.{IsDescribed}
use Rattle.dep_objects.specs.Ahead.{AreTextsSoFar, IsPage, rows_before}
use Rattle.dep_objects.specs.Texts.{closed}
use Rattle.dep_objects.specs.declared.ahead.TextsPage.{TextsPage}
use Rattle.dep_objects.specs.declared.ahead.ReadTexts.{ReadTexts}
use Rattle.dep_objects.proofs.Pages.{page_gathered}
use Rattle.dep_objects.proofs.Puts.{described}

texts_are : (s : State) (n : ℕ) (o : Object) → finmap.get s.objects n ≡ Some o → metadata_at s.objects n ≡ o.metadata
texts_are s n o there = ap (λ x. option_map_or (λ (y : Object). y.metadata) x finmap.empty) there

abbrev AreTextsOf : ℕ → Object → ReadTexts → Type 0
AreTextsOf n o read = AreTextsSoFar n o.metadata read

module _ (s : State) (row : ObjectRow) (has : HasRow s row) (read : ReadTexts) where
  -- what is read of its object is held for it
  pub held_texts : IsSound s → AreTextsSoFar row.object (metadata_at s.objects row.object) read → IsReadPart AreTextsOf s (read_part row read)
  held_texts sound are = held_part AreTextsOf s row has read sound (λ o there. subst (λ m. AreTextsSoFar row.object m read) (texts_are s row.object o there) are)

  -- and taken out of it
  pub taken_texts : {held : Option (ReadPart ReadTexts)} → held ≡ Some (read_part row read) → IfSome held (IsReadPart AreTextsOf s) → AreTextsSoFar row.object (metadata_at s.objects row.object) read
  taken_texts is are =
      let its = its_object s row has in
      subst (λ m. AreTextsSoFar row.object m read) (sym (texts_are s row.object its.0 its.1.0)) (taken_part AreTextsOf s row has read is are its.0 its.1.0)

  -- all of its texts
  pub whole_described : IsSound s → AreTextsSoFar row.object (metadata_at s.objects row.object) read → read.is_whole ≡ true → IsDescribed s row.object (record { row = row; metadata = read.metadata })
  whole_described sound are whole = described s row.object row read.metadata sound has (are.whole whole)

-- what the texts come to with those of a page
pub with_texts_of : (n : ℕ) (m : Texts) (read : ReadTexts) (page : TextsPage) → AreTextsSoFar n m read → read.is_whole ≡ false → IsPage (metadata_rows n m) read.next page → (kept : Texts)
    → kept ≡ fold with_added_text (closed read.metadata read.last) (each pair_of page.rows.items) → kept ≡ grouped (each pair_seen (rows_before page.next (metadata_rows n m)))
with_texts_of n m read page first part rows kept is =
    is ∙ ap (λ m. fold with_added_text m (each pair_of page.rows.items)) (first.part part) ∙ page_gathered n m (rows_before (Some read.next) (metadata_rows n m)) page.rows.items ∙ ap (λ rs. grouped (each pair_seen rs)) (sym rows)
