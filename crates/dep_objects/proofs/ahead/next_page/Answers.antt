use Rattle.std.proofs.Common.{◌≡◌, ◌∙◌, ◌-◌, ℕ, List, [], ◌∷◌, ◌++◌, length, map, filter, take, Ok, Vec, ap, arith, refl, subst, sym}
use Rattle.std.specs.Prelude.{option_map}
use Rattle.std.proofs.lemmas.Bool.Decides.{nat_tests}
use Rattle.std.specs.List.{slice_get}
use Rattle.sqlite.specs.Effect.{Database}
use Rattle.sqlite.specs.State as db
use Rattle.dep_types.specs.State.{Texts}
use Rattle.dep_tables.proofs.Chains.{clean_before, reads_ok, reads_then, still_ours}
use Rattle.dep_tables.specs.Clauses.{Queries}
use Rattle.dep_tables.specs.Edits.{page_size}
use Rattle.dep_tables.specs.Rows.{is_text_from, is_text_from_name, metadata_values}
use Rattle.dep_tables.specs.Statements.{query_of_texts_from, query_of_texts_from_name}
use Rattle.dep_tables.specs.Tables.{Tables, tables_in, tables_of}
use Rattle.dep_tables.specs.declared.metadata.MetadataRow.{MetadataRow}
use Rattle.dep_row_maps.specs.Clauses.{ReadsMaps}
use Rattle.dep_row_maps.specs.Stored.{metadata_rows}
use Rattle.dep_row_maps.specs.TablesAre.{TablesAre, metadata_at}
use Rattle.dep_row_maps.proofs.Calling.{queried_ok}
use Rattle.dep_row_maps.proofs.PickedTexts.{texts_page_read}
use Rattle.dep_objects.specs.Ahead.{key_after, IsPage}
use Rattle.dep_objects.specs.declared.ahead.TextKey.{TextKey}
use Rattle.dep_objects.specs.declared.ahead.TextsPage.{TextsPage}
use Rattle.dep_objects.proofs.Pages.{above_page, last_page, named_page, seen_above, seen_from, tests_behind, tests_from}
use Rattle.dep_objects.proofs.ahead.next_page.Goals as goal

is_none : (rows : List MetadataRow) → length rows ≡ 0 → rows ≡ []
is_none [] none = refl
is_none (r ∷ rows) none = absurd (cc none)

-- where none of the key's name is left, the page is of the names above it
module _ {T L Z : Type 0} {lenders : T → L} {state : T → db.State} {old mid new : T} {none rows : Vec MetadataRow Z} {page : TextsPage} (n : ℕ) (from : TextKey) (behind : List ℕ) where
  read_above : Queries lenders state old mid (Ok none) (query_of_texts_from n from.name from.place) → Queries lenders state mid new (Ok rows) (query_of_texts_from_name n behind)
      → length none.items ≡ 0 → behind ≡ from.name ++ 0 ∷ []
      → ((m : Texts) → [] ≡ take page_size (filter (seen_from from) (metadata_rows n m)) → map metadata_values rows.items ≡ take page_size (filter (seen_above from) (metadata_rows n m))
      → IsPage (metadata_rows n m) from page)
      → ReadsMaps lenders state old new (Ok page) (λ s. IsPage (metadata_rows n (metadata_at s.objects n)) from)
  read_above named above empty is pages = record {
    map = λ clean ours s are.
        let before = clean_before above.keeps.stays clean in
        let same = named.keeps.same before ours in
        let are_still = subst (λ (t : Tables). TablesAre t s) (sym (ap (λ (d : Database). tables_in d.trees) same.0.now_is)) are in
        pages (metadata_at s.objects n)
        (sym (ap (map metadata_values) (is_none none.items empty)) ∙ texts_page_read (tables_of (state old)) s are n (is_text_from n from.name from.place) (seen_from from) (tests_from n from) none.items (named.ok before ours))
        (texts_page_read (tables_of (state mid)) s are_still n (is_text_from_name n behind) (seen_above from) (tests_behind n from behind is) rows.items (above.ok clean (still_ours (state old) (state mid) same ours)));
    keeps = reads_ok (reads_then named.keeps above.keeps);
  }

pub returns-then-not-is_empty : goal.returns-then-not-is_empty
returns-then-not-is_empty g c = record {
  does =
      let n = c.args.object in
      let from = c.args.from.now in
      let rows = c.in_ok-rows.rows.items in
      queried_ok c.in_ok-rows.ensures.does (λ clean ours s are.
      named_page n (metadata_at s.objects n) from rows
      (texts_page_read (tables_of (g.T.Statements.state c.args.tx.now)) s are n (is_text_from n from.name from.place) (seen_from from) (tests_from n from) rows (c.in_ok-rows.ensures.does.ok clean ours))
      (grind (arith, nat_tests, c.in_ok-rows.rows.ok.0, c.is_empty.ensures, c.if-not-is_empty.true)) c.in_ok-next.next (c.in_ok-next.ensures ∙ ap (λ rs. option_map key_after (slice_get rs (length rs - 1))) c.as_slice.ensures.value));
}

pub returns-then-len-lt-PAGE_SIZE : goal.returns-then-len-lt-PAGE_SIZE
returns-then-len-lt-PAGE_SIZE g c = record {
  does =
      read_above c.args.object c.args.from.now c.in_ok-behind.behind c.in_ok-rows.ensures.does c.in_ok-rows-2.ensures.does
      (grind (arith, nat_tests, c.in_ok-rows.rows.ok.0, c.is_empty.ensures, c.if-not-is_empty.false)) c.in_ok-behind.ensures
      (λ m none is. last_page c.args.object m c.args.from.now c.in_ok-rows-2.rows.items none is (omega (arith, c.in_ok-rows-2.rows.ok.0, c.len.ensures, c.if-len-lt-PAGE_SIZE.true)));
}

pub returns : goal.returns
returns g c = record {
  does =
      read_above c.args.object c.args.from.now c.in_ok-behind.behind c.in_ok-rows.ensures.does c.in_ok-rows-2.ensures.does
      (grind (arith, nat_tests, c.in_ok-rows.rows.ok.0, c.is_empty.ensures, c.if-not-is_empty.false)) c.in_ok-behind.ensures
      (λ m none is.
      above_page c.args.object m c.args.from.now c.in_ok-rows-2.rows.items none is (omega (arith, c.in_ok-rows-2.rows.ok.0, c.len.ensures, c.if-len-lt-PAGE_SIZE.false)) c.in_ok-next-2.next
      (c.in_ok-next-2.ensures ∙ ap (λ rs. option_map key_after (slice_get rs (length rs - 1))) c.as_slice-2.ensures.value));
}
