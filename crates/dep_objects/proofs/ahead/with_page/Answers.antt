use Rattle.std.proofs.Common.{◌∙◌, ap, map as each, Some, sym}
use Rattle.dep_row_maps.specs.Stored.{grouped, metadata_rows, pair_seen}
use Rattle.dep_objects.specs.Ahead.{rows_before}
use Rattle.dep_objects.specs.Texts.{closed}
use Rattle.dep_objects.proofs.AheadTexts.{with_texts_of}
use Rattle.dep_objects.proofs.Pages.{all_gathered}
use Rattle.dep_objects.proofs.ahead.with_page.Goals as goal

pub returns-in_default : goal.returns-in_default
returns-in_default c n m part is page = record {
  part = λ never. absurd (cc never);
  whole = λ _.
      c.in_ok-close.ensures ∙ with_texts_of n m c.args.read c.args.page is part page (closed c.gather_rows.new.metadata c.in_ok-last.last) c.in_ok-last.ensures.reported
      ∙ ap (λ next. grouped (each pair_seen (rows_before next (metadata_rows n m)))) c.in_default.is ∙ all_gathered n m;
}

pub returns : goal.returns
returns c n m part is page = record {
  part = λ _.
      with_texts_of n m c.args.read c.args.page is part page (closed c.gather_rows.new.metadata c.in_ok-last.last) c.in_ok-last.ensures.reported
      ∙ ap (λ next. grouped (each pair_seen (rows_before next (metadata_rows n m)))) (c.in-Some.is ∙ ap (λ key. Some key) (sym c.in-Some.next-is));
  whole = λ never. absurd (cc never);
}
