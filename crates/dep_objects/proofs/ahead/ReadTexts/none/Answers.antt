use Rattle.std.proofs.Common.{◌∙◌, ap, sym, map as each}
use Rattle.dep_row_maps.specs.Stored.{grouped, pair_seen}
use Rattle.dep_objects.proofs.Pages.{none_before}
use Rattle.dep_objects.proofs.ahead.ReadTexts.none.Goals as goal

pub returns : goal.returns
returns c n m = record {
  part = λ _. c.new.ensures ∙ ap (λ rows. grouped (each pair_seen rows)) (sym (none_before n m c.new-3.result (c.new-3.ensures ∙ c.new-2.ensures.bytes)));
  whole = λ never. absurd (cc never);
}
