use Rattle.std.proofs.Common.{◌∙◌, ap, sym, nat_cmp, map as each}
use Rattle.std.specs.Cmp.Lexicographic.{slice_cmp}
use Rattle.std.specs.FinMap as map
use Rattle.dep_types.specs.MetadataEntries.{name_and_texts}
use Rattle.dep_types.proofs.metadata.Metadata.entries.Goals as goal

pub returns : goal.returns
returns c =
    ap (each name_and_texts) c.as_slice.ensures.value
    ∙ sym (map.entries-from_sorted (slice_cmp nat_cmp) (each name_and_texts c.self.inside.entries.items) c.self.invariant)
    ∙ ap map.entries c.self.view_is
