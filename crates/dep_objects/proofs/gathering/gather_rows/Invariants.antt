use Rattle.std.proofs.Common.{◌≡◌, fold, map as each}
use Rattle.dep_row_maps.specs.Stored.{with_added_text}
use Rattle.dep_row_maps.specs.ReadLaws.{pair_of}
use Rattle.dep_objects.specs.Texts.{closed}
use Rattle.dep_objects.proofs.gathering.gather_rows.Given as goal

-- What is gathered, with what the rows that are left add.
abbrev pub invariant-rows : goal.invariant-rows
invariant-rows l =
    fold with_added_text (closed l.metadata l.last) (each pair_of l.row-iterator.rest.items)
    ≡ fold with_added_text (closed l.fn.metadata l.fn.last) (each pair_of l.fn.rows.items)
