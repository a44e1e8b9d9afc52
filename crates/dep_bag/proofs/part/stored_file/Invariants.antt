use Rattle.std.proofs.Common.{◌≡◌, map, drop}
use Rattle.std.specs.Prelude.{find, bytes_eq}
use Rattle.dep_bag.specs.Parts.{stored_part}
use Rattle.dep_bag.proofs.part.stored_file.Given as goal

-- no file so far stands there
abbrev pub invariant-loop-row : goal.invariant-loop-row
invariant-loop-row l =
    find (λ part. bytes_eq l.path part.0) (map stored_part l.rows)
    ≡ find (λ part. bytes_eq l.path part.0) (map stored_part (drop l.row-index l.rows))
