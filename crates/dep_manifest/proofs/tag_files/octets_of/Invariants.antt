use Rattle.std.proofs.Common.{◌≡◌, ◌≤◌, ◌*◌, ◌^◌, take}
use Rattle.std.specs.Prelude.{sum_by}
use Rattle.dep_manifest.proofs.tag_files.octets_of.Given as goal

-- the sum so far
abbrev pub invariant-loop-row : goal.invariant-loop-row
invariant-loop-row l = record {
  sum : l.octets ≡ sum_by (λ row. row.size) (take l.row-index l.rows);
  fits : l.octets ≤ l.row-index * 2 ^ 64;
}
