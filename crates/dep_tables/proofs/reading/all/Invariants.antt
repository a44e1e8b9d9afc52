use Rattle.std.proofs.Common.{◌≡◌, map, take}
use Rattle.dep_tables.specs.Rowids.{columns_from}
use Rattle.dep_tables.proofs.reading.all.Given as goal

abbrev pub invariant-rows : goal.invariant-rows
invariant-rows g l = map g.R.FromRow.values l.found.items ≡ map (columns_from 0 g.R.FromRow.width) (take l.row-index l.rows)
