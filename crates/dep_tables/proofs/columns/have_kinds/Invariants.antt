use Rattle.std.proofs.Common.{ℕ, ◌<◌, get_or}
use Rattle.sqlite.specs.Order.{Row}
use Rattle.dep_tables.specs.Rows.{HasKinds}
use Rattle.dep_tables.proofs.columns.have_kinds.Given as goal

abbrev pub invariant-rows : goal.invariant-rows
invariant-rows l = (i : ℕ) (none : Row) → i < l.row-index → HasKinds l.kinds (get_or l.rows i none)
