use Rattle.std.proofs.Common.{ℕ, ◌<◌, get_or}
use Rattle.sqlite.specs.Order.{column}
use Rattle.dep_tables.specs.Rows.{IsOfKind}
use Rattle.dep_tables.specs.declared.columns.ColumnKind.{ColumnKind}
use Rattle.dep_tables.proofs.columns.has_kinds.Given as goal

abbrev pub invariant-kinds : goal.invariant-kinds
invariant-kinds l = (i : ℕ) (none : ColumnKind) → i < l.at → IsOfKind (get_or l.kinds i none) (column l.row i)
