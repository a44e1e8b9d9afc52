-- What a column of a row holds, by the kinds of its columns.
use Rattle.std.proofs.Common.{◌<◌, ℕ, List, length, get_or, sym, subst}
use Rattle.sqlite.specs.Order.{Row}
use Rattle.dep_tables.specs.Rows.{HasAt, HasKinds, IsOfKind}
use Rattle.dep_tables.specs.declared.columns.ColumnKind.{ColumnKind}
use Rattle.dep_tables.specs.declared.columns.ColumnKind.TheVariants as kind

pub kind_at : (kinds : List ColumnKind) (row : Row) (at : ℕ) → at < length kinds → HasKinds kinds row → HasAt (IsOfKind (get_or kinds at kind.Number)) row at
kind_at kinds row at inside has = (subst (λ n. at < n) (sym has.width) inside, has.each at kind.Number inside)
