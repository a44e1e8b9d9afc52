-- Why a row was not read.
use Rattle.std.proofs.Common.{List, ℕ, inl, inr, arith}
use Rattle.sqlite.specs.Order.{Row}
use Rattle.sqlite.specs.State.{State}
use Rattle.dep_types.specs.declared.store_fault.StoreFault.{StoreFault}
use Rattle.dep_tables.specs.Clauses.{FailsToReadNumbers, AtMostOne, JustOne}

-- what is refused of one row at most is refused of just one
pub refused_one : (is_ours : Row → Type 0) (sql : List ℕ) (params : Row) (old new : State) (fault : StoreFault) → FailsToReadNumbers (AtMostOne is_ours) sql params old new fault → FailsToReadNumbers (JustOne is_ours) sql params old new fault
refused_one is_ours sql params old new fault (inl asked) = inl asked
refused_one is_ours sql params old new fault (inr (rows, shown, inl others)) = inr (rows, shown, inl (λ ours. others.0 (ours.0, omega (arith, ours.1)), others.1))
refused_one is_ours sql params old new fault (inr (rows, shown, inr wanting)) = absurd wanting.0
