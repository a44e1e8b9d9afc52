-- What a transaction makes that writes the row of the clock as it is, before which SQLite copies a long log.
use Rattle.std.specs.Prelude.{◌≡◌, Result}
use Rattle.sqlite.specs.State as db
use Rattle.dep_tables.specs.Edits.{HasStateRow, with_state_row}
use Rattle.dep_tables.specs.Tables.{Tables}
use Rattle.dep_tables.specs.declared.state.StateRow.{StateRow}
use Rattle.dep_exchange.specs.Archives.{KeepsState}
use Rattle.dep_transactions.specs.Transactions.{Transacts}
use Rattle.dep_store.specs.Archive.{shown_by}
use Rattle.dep_store.specs.Shut.{StoreFailsIfShut}

-- the row of the clock and the counters was written as it was read, and nothing else
abbrev pub RewritesClock : Tables → Tables → Type 0
RewritesClock before after =
    (row : StateRow) × HasStateRow before row × (after ≡ with_state_row row before)

-- One transaction does so, whatever the tables are, and the state stays. On a store that was shut it fails.
pub record CopiesLog {A E : Type 0} (old new : db.State) (result : Result A E) : Type 0 where
  pub does : KeepsState (shown_by old) (shown_by new) result
  pub transacts : Transacts old new result (λ before done after. RewritesClock before after)
  pub shut : StoreFailsIfShut old new result
