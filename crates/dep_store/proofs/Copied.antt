-- The clock, written once more as it is.
use Rattle.std.proofs.Common.{◌≡◌, Result, IsTrue, sym, subst}
use Rattle.sqlite.specs.State as db
use Rattle.dep_types.specs.State.{State}
use Rattle.dep_tables.specs.Tables.{Tables}
use Rattle.dep_tables.specs.Edits.{with_state_row}
use Rattle.dep_tables.specs.declared.state.StateRow.{StateRow}
use Rattle.dep_row_maps.specs.Stored.{state_row}
use Rattle.dep_row_maps.specs.TablesAre.{TablesAre}
use Rattle.dep_row_maps.proofs.Readings.{state_read}
use Rattle.dep_row_maps.proofs.Whole.{state_written}
use Rattle.dep_transactions.specs.States.{TablesRepresent}
use Rattle.dep_transactions.specs.Transactions.{Transacts, IsRestored}
use Rattle.dep_transactions.proofs.Transacting.{IsSettled, after_back}
use Rattle.dep_exchange.specs.Archives.{Always}
use Rattle.dep_store.specs.Copying.{CopiesLog, RewritesClock}
use Rattle.dep_store.specs.Shut.{StoreFailsIfShut}
use Rattle.dep_store.proofs.ShutLemmas.{was_open_then}
use Rattle.dep_store.proofs.Tries.{tries_over}

-- the tables represent the same state
represents_again : (t after : Tables) (s : State) → RewritesClock t after → TablesRepresent t s → TablesRepresent after s
represents_again t after s (row, read, is) means =
    let same : row ≡ state_row s = state_read t s means.are row read in
    record {
      are = subst (λ (x : Tables). TablesAre x s) (sym is) (subst (λ (r : StateRow). TablesAre (with_state_row r t) s) (sym same) (state_written t s means.are s.clock s.next));
      sound = means.sound;
    }

-- what the transaction comes to
pub copies : {A E : Type 0} (old new : db.State) (r : Result A E) → Transacts old new r (λ before done after. RewritesClock before after) → StoreFailsIfShut old new r → CopiesLog old new r
copies old new r it shut = record {
  does = tries_over old new r (λ before done after. RewritesClock before after) Always (λ s answer. Unit {0}) (λ s. s)
      (λ s always t answer after wrote means. (tt, represents_again t after s wrote means)) it;
  transacts = it;
  shut = shut;
}

-- a connection that was found open
pub record WasOpen (old mid : db.State) : Type 0 where
  pub opened : db.HasCleanDisk mid → IsTrue mid.is_open
  pub restored : IsRestored old mid

-- the same behind a look whether the store is open
pub copies_open : {A E : Type 0} (old mid new : db.State) (r : Result A E) → (IsTrue old.is_open → IsSettled old) → (IsTrue mid.is_open → db.HasCleanDisk mid) → WasOpen old mid
    → Transacts mid new r (λ before done after. RewritesClock before after) → CopiesLog old new r
copies_open old mid new r settled shut was it =
    let back = was.restored.back in
    copies old new r (after_back old mid new r _ settled shut back was.restored.survives was.opened it) (was_open_then old new r (λ clean. (back (was.opened (it.honest clean))).0))
