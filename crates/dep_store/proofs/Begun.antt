-- A file that is found to be there, so that its content can be sent in steps.
use Rattle.std.proofs.Common.{◌≡◌, ℕ, List, [], Option, Some, Result, Ok, Err, IsErr, IsTrue, false, refl, sym, subst}
use Rattle.std.proofs.KnownBytes.{Appends-nil}
use Rattle.std.proofs.lemmas.Result.{IfOk-from_err}
use Rattle.sqlite.specs.State as db
use Rattle.sqlite.specs.State.{HasCleanDisk}
use Rattle.dep_types.specs.State.{State, File, file_at}
use Rattle.dep_types.specs.declared.stream_fault.StreamFault.{StreamFault}
use Rattle.dep_types.specs.declared.stream_fault.StreamFault.TheVariants.{Store as StoreFails}
use Rattle.dep_exchange.specs.Archives.{CountsFailures}
use Rattle.dep_answers.specs.declared.performed.StoredFile.{StoredFile}
use Rattle.dep_tables.specs.Tables.{Tables, tables_of}
use Rattle.dep_row_maps.specs.TablesAre.{TablesAre}
use Rattle.dep_requests.specs.declared.caching.Cache.{Cache}
use Rattle.dep_transactions.specs.States.{StoreRepresents}
use Rattle.dep_transactions.specs.Transactions.{IsBackAt, IsRestored}
use Rattle.dep_transactions.proofs.Transacting.{IsSettled, stood_before}
use Rattle.dep_exchange.specs.Owing.{HasBehind}
use Rattle.dep_store.specs.Caching.{IsCached, IsOfOpen, IsKnownFile}
use Rattle.dep_store.specs.SendingOn.{BeginsIfOpen, FindsSize, SendsNextBlocks}
use Rattle.dep_store.proofs.Contents.{content_same}
use Rattle.dep_store.proofs.SentOn.{keeps_open, none_taken, nothing_sent}
use Rattle.dep_store.proofs.ShutLemmas.{fails_staying, fails_still, was_open_then}
use Rattle.dep_store.proofs.Tries.{busy_fails, busy_tries, failed_keeping}

-- all of it is behind its front
all_behind : (d : db.State) (s : State) (it : StoredFile) (file : File) → StoreRepresents d s → file_at s it.object it.file ≡ Some file → HasBehind s it 0 (content_same (tables_of d) it.file).0
all_behind d s it file represents held = record {
  file = file;
  held = held;
  is = sym ((content_same (tables_of d) it.file).1 s (subst (λ (t : Tables). TablesAre t s) (sym represents.represents.rows) represents.means.are) it.object file held);
}

module _ (old new : db.State) (it : StoredFile) (settled : IsTrue old.is_open → IsSettled old) where
  pub begins_if_found : {A E : Type 0} (size : ℕ) (answer : A) → old.in_transaction ≡ false → FindsSize {E = E} old new it (Ok size) → BeginsIfOpen {E = E} old new it (Ok answer)
  begins_if_found size answer between did =
      let restored = did.finds.restored in
      let opened = did.finds.opened in
      record {
        begins = (
          (content_same (tables_of new) it.file).0,
          λ clean s represents. let has = did.reports clean s (stood_before old new restored.back between s represents) in all_behind new s it has.0 represents has.1,
        );
        does = keeps_open old new restored opened (Ok answer) settled;
        shut = was_open_then old new (Ok answer) (λ clean. (restored.back (opened clean)).0);
      }

  pub begins_not : {A E : Type 0} (r : Result A E) → IsErr r → IsRestored old new → BeginsIfOpen old new it r
  begins_not (Ok answer) failed restored = absurd (cc failed)
  begins_not (Err fault) failed restored = record {
    begins = ([], λ clean. tt);
    does = failed_keeping old new (Err fault) failed settled restored.back restored.survives;
    shut = fails_still old new (Err fault) failed restored.survives;
  }

  -- the file was not found, or its next bytes could not be read
  pub sends_not : (taken : Option (List ℕ)) (failures start : ℕ) (r : Result (Option ℕ) StreamFault) → IsErr r → CountsFailures failures failures r → IsRestored old new
      → SendsNextBlocks old new taken taken failures failures it start r
  sends_not taken failures start r failed count restored = record {
    streams = ([], Appends-nil taken, λ clean s represents. nothing_sent s it start r failed);
    few = none_taken taken;
    does = failed_keeping old new r failed settled restored.back restored.survives;
    count = count;
    stays = fails_staying old new r failed restored;
  }

-- a transaction is under way
pub busy_begins : {A E : Type 0} (d : db.State) (it : StoredFile) → IsTrue d.in_transaction → (r : Result A E) → IsErr r → BeginsIfOpen d d it r
busy_begins d it busy r failed = record { begins = ([], λ clean. IfOk-from_err r _ failed); does = busy_tries d busy r failed; shut = busy_fails d busy r failed }

pub busy_sends_on : (d : db.State) → IsTrue d.in_transaction → (taken : Option (List ℕ)) (failures : ℕ) (it : StoredFile) (start : ℕ) → SendsNextBlocks d d taken taken failures failures it start (Err StoreFails)
busy_sends_on d busy taken failures it start = record {
  streams = ([], Appends-nil taken, λ clean s at. nothing_sent s it start (Err StoreFails) refl);
  few = none_taken taken;
  does = busy_tries d busy (Err StoreFails) refl;
  count = record { kept = tt; cause = λ is. cc is; others = λ other. refl };
  stays = record { shut = busy_fails d busy (Err StoreFails) refl; back = tt; opened = λ clean. tt };
}

-- what was cached, and the file that was known, are so still, where all was given back and the store is open
pub cached_still : (old new : db.State) (m : Option Cache) (known : Option StoredFile) → IsBackAt old new → old.in_transaction ≡ false → (HasCleanDisk new → IsTrue new.is_open)
    → IsCached old m × IsOfOpen old m × IsKnownFile old known → IsCached new m × IsOfOpen new m × IsKnownFile new known
cached_still old new m known back between opened were = (
  λ one is s represents. were.0 one is s (stood_before old new back between s represents),
  λ one is clean. opened clean,
  λ it is. (λ s represents. (were.2 it is).0 s (stood_before old new back between s represents), opened),
)
