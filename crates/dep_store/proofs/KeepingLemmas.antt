-- What was done ahead of requests stays true as the state goes on.
use Rattle.std.proofs.Common.{◌≢◌, inl, inr, Result, Ok, Err, IsErr, IfOk, OnErr, IsTrue, arith, refl, sym, subst}
use Rattle.std.proofs.lemmas.Result.{IfOk-weaker, on_err_weaker}
use Rattle.sqlite.specs.State as db
use Rattle.sqlite.specs.declared.error.ErrorCode.TheVariants as code
use Rattle.sqlite.specs.declared.error.Error.{Error}
use Rattle.sqlite.specs.declared.error.Error.TheVariants.{SqliteFailure}
use Rattle.sqlite_trees.specs.declared.error.StoreError.{StoreError}
use Rattle.sqlite_trees.specs.declared.error.StoreError.TheVariants.{OutOfMemory, Io, Corrupt, Full, Broken, Unstorable}
use Rattle.dep_types.specs.declared.store_fault.StoreFault.{StoreFault}
use Rattle.dep_tables.specs.Faults.{fault_for}
use Rattle.dep_exchange.specs.ArchiveCalls.{FailsToReport}
use Rattle.dep_types.specs.State.{State}
use Rattle.dep_decisions.specs.Laws.{KeepsObjects, KeepsSegments}
use Rattle.dep_staging.specs.HashedAhead.{IsRunning}
use Rattle.dep_staging.specs.declared.running.RunningHash.{RunningHash}
use Rattle.dep_views.specs.Ahead.{IsAhead}
use Rattle.dep_views.specs.declared.ahead.WorkAhead.{WorkAhead}
use Rattle.dep_staging.proofs.AheadLemmas.{still_hashed}
use Rattle.dep_requests.proofs.AheadStill.{rows_still}
use Rattle.dep_transactions.specs.Performing.{KeepsWorkAhead}
use Rattle.dep_transactions.specs.States.{StoreRepresents}
use Rattle.dep_types.specs.Conditions.{Condition, Represents, HasCleanDisk}
use Rattle.dep_exchange.specs.Archives.{TriesTo, Always, KeepsState, KeepsAll, KeepsEachState, FailsIfShut}
use Rattle.dep_exchange.proofs.Leaving.{Settles, leaves_before, leaves_once}
use Rattle.dep_store.specs.Archive as store
use Rattle.dep_store.specs.Shut as db_shut
use Rattle.dep_store.specs.HashingStores.{KeepsHashed, shown_with_hashes, reported_by}

-- what was hashed of one upload
still_running : (s t : State) (run : RunningHash) → KeepsSegments s t → IsRunning s run → IsRunning t run
still_running s t run keeps (inl fresh) = inl fresh
still_running s t run keeps (inr begun) = inr (record {
  given = omega (arith, begun.given, keeps.next);
  hashed = λ after there.
      let before = keeps.segments run.upload after there begun.given in
      still_hashed before.0.segments after.segments run before.2 (begun.hashed before.0 before.1);
})

-- and what was read of objects is theirs
pub still_ahead : (s t : State) (ahead : WorkAhead) → KeepsSegments s t → KeepsObjects s t → IsAhead s ahead → IsAhead t ahead
still_ahead s t ahead segments objects are = record {
  hashes = λ kept there. let it = are.hashes kept there in (still_running s t kept.1 segments it.0, it.1);
  rows = rows_still s t ahead.rows objects are.rows;
}

-- ---- what a call leaves, as what was hashed is what was received

module _ (d d' : db.State) (runs runs' : WorkAhead) where
  -- a call of the store, from each state for which that holds
  pub tries_hashed : {A E : Type 0} (holds given : State → Type 0) (reported : State → A → Type 0) (next : State → State) (r : Result A E)
      → ((s : State) → given s → IsAhead s runs → holds s) → KeepsWorkAhead d d' runs runs' → ((s : State) → IsAhead s runs' → IsAhead (next s) runs')
      → TriesTo (store.shown_by d) (store.shown_by d') holds reported next r → TriesTo (shown_with_hashes d runs) (shown_with_hashes d' runs') given reported next r
  tries_hashed {A} {E} holds given reported next r knows stay go it = record {
    ok = λ clean s keeps its. IfOk-weaker r (λ answer. reported s answer × StoreRepresents d' (next s)) (λ answer. reported s answer × KeepsHashed d' runs' (next s))
        (λ answer h. (h.0, record { represents = h.1; hashed = go s (stay h.1.represents.is_open s keeps.represents keeps.hashed) })) (it.ok clean s keeps.represents (knows s its keeps.hashed));
    err = λ is_open s keeps. on_err_weaker r (λ (represents : StoreRepresents d' s). record { represents = represents; hashed = stay is_open s keeps.represents keeps.hashed }) (it.err is_open s keeps.represents);
    honest = it.honest;
    was_open = it.was_open;
    stop = λ clean s keeps its. it.stop clean s keeps.represents (knows s its keeps.hashed);
  }

  -- a call that asks for nothing that the store keeps
  pub keeps_hashed : KeepsWorkAhead d d' runs runs' → KeepsAll (store.shown_by d) (store.shown_by d')
      → KeepsAll (shown_with_hashes d runs) (shown_with_hashes d' runs')
  keeps_hashed hashed it = record {
    kept = λ is_open s keeps. record { represents = it.kept is_open s keeps.represents; hashed = hashed is_open s keeps.represents keeps.hashed };
    honest = it.honest;
    was_open = it.was_open;
    left = it.left;
  }

  pub shut_hashed : {A E : Type 0} (r : Result A E) → db_shut.StoreFailsIfShut d d' r → FailsIfShut (shown_with_hashes d runs) (shown_with_hashes d' runs') r
  shut_hashed r it = record { opened = it.opened; left = λ clean shut image h. (image, it.left clean shut image h, λ s. (λ x. x, λ x. x)) }

-- one that keeps the state, and hashes nothing
pub state_hashed : {A E : Type 0} (d d' : db.State) (runs : WorkAhead) (r : Result A E) → KeepsState (store.shown_by d) (store.shown_by d') r → KeepsState (shown_with_hashes d runs) (shown_with_hashes d' runs) r
state_hashed d d' runs r it = tries_hashed d d' runs runs Always Always (λ s answer. Unit {0}) (λ s. s) r (λ s its are. tt) (λ is_open s represents are. are) (λ s are. are) it

-- it failed as another call did
pub tries_failed : {A E F : Type 0} (old new : Condition) (holds : State → Type 0) (reported : State → A → Type 0) (next : State → State) (fault : F) (r : Result A E) → IsErr r
    → TriesTo old new holds reported next (Err fault) → TriesTo old new holds reported next r
tries_failed old new holds reported next fault (Ok answer) failed it = cc failed
tries_failed old new holds reported next fault (Err e) failed it =
    record { ok = λ clean s at its. tt; err = it.err; honest = it.honest; was_open = it.was_open; stop = it.stop }

pub fails_failed : {A E F : Type 0} (old new : Condition) (fault : F) (r : Result A E) → IsErr r → FailsIfShut {A = A} old new (Err fault) → FailsIfShut old new r
fails_failed old new fault (Ok answer) failed it = cc failed
fails_failed old new fault (Err e) failed it = record { opened = λ clean. tt; left = it.left }

-- ---- what work ahead keeps

-- a call that asks for nothing that is kept
pub keeps_each : (old new : Condition) → Settles old → KeepsAll old new → KeepsEachState old new
keeps_each old new settles it = record {
  kept = it.kept;
  honest = it.honest;
  was_open = it.was_open;
  stop = λ clean s at. leaves_before old new _ (it.left clean) (settles s at);
  left = λ clean shut. it.left clean;
}

-- where nothing was asked
pub keeps_all : (c : Condition) → KeepsAll c c
keeps_all c = record {
  kept = λ is_open s at. at;
  honest = λ clean. clean;
  was_open = λ is_open. is_open;
  left = λ clean image h. (image, h, λ s. (λ x. x, λ x. x));
}

pub keeps_itself : (c : Condition) → Settles c → KeepsEachState c c
keeps_itself c settles = keeps_each c c settles (keeps_all c)

-- and one that keeps the state, whatever it returns
pub keeps_either : {A E : Type 0} (old new : Condition) (r : Result A E) → (IsTrue new.is_open → HasCleanDisk new) → KeepsState old new r → FailsIfShut old new r → KeepsEachState old new
keeps_either {A} {E} old new r clean it shut = record {
  kept = λ is_open s at. each r s (it.ok (clean is_open) s at tt) (it.err is_open s at);
  honest = it.honest;
  was_open = it.was_open;
  stop = λ disk s at. leaves_once new s (it.stop disk s at tt);
  left = shut.left;
}
  where
    each : (r : Result A E) (s : State) → IfOk r (λ answer. Unit {0} × Represents new s) → OnErr r (Represents new s) → Represents new s
    each (Ok answer) s h none = h.1
    each (Err e) s none h = h

-- ---- why it isn't told whether it is open

by_cause : (old new : db.State) (cause : StoreError) → db.HasCause old new ⊥ cause → db.store_error cause ≢ SqliteFailure code.Closed
    → FailsToReport (reported_by old) (reported_by new) (fault_for (db.store_error cause))
by_cause old new OutOfMemory has other = tt
by_cause old new Io has other = inr has
by_cause old new Corrupt has other = inr has
by_cause old new Full has other = inr has
by_cause old new Broken has other = absurd (other refl)
by_cause old new Unstorable has other = absurd has

-- as its database fails to tell it
pub fails_to_report : (old new : db.State) (fault : StoreFault) → db_shut.StoreFailsToReport old new fault → FailsToReport (reported_by old) (reported_by new) fault
fails_to_report old new fault (inl (busy, same)) = subst (λ (f : StoreFault). FailsToReport (reported_by old) (reported_by new) f) (sym same) (inl busy)
fails_to_report old new fault (inr (e, (cause, is, has, rolled, reported), other, same)) =
    subst (λ (f : StoreFault). FailsToReport (reported_by old) (reported_by new) f) (sym same)
    (subst (λ (x : Error). x ≢ SqliteFailure code.Closed → FailsToReport (reported_by old) (reported_by new) (fault_for x)) (sym is) (by_cause old new cause has) other)
