-- What a call on a store comes to, as those who serve it see it, from what it makes of the tables.
use Rattle.std.proofs.Common.{◌≡◌, ℕ, List, [], Bool, true, not, Option, inl, inr, Result, Ok, Err, IsErr, OnOk, OnErr, IfOk, IsTrue, false, refl, le_of_eq, sym, subst, arith, ◌∙◌}
use Rattle.std.proofs.KnownBytes.{Appends-nil}
use Rattle.std.proofs.lemmas.Result.{IfOk-from_err}
use Rattle.sqlite.specs.State as db
use Rattle.sqlite.specs.State.{HasCleanDisk, Survives}
use Rattle.sqlite.specs.Tree.{Trees}
use Rattle.dep_types.specs.State.{State, tick}
use Rattle.dep_types.specs.declared.config.Config.{Config}
use Rattle.dep_types.specs.declared.stream_fault.StreamFault.{StreamFault}
use Rattle.dep_types.specs.declared.stream_fault.StreamFault.TheVariants.{Writer, Store as StoreFails}
use Rattle.dep_tables.specs.Tables.{Tables}
use Rattle.dep_tables.proofs.Results.{if_failed}
use Rattle.dep_schema.specs.Faults.{BlamesOutlet}
use Rattle.dep_transactions.specs.OpenTables.{Holds, StaysFile}
use Rattle.dep_transactions.specs.States.{TablesRepresent, StoreRepresents, DatabaseLeaves}
use Rattle.dep_transactions.specs.Transactions.{Transacts, OnlyReports, OverStates, IsBackAt, IsGivenBack, IsRestored}
use Rattle.dep_transactions.proofs.Transacting.{IsSettled, IsOver, ok_over_states, err_state, stop_over_states, ok_reports, still_reports, left_reports, leaves_still, leaves_as_was}
use Rattle.dep_exchange.specs.Archives.{TriesTo, Ticks, Reports, KeepsState, KeepsAll, Always, CountsFailures}
use Rattle.dep_store.specs.Archive.{shown_by}
use Rattle.dep_store.specs.Shut.{StoreFailsIfShut, StoreSendsFile}
use Rattle.dep_store.specs.Staying.{ReportsTables, KeepsTables, LeavesOnly}
use Rattle.dep_store.proofs.ShutLemmas.{state_back}

-- between transactions each statement is committed by itself
pub is_settled : (mode : Bool) → true ≡ not mode → mode ≡ false
is_settled true reported = cc reported
is_settled false reported = refl

pub is_busy : (mode : Bool) → false ≡ not mode → IsTrue mode
is_busy true reported = refl
is_busy false reported = cc reported

-- what a stop leaves of a state whose tables stay
pub leaves_held : (d : db.State) {tables : Tables} (s : State) → TablesRepresent tables s
    → ((trees : Trees) → d.may_leave trees → Holds trees tables) → DatabaseLeaves d (λ left. left ≡ s)
leaves_held d {tables = tables} s means holds trees may = (s, inl (tables, holds trees may, means), refl)

-- tables that stay represent the state still
pub represents_still : {old new : db.State} (s : State) (h : StoreRepresents old s) → StaysFile new h.tables → StoreRepresents new s
represents_still s h represents = record { tables = h.tables; represents = represents; means = h.means }

-- a transaction goes on from each state of which this holds
pub tries_over : {A E : Type 0} (old new : db.State) (r : Result A E) (Makes : Tables → A → Tables → Type 0) (holds : State → Type 0)
    (reported : State → A → Type 0) (next : State → State) → ((s : State) → holds s → IsOver old new r Makes reported next s) → Transacts old new r Makes
    → TriesTo (shown_by old) (shown_by new) holds reported next r
tries_over old new r Makes holds reported next over it = record {
  ok = λ clean s at its. ok_over_states old new r Makes reported next it clean s (over s its) at;
  err = λ is_open s at. err_state old new r Makes it is_open s at;
  honest = it.honest;
  was_open = it.was_open;
  stop = λ clean s at its. stop_over_states old new r Makes reported next it clean s (over s its) at;
}

-- the clock goes on, to this moment
abbrev pub Clocked : Config → (moment : ℕ) → Tables → ℕ → Tables → Type 0
Clocked config moment = OverStates (λ s clock. clock ≡ (tick config s moment).clock) (λ s. tick config s moment)

pub ticks_over : {E : Type 0} (old new : db.State) (r : Result ℕ E) (config : Config) (secs moment : ℕ) → secs ≡ moment → Transacts old new r (Clocked config secs)
    → Ticks (shown_by old) (shown_by new) config moment r
ticks_over old new r config secs moment same it =
    tries_over old new r (Clocked config moment) Always (λ s n. n ≡ (tick config s moment).clock) (λ s. tick config s moment)
    (λ s always t clock after made. made s) (subst (λ n. Transacts old new r (Clocked config n)) same it)

-- a transaction that only tells
module _ {A E : Type 0} (old new : db.State) (r : Result A E) (reported : Tables → A → Type 0) (it : Transacts old new r (OnlyReports reported)) where
  pub reports_over : (P : State → A → Type 0) → ((t : Tables) (answer : A) (s : State) → reported t answer → TablesRepresent t s → P s answer)
      → Reports (shown_by old) (shown_by new) P r
  reports_over P means = tries_over old new r (OnlyReports reported) Always P (λ s. s)
      (λ s always t answer after made stand. (means t answer s made.0 stand, subst (λ (x : Tables). TablesRepresent x s) (sym made.1) stand)) it

  pub reports_tables : (IsTrue new.is_open → HasCleanDisk new) → ReportsTables old new reported r
  reports_tables clean = record {
    ok = ok_reports old new r reported it;
    still = still_reports old new r reported it clean;
    honest = it.honest;
    was_open = it.was_open;
    stop = left_reports old new r reported it;
  }

pub honest_back : (old new : db.State) → Survives old new (λ _. ⊥) → HasCleanDisk new → HasCleanDisk old
honest_back old new survives clean = omega (arith, clean, survives.clean)

-- it failed, and all was given back
pub fails_keeping : {A E : Type 0} (old new : db.State) → (IsTrue old.is_open → IsSettled old) → IsBackAt old new → Survives old new (λ _. ⊥) → (fault : E)
    → KeepsState {A = A} (shown_by old) (shown_by new) (Err fault)
fails_keeping old new settled back survives fault = record {
  ok = λ clean s at always. tt;
  err = λ is_open s at. state_back old new s back is_open at;
  honest = λ clean. honest_back old new survives clean;
  was_open = λ is_open. (back is_open).0;
  stop = λ clean s at always image h. let l = leaves_still old new s (settled at.represents.is_open) at survives clean image h in (l.0, l.1, inl l.2);
}

pub failed_keeping : {A E : Type 0} (old new : db.State) (r : Result A E) → IsErr r → (IsTrue old.is_open → IsSettled old) → IsBackAt old new → Survives old new (λ _. ⊥)
    → KeepsState (shown_by old) (shown_by new) r
failed_keeping old new (Ok answer) failed settled back survives = absurd (cc failed)
failed_keeping old new (Err fault) failed settled back survives = fails_keeping old new settled back survives fault

-- all was given back
pub leaves_only : (old new : db.State) → Survives old new (λ _. ⊥) → LeavesOnly old new
leaves_only old new survives clean trees h = elim (survives.crash clean trees h) [ inl earlier ↦ earlier | inr none ↦ absurd none ]

-- nothing was committed, and all is as it was
pub keeps_back : (old new : db.State) → IsRestored old new → KeepsAll (shown_by old) (shown_by new)
keeps_back old new it = record {
  kept = λ is_open s at. state_back old new s it.back is_open at;
  honest = honest_back old new it.survives;
  was_open = λ is_open. (it.back is_open).0;
  left = λ clean image h. (image, leaves_only old new it.survives clean image h, λ s. (λ x. x, λ x. x));
}

-- an open store, of which nothing was asked between transactions
pub back_as_was : (d : db.State) → (HasCleanDisk d → IsTrue d.is_open) → d.in_transaction ≡ false → IsGivenBack d d
back_as_was d opened between = record {
  opened = opened;
  back = λ is_open. (is_open, refl, refl, between);
  survives = record { clean = le_of_eq refl; shield = λ shielded. shielded; counts = le_of_eq refl; limit = refl; closes = λ clean was. inl was; crash = λ clean trees h. inl h };
}

-- nothing was asked
pub keeps_same : (d : db.State) → KeepsAll (shown_by d) (shown_by d)
keeps_same d = record {
  kept = λ is_open s at. at;
  honest = λ clean. clean;
  was_open = λ is_open. is_open;
  left = λ clean image h. (image, h, λ s. (λ x. x, λ x. x));
}

-- from what a call that reads leaves by its answer
pub keeps_state : {A E : Type 0} (old new : db.State) (r : Result A E) → (HasCleanDisk new → (s : State) → StoreRepresents old s → OnOk r (StoreRepresents new s))
    → (IsTrue new.is_open → (s : State) → StoreRepresents old s → OnErr r (StoreRepresents new s)) → (HasCleanDisk new → HasCleanDisk old) → (IsTrue new.is_open → IsTrue old.is_open)
    → (HasCleanDisk new → (s : State) → StoreRepresents old s → DatabaseLeaves new (λ left. left ≡ s)) → KeepsState (shown_by old) (shown_by new) r
keeps_state {A} {E} old new r ok err honest was_open stop = record {
  ok = λ clean s at always. each r s (ok clean s at);
  err = err;
  honest = honest;
  was_open = was_open;
  stop = λ clean s at always image h. let l = stop clean s at image h in (l.0, l.1, inl l.2);
}
  where
    each : (r : Result A E) (s : State) → OnOk r (StoreRepresents new s) → IfOk r (λ answer. Unit {0} × StoreRepresents new s)
    each (Ok answer) s h = (tt, h)
    each (Err fault) s h = tt

pub counts : {A : Type 0} (failures failures_after : ℕ) (r : Result A StreamFault) → BlamesOutlet Writer failures failures_after r → CountsFailures failures failures_after r
counts failures failures_after r it = record { kept = it.kept; cause = it.cause; others = it.others }

-- ---- where a transaction is under way, so that the connection represents nothing

module _ (d : db.State) (busy : IsTrue d.in_transaction) where
  pub represents_not : (t : Tables) → StaysFile d t → ⊥
  represents_not t represents = absurd (let never = sym busy ∙ represents.settled in cc never)

  pub busy_tries : {A E : Type 0} {holds : State → Type 0} {reported : State → A → Type 0} {next : State → State} (r : Result A E) → IsErr r → TriesTo (shown_by d) (shown_by d) holds reported next r
  busy_tries r failed = record {
    ok = λ clean s at its. IfOk-from_err r _ failed;
    err = λ is_open s at. if_failed r at;
    honest = λ clean. clean;
    was_open = λ is_open. is_open;
    stop = λ clean s at its. absurd (represents_not at.tables at.represents);
  }

  pub busy_transacts : {A E : Type 0} {Makes : Tables → A → Tables → Type 0} (r : Result A E) → IsErr r → Transacts d d r Makes
  busy_transacts r failed = record {
    ok = λ clean t at. IfOk-from_err r _ failed;
    err = λ is_open t at. if_failed r at;
    honest = λ clean. clean;
    was_open = λ is_open. is_open;
    stop = λ clean t at. absurd (represents_not t at);
  }

  pub busy_fails : {A E : Type 0} (r : Result A E) → IsErr r → StoreFailsIfShut d d r
  busy_fails r failed = record { opened = λ clean. IfOk-from_err r (λ _. _) failed; left = λ clean shut trees h. h }

  pub busy_sends : {A : Type 0} (taken : Option (List ℕ)) (failures file : ℕ) → StoreSendsFile {A = A} d d taken taken failures failures file (Err StoreFails)
  busy_sends taken failures file = record {
    streams = ([], Appends-nil taken, λ clean s at. inl refl);
    does = busy_tries (Err StoreFails) refl;
    count = record { kept = tt; cause = λ is. cc is; others = λ other. refl };
    stays = record { shut = busy_fails (Err StoreFails) refl; back = tt; opened = λ clean. tt };
  }

-- ---- tables that stay

pub reports_keeps : {A E : Type 0} (old new : db.State) (reported : Tables → A → Type 0) (r : Result A E) → ReportsTables old new reported r → KeepsTables old new
reports_keeps old new reported r it = record {
  still = it.still;
  honest = it.honest;
  was_open = it.was_open;
  stop = λ clean s h. leaves_held new s h.means (it.stop clean h.tables h.represents);
}

pub keeps_still : (d : db.State) → (IsTrue d.is_open → IsSettled d) → KeepsTables d d
keeps_still d settled = record {
  still = λ is_open t at. at;
  honest = λ clean. clean;
  was_open = λ is_open. is_open;
  stop = λ clean s h. leaves_as_was d s (settled h.represents.is_open) h;
}

pub keeps_then : (old mid new : db.State) → (HasCleanDisk mid → (t : Tables) → StaysFile old t → StaysFile mid t) → KeepsTables old mid → KeepsTables mid new → KeepsTables old new
keeps_then old mid new kept one two = record {
  still = λ is_open t at. two.still is_open t (one.still (two.was_open is_open) t at);
  honest = λ clean. one.honest (two.honest clean);
  was_open = λ is_open. one.was_open (two.was_open is_open);
  stop = λ clean s h. two.stop clean s (represents_still s h (kept (two.honest clean) h.tables h.represents));
}
