-- What a statement inside a transaction keeps, whatever its text is.
use Rattle.std.proofs.Common.{◌≡◌, ◌⊎◌, ℕ, List, IsTrue, Result, Ok, Err, OnOk, OnErr, is_ok, inl, inr, sym, ap, ◌∙◌}
use Rattle.std.specs.Borrow.{GName, MutBor}
use Rattle.sqlite_trees.specs.declared.store.Store.{Ghosts}
use Rattle.sqlite.specs.Order.{Row}
use Rattle.sqlite.specs.declared.error.Error.{Error}
use Rattle.sqlite.specs.Held.{Held, state}
use Rattle.sqlite.specs.declared.transaction.Transaction.{Transaction}
use Rattle.sqlite.specs.State as db
use Rattle.sqlite.specs.State.{HasCleanDisk, KeepsCommit, Survives, IsRolledBack, IsUnchanged, ExecutesInside, Shown, FailsToQuery, IsTooLate}
use Rattle.dep_tables.proofs.Asked.{shown_keeps, shown_mode, asks_keep, asks_leave}
use Rattle.dep_tables.specs.Clauses.{StaysWithin}
use Rattle.dep_tables.proofs.Chains.{left_whole}
use Rattle.dep_tables.proofs.Results.{if_ok, if_failed, ok_then}
use Rattle.dep_transactions.specs.OpenTables.{StaysOn}
use Rattle.dep_transactions.specs.declared.lending.Lent.{Lent}

failed_keeps : (old new : db.State) → IsUnchanged old new ⊎ IsRolledBack old new → KeepsCommit old new
failed_keeps old new (inl same) = record { was_open = λ _. same.0.was_open; committed = λ _. same.0.committed_is }
failed_keeps old new (inr back) = record { was_open = back.was_open; committed = λ is_open. (back.undone is_open).1 }

module _ {S : Type 0} (g : Ghosts S) (old new : MutBor (Held S)) (same_reference : new.ghost_name ≡ old.ghost_name) (survives : Survives (state g old.now) (state g new.now) (λ _. ⊥)) where
  module _ (sql : List ℕ) (params : Row) where
    -- what a statement leaves that failed
    left_by : (e : Error) → ExecutesInside 0 sql params (state g old.now) (state g new.now) (Err e) → IsUnchanged (state g old.now) (state g new.now) ⊎ IsRolledBack (state g old.now) (state g new.now)
    left_by e (inl failed) = failed.1
    left_by e (inr late) = inl late.2

    abbrev Failed : Error → Type 0
    Failed e = FailsToQuery sql params (state g old.now) (state g new.now) e ⊎ IsTooLate sql params (state g old.now) (state g new.now) e

    -- it has shown these rows
    pub shown_stays : (rows : List Row) {A E : Type 0} {r : Result A E} → (HasCleanDisk (state g new.now) → Shown sql params (state g old.now) (state g new.now) rows) → StaysOn g old new r
    shown_stays rows {r = r} shown = record {
      same_reference = same_reference;
      survives = survives;
      inside = λ clean inside. if_ok r (shown_mode sql params (state g old.now) (state g new.now) rows (shown clean) ∙ inside);
      kept = λ clean inside. shown_keeps sql params (state g old.now) (state g new.now) inside rows (shown clean);
      fails = λ clean inside is_open.
          if_failed r
          ((shown_keeps sql params (state g old.now) (state g new.now) inside rows (shown clean)).committed is_open, inl (shown_mode sql params (state g old.now) (state g new.now) rows (shown clean) ∙ inside));
    }

    -- it has failed
    pub asks_stay : (e : Error) {A E : Type 0} {fault : E} → (HasCleanDisk (state g new.now) → Failed e) → StaysOn {A = A} g old new (Err fault)
    asks_stay e failed = record {
      same_reference = same_reference;
      survives = survives;
      inside = λ clean inside. tt;
      kept = λ clean inside. asks_keep sql params (state g old.now) (state g new.now) inside e (failed clean);
      fails = λ clean inside is_open. left_whole (state g old.now) (state g new.now) inside is_open (asks_leave sql params (state g old.now) (state g new.now) e (failed clean));
    }

    -- it has failed, which may be told as an answer where it has changed nothing
    pub reports_stay : (e : Error) {A E : Type 0} {r : Result A E} → (HasCleanDisk (state g new.now) → Failed e)
        → (HasCleanDisk (state g new.now) → OnOk r (IsUnchanged (state g old.now) (state g new.now))) → StaysOn g old new r
    reports_stay e {r = r} failed same = record {
      same_reference = same_reference;
      survives = survives;
      inside = λ clean inside. ok_then r (same clean) (λ it. it.0.mode ∙ inside);
      kept = λ clean inside. asks_keep sql params (state g old.now) (state g new.now) inside e (failed clean);
      fails = λ clean inside is_open. if_failed r (left_whole (state g old.now) (state g new.now) inside is_open (asks_leave sql params (state g old.now) (state g new.now) e (failed clean)));
    }

    -- a statement was run, and its result is told as it is
    pub ran_stays : (r : Result ℕ Error) {A E : Type 0} (reported : Result A E) → is_ok reported ≡ is_ok r
        → (HasCleanDisk (state g new.now) → IsTrue (state g old.now).in_transaction → ExecutesInside 0 sql params (state g old.now) (state g new.now) r) → StaysOn g old new reported
    ran_stays (Ok count) (Ok x) same ran = record {
      same_reference = same_reference;
      survives = survives;
      inside = λ clean inside. (ran clean inside).1.mode;
      kept = λ clean inside. let shows = (ran clean inside).1 in record { was_open = λ _. shows.was_open; committed = λ _. shows.committed_is };
      fails = λ clean inside is_open. tt;
    }
    ran_stays (Ok count) (Err fault) same ran = absurd (cc same)
    ran_stays (Err e) (Ok x) same ran = absurd (cc same)
    ran_stays (Err e) (Err fault) same ran = record {
      same_reference = same_reference;
      survives = survives;
      inside = λ clean inside. tt;
      kept = λ clean inside. failed_keeps (state g old.now) (state g new.now) (left_by e (ran clean inside));
      fails = λ clean inside is_open. left_whole (state g old.now) (state g new.now) inside is_open (left_by e (ran clean inside));
    }

    pub ran_leaves : (r : Result ℕ Error) {A E : Type 0} (reported : Result A E) → is_ok reported ≡ is_ok r → ExecutesInside 0 sql params (state g old.now) (state g new.now) r
        → OnErr reported (IsUnchanged (state g old.now) (state g new.now) ⊎ IsRolledBack (state g old.now) (state g new.now))
    ran_leaves r (Ok x) same ran = tt
    ran_leaves (Ok count) (Err fault) same ran = absurd (cc same)
    ran_leaves (Err e) (Err fault) same ran = left_by e ran

-- the same of a transaction that is lent
abbrev pub LentStays : {S A E : Type 0} (g : Ghosts S) (old new : Lent S) → Result A E → Type 0
LentStays {S} g old new =
    StaysWithin {L = GName × GName} (λ (lent : Lent S). (lent.tx.ghost_name, lent.tx.now.conn.ghost_name)) (λ (lent : Lent S). state g lent.tx.now.conn.now) old new

module _ {S : Type 0} (g : Ghosts S) {old new : Lent S} {A E : Type 0} {r : Result A E} where
  pub lent_stays : new.tx.ghost_name ≡ old.tx.ghost_name → StaysOn g old.tx.now.conn new.tx.now.conn r → LentStays g old new r
  lent_stays same stays = record {
    same_reference = λ i. (same i, stays.same_reference i);
    survives = stays.survives;
    inside = stays.inside;
    kept = stays.kept;
    fails = stays.fails;
  }

  -- the names by which it and its connection are borrowed
  pub lent_name : LentStays g old new r → old.tx.ghost_name ≡ new.tx.ghost_name
  lent_name stays = ap (λ (names : GName × GName). names.0) (sym stays.same_reference)

  pub lent_connection : {last : Transaction S} {name : GName} → LentStays g old new r → new.tx.now ≡ last → old.tx.now.conn.ghost_name ≡ name → name ≡ last.conn.ghost_name
  lent_connection stays left is = sym is ∙ ap (λ (names : GName × GName). names.1) (sym stays.same_reference) ∙ ap (λ (tx : Transaction S). tx.conn.ghost_name) left

  pub stays_on : LentStays g old new r → StaysOn g old.tx.now.conn new.tx.now.conn r
  stays_on stays = record {
    same_reference = ap (λ (names : GName × GName). names.1) stays.same_reference;
    survives = stays.survives;
    inside = stays.inside;
    kept = stays.kept;
    fails = stays.fails;
  }
