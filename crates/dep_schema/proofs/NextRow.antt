-- A query that only shows, whose rows are read one at a time, in states that are as the first one.
use Rattle.std.proofs.Common.{◌≡◌, ◌⊎◌, inl, inr, ℕ, List, Option, Result, Ok, Err, IfErr, OnOk, IsTrue, false, ◌∙◌, ap, subst}
use Rattle.std.specs.Borrow.{Bor}
use Rattle.sqlite.specs.Order.{Row}
use Rattle.sqlite.specs.State.{State, HasCleanDisk, Fails, FailsToQuery, IsUnchanged, IsRolledBack, Survives, CommitsShowing}
use Rattle.sqlite.specs.Given.{HasBegun, IsRefused}
use Rattle.sqlite.specs.Held.{Held, state}
use Rattle.sqlite.specs.Next.{HasMoved}
use Rattle.sqlite.specs.declared.error.Error.{Error}
use Rattle.sqlite.specs.declared.rows.stream.Rows.{Rows}
use Rattle.sqlite.proofs.Callers.{unchanged_then}
use Rattle.sqlite_trees.specs.declared.store.Store.{Ghosts}
use Rattle.dep_schema.specs.Clauses.{OnlyReads, StaysOver}
use Rattle.dep_schema.proofs.Stills.{begun_reads, clean_was, left_open, shown_open, stays_asked, stays_refused, stays_then, still_same}

-- what a call of `next` answered, by what its Ok holds
pub answered : (result : Result (Option (Bor Row)) Error) (next was : Option (Bor Row)) → result ≡ Ok next → next ≡ was → result ≡ Ok was
answered result next was is same = is ∙ ap (λ (x : Option (Bor Row)). Ok x) same

-- ---- before the first row

module _ {S : Type 0} (g : Ghosts S) (sql : List ℕ) (params : Row) (old new : Held S) where
  -- the query began
  pub begun_stays : OnlyReads sql → (HasCleanDisk (state g new) → HasBegun g sql params old new) → (old.in_transaction ≡ false → new.in_transaction ≡ false)
      → Survives (state g old) (state g new) (CommitsShowing sql params (state g old)) → StaysOver g old new
  begun_stays reads begun mode survives = stays_asked sql params reads
      (λ late. open_at (begun late)) (λ late. inl (begun_reads g sql params old new reads (begun late)).1) mode survives
    where
      open_at : HasBegun g sql params old new → IsTrue (state g new).is_open → IsTrue (state g old).is_open
      open_at (inl none) is_open = none.1.0.was_open
      open_at (inr all) is_open = shown_open sql params (state g old) (state g new) _ all.1

  -- it was refused
  pub refused_stays : OnlyReads sql → {X : Type 0} (result : Result X Error) (error : Error) → IsRefused g sql params old result new → result ≡ Err error
      → StaysOver g old new
  refused_stays reads {X} result error it is = stays_refused sql params error reads failed it.mode it.survives
    where
      failed : HasCleanDisk (state g new) → FailsToQuery sql params (state g old) (state g new) error
      failed late = subst (λ (r : Result X Error). IfErr r (FailsToQuery sql params (state g old) (state g new))) is (it.err late)

-- ---- at a row

module _ {S : Type 0} (g : Ghosts S) (old new : Rows S g) (result : Result (Option (Bor Row)) Error) (moved : HasMoved g old result new) where
  pub clean_before : HasCleanDisk (state g new.conn.now) → HasCleanDisk (state g old.conn.now)
  clean_before = clean_was (state g old.conn.now) (state g new.conn.now) _ moved.survives

  left_as : (r : Result (Option (Bor Row)) Error) → OnOk r (IsUnchanged (state g old.conn.now) (state g new.conn.now))
      → IfErr r (λ e. Fails (state g old.conn.now) (state g new.conn.now) ⊥ e ⊎ IsUnchanged (state g old.conn.now) (state g new.conn.now))
      → IsUnchanged (state g old.conn.now) (state g new.conn.now) ⊎ IsRolledBack (state g old.conn.now) (state g new.conn.now)
  left_as (Ok next) same kept = inl same
  left_as (Err e) same (inl failed) = inr failed.3
  left_as (Err e) same (inr still) = inl still

  left : HasCleanDisk (state g new.conn.now) → IsUnchanged (state g old.conn.now) (state g new.conn.now) ⊎ IsRolledBack (state g old.conn.now) (state g new.conn.now)
  left late = left_as result (moved.same late) (moved.kept late)

  moves : StaysOver g old.conn.now new.conn.now
  moves = record {
    honest = clean_before;
    was_open = λ late. left_open (state g old.conn.now) (state g new.conn.now) (left late);
    mode = moved.mode;
    kept = λ late is_open. left late;
    survives = moved.survives;
  }

  -- what is kept from before the query on
  pub stays_on : (first : Held S) → StaysOver g first old.conn.now → (HasCleanDisk (state g old.conn.now) → IsUnchanged (state g first) (state g old.conn.now))
      → StaysOver g first new.conn.now
  stays_on first stays same = stays_then stays (λ late. still_same (state g first) (state g old.conn.now) (same late)) moves

  pub unchanged_on : (first : State) (next : Option (Bor Row)) → result ≡ Ok next → HasCleanDisk (state g new.conn.now)
      → IsUnchanged first (state g old.conn.now) → IsUnchanged first (state g new.conn.now)
  unchanged_on first next is late same =
      unchanged_then first (state g old.conn.now) (state g new.conn.now) same (rw is at (moved.same late))
