-- Calls of which each leaves the tables as they are.
use Rattle.std.proofs.Common.{◌≡◌, ◌⊎◌, inl, inr, ◌∙◌, ◌≤◌, ℕ, List, [], Option, Some, None, Result, Ok, Err, false, refl, IsTrue, sym, ap, subst, arith}
use Rattle.std.specs.Prelude.{⊤}
use Rattle.sqlite.specs.Order.{Row}
use Rattle.sqlite.specs.Clock.{timed}
use Rattle.sqlite.specs.State.{State, HasCleanDisk, IsUnchanged, IsRolledBack, Survives, FailsToQuery, Shown, ShowsRows, CommitsShowing}
use Rattle.sqlite.specs.Tree.{Trees}
use Rattle.sqlite_schema.specs.declared.command.Returning.{Returning}
use Rattle.sqlite.specs.Held.{Held, state}
use Rattle.sqlite.specs.declared.error.Error.{Error}
use Rattle.sqlite.proofs.Callers.{unchanged_then}
use Rattle.sqlite.specs.Given.{HasBegun, HasGiven, Returns}
use Rattle.sqlite_resolve.specs.declared.compiled.Compiled.{Compiled}
use Rattle.sqlite_resolve.specs.declared.error.CompileError.{CompileError}
use Rattle.sqlite.proofs.StateLemmas.{survives_then, survives_weaker, unchanged}
use Rattle.sqlite_trees.specs.View.{doubt}
use Rattle.sqlite_trees.specs.declared.store.Store.{Ghosts}
use Rattle.dep_tables.proofs.Asked.{asks_leave}
use Rattle.dep_tables.specs.Schema.{our_schema}
use Rattle.dep_tables.specs.Tables.{tables_in, tables_of, HasTablesOf, IsOurs, HasOurTables, IsKnown}
use Rattle.dep_tables.proofs.Results.{if_ok, ok_then}
use Rattle.dep_schema.specs.Clauses.{OnlyReads, ReadsOverTables, ShowsNoWrite, StaysOver}
use Rattle.dep_schema.specs.Reading.{StaysOrRollsBack}

-- ---- one query

never_some : (r : Result Compiled CompileError) → ShowsNoWrite r → Returns r → ⊥
never_some (Ok c) none some = let reported = rw none at some in cc
never_some (Err e) none some = some

-- a text that shows no rows of a write changes nothing, whatever the schema is
pub shown_reads : (sql : List ℕ) (params : Row) (old new : State) → OnlyReads sql → (rows : List Row) → Shown sql params old new rows → IsUnchanged old new
unfolding Shown
shown_reads sql params old new reads rows h =
    let none = subst ShowsNoWrite h.1.is (reads old.now.schema) in
    (subst (ShowsRows old new sql h.0 (timed params h.0.formats h.1.now) rows) none h.2).3

commits_unread : (sql : List ℕ) (params : Row) (s : State) (db : Trees) → OnlyReads sql → ¬ CommitsShowing sql params s db
unfolding CommitsShowing
commits_unread sql params s db reads h = never_some (Ok h.0) (subst ShowsNoWrite h.1.is (reads s.now.schema)) h.2

-- one that begins has given no row
pub begun_reads : {S : Type 0} (g : Ghosts S) (sql : List ℕ) (params : Row) (old new : Held S) → OnlyReads sql → HasBegun g sql params old new
    → HasGiven g sql params new [] × IsUnchanged (state g old) (state g new)
begun_reads g sql params old new reads (inl h) = h
begun_reads g sql params old new reads (inr h) = absurd (never_some _ (reads old.schema) h.0)

-- what shows rows was open
pub shown_open : (sql : List ℕ) (params : Row) (old new : State) (rows : List Row) → Shown sql params old new rows → IsTrue old.is_open
unfolding Shown
shown_open sql params old new rows h = either h.0.returning h.2
  where
    either : (returning : Option Returning) → ShowsRows old new sql h.0 (timed params h.0.formats h.1.now) rows returning → IsTrue old.is_open
    either None shows = shows.3.0.was_open
    either (Some what) shows = shows.1.shown.was_open

pub left_open : (old new : State) → IsUnchanged old new ⊎ IsRolledBack old new → IsTrue new.is_open → IsTrue old.is_open
left_open old new (inl same) is_open = same.0.was_open
left_open old new (inr back) is_open = back.was_open is_open

rolled_then : (a b c : State) → IsUnchanged a b → IsUnchanged b c ⊎ IsRolledBack b c → IsUnchanged a c ⊎ IsRolledBack a c
rolled_then a b c same (inl still) = inl (unchanged_then a b c same still)
rolled_then a b c same (inr back) = inr (record {
  was_open = λ _. same.0.was_open;
  undone = λ h. ((back.undone h).0 ∙ same.0.committed_is, (back.undone h).1 ∙ same.0.committed_is);
  autocommit = back.autocommit;
  unmarked = back.unmarked;
  counts = record { changes = back.counts.changes ∙ same.1.changes; last_rowid = back.counts.last_rowid ∙ same.1.last_rowid };
})

none_before : (before after : ℕ) → before ≤ after → after ≡ 0 → before ≡ 0
none_before before after fewer none = omega arith

-- a disk that is clean was so before
pub clean_was : (old new : State) (Commits : Trees → Type 0) → Survives old new Commits → HasCleanDisk new → HasCleanDisk old
clean_was old new Commits kept late = none_before _ _ kept.clean late

-- ---- one call after another

-- nothing was asked, or nothing was changed
pub record IsStill (old new : State) : Type 0 where
  pub now_is : new.now ≡ old.now
  pub unchanged : IsTrue old.is_open → IsUnchanged old new
  pub was_open : IsTrue new.is_open → IsTrue old.is_open

pub still_itself : (now : State) → IsStill now now
still_itself now = record { now_is = refl; unchanged = unchanged now; was_open = λ is_open. is_open }

pub still_same : (a b : State) → IsUnchanged a b → IsStill a b
still_same a b same = record { now_is = same.0.now_is; unchanged = λ _. same; was_open = λ _. same.0.was_open }

pub still_then : (a b c : State) → IsStill a b → IsUnchanged b c → IsUnchanged a c
still_then a b c still same = unchanged_then a b c (still.unchanged (still.was_open same.0.was_open)) same

pub still_left : {S : Type 0} (g : Ghosts S) (old new : Held S) → (new ≡ old) ⊎ IsUnchanged (state g old) (state g new) → IsStill (state g old) (state g new)
still_left {S} g old new (inl none) = subst (λ (h : Held S). IsStill (state g old) (state g h)) (sym none) (still_itself (state g old))
still_left g old new (inr same) = still_same (state g old) (state g new) same

pub tables_still : (a b : State) → IsStill a b → tables_of b ≡ tables_of a
tables_still a b still = ap (λ db. tables_in db.trees) still.now_is

kept_then : (a b c : State) → IsStill a b → StaysOrRollsBack b c → StaysOrRollsBack a c
kept_then a b c still kept is_open =
    let left = kept is_open in
    rolled_then a b c (still.unchanged (still.was_open (left_open b c left is_open))) left

-- ---- the tables of any version

pub ours_still : (a b : State) → IsStill a b → IsOurs a → IsOurs b
ours_still a b still ours = subst HasOurTables (sym still.now_is) ours

pub ours_known : (s : State) → IsOurs s → IsKnown s
ours_known s ours = (our_schema, inl refl, ours)

pub known_still : (a b : State) → IsStill a b → IsKnown a → IsKnown b
known_still a b still (its, known, ours) = (its, known, subst (HasTablesOf its) (sym still.now_is) ours)

-- ---- what each call keeps

as_many : (n : ℕ) → n ≤ n
as_many n = omega arith

survives_itself : (now : State) → Survives now now (λ _. ⊥)
survives_itself now = record {
  clean = as_many (doubt now.is_clean);
  shield = λ h. h;
  counts = as_many now.faults;
  limit = refl;
  closes = λ _ is_open. inl is_open;
  crash = λ _ db may. inl may;
}

module _ {S : Type 0} {g : Ghosts S} where
  -- nothing was asked
  pub stays_itself : (now : Held S) → StaysOver g now now
  stays_itself now = record {
    honest = λ late. late;
    was_open = λ late is_open. is_open;
    mode = λ outside. outside;
    kept = λ late is_open. inl (unchanged (state g now) is_open);
    survives = survives_itself (state g now);
  }

  -- a call behind others that changed nothing
  pub stays_then : {a b c : Held S} → StaysOver g a b → (HasCleanDisk (state g b) → IsStill (state g a) (state g b)) → StaysOver g b c → StaysOver g a c
  stays_then {a = a} {b} {c} first still second = record {
    honest = λ late. first.honest (second.honest late);
    was_open = λ late is_open. first.was_open (second.honest late) (second.was_open late is_open);
    mode = λ outside. second.mode (first.mode outside);
    kept = λ late. kept_then (state g a) (state g b) (state g c) (still (second.honest late)) (second.kept late);
    survives = survives_then (state g a) (state g b) (state g c) _ _ _ (λ _ db none. none) (λ late db none. none) first.survives second.survives;
  }

  -- a query that may commit what it shows of a write, where it shows none
  pub stays_asked : (sql : List ℕ) (params : Row) {a b : Held S} → OnlyReads sql
      → (HasCleanDisk (state g b) → IsTrue (state g b).is_open → IsTrue (state g a).is_open)
      → (HasCleanDisk (state g b) → IsUnchanged (state g a) (state g b) ⊎ IsRolledBack (state g a) (state g b))
      → ((state g a).in_transaction ≡ false → (state g b).in_transaction ≡ false)
      → Survives (state g a) (state g b) (CommitsShowing sql params (state g a)) → StaysOver g a b
  stays_asked sql params {a} {b} reads was_open left mode survives = record {
    honest = clean_was (state g a) (state g b) (CommitsShowing sql params (state g a)) survives;
    was_open = was_open;
    mode = mode;
    kept = λ late is_open. left late;
    survives = survives_weaker (state g a) (state g b) _ _ (λ _ db commits. commits_unread sql params (state g a) db reads commits) survives;
  }

  -- all of its rows were shown
  pub stays_shown : (sql : List ℕ) (params : Row) {a b : Held S} (rows : List Row) → OnlyReads sql
      → (HasCleanDisk (state g b) → Shown sql params (state g a) (state g b) rows)
      → ((state g a).in_transaction ≡ false → (state g b).in_transaction ≡ false)
      → Survives (state g a) (state g b) (CommitsShowing sql params (state g a)) → StaysOver g a b
  stays_shown sql params {a} {b} rows reads shown = stays_asked sql params reads (λ late _. shown_open sql params (state g a) (state g b) rows (shown late))
      (λ late. inl (shown_reads sql params (state g a) (state g b) reads rows (shown late)))

  -- it failed
  pub stays_refused : (sql : List ℕ) (params : Row) {a b : Held S} (e : Error) → OnlyReads sql
      → (HasCleanDisk (state g b) → FailsToQuery sql params (state g a) (state g b) e)
      → ((state g a).in_transaction ≡ false → (state g b).in_transaction ≡ false)
      → Survives (state g a) (state g b) (CommitsShowing sql params (state g a)) → StaysOver g a b
  stays_refused sql params {a} {b} e reads failed = stays_asked sql params reads (λ late. left_open (state g a) (state g b) (left late)) left
    where
      left : HasCleanDisk (state g b) → IsUnchanged (state g a) (state g b) ⊎ IsRolledBack (state g a) (state g b)
      left late = asks_leave sql params (state g a) (state g b) e (inl (failed late))

-- ---- what each call that reads keeps, by what it returned

-- what those keep up to here that were Ok, with no value
abbrev pub HasRead : {S : Type 0} (g : Ghosts S) (first now : Held S) → Type 0
HasRead g first now = ReadsOverTables {A = ⊤} {E = ⊤} g first now (Ok tt)

module _ {S A E B F : Type 0} {g : Ghosts S} {a b c : Held S} {x : A} {r : Result B F} where
  -- one behind another that was Ok
  pub over_then : ReadsOverTables {A = A} {E = E} g a b (Ok x) → ReadsOverTables g b c r → ReadsOverTables g a c r
  over_then first second = record {
    stays = stays_then first.stays (λ clean. still_same (state g a) (state g b) (first.same clean)) second.stays;
    same = λ clean. ok_then r (second.same clean) (λ more. unchanged_then (state g a) (state g b) (state g c) (first.same (second.stays.honest clean)) more);
  }

module _ {S A E B F : Type 0} {g : Ghosts S} {a b : Held S} where
  -- something else is returned behind an Ok
  pub over_ok : {x : A} {r : Result B F} → ReadsOverTables {A = A} {E = E} g a b (Ok x) → ReadsOverTables g a b r
  over_ok {r = r} reads = record { stays = reads.stays; same = λ clean. if_ok r (reads.same clean) }

  -- and an error, of which only this is known
  pub over_err : {r : Result A E} {e : F} → ReadsOverTables g a b r → ReadsOverTables {A = B} g a b (Err e)
  over_err reads = record { stays = reads.stays; same = λ clean. tt }
