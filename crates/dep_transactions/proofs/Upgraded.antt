-- What an upgrade leaves.
use Rattle.std.proofs.Common.{◌≡◌, inl, inr, IsTrue, List, Result, Ok, Err, IfErr, refl, subst}
use Rattle.std.specs.Prelude.{⊤, OnOk, OnErr}
use Rattle.sqlite.specs.State.{State, HasCleanDisk, IsRolledBack, Survives, Commits}
use Rattle.sqlite.specs.Tree.{Trees}
use Rattle.sqlite.specs.Held.{Held, state}
use Rattle.sqlite.specs.declared.transaction.Transaction.{Transaction}
use Rattle.sqlite.proofs.Callers.{survives_begin}
use Rattle.sqlite.proofs.StateLemmas.{survives_then}
use Rattle.sqlite_trees.specs.declared.store.Store.{Ghosts}
use Rattle.dep_tables.specs.Schema.{our_schema, older_schema}
use Rattle.dep_tables.specs.declared.sha512s.FileSha512.{FileSha512}
use Rattle.dep_tables.specs.Tables.{tables_of, IsOlder}
use Rattle.dep_tables.specs.Clauses.{CommitsNothing}
use Rattle.dep_types.specs.declared.store_fault.StoreFault.{StoreFault}
use Rattle.dep_row_maps.specs.Sha512s.{upgraded}
use Rattle.dep_migrations.specs.Beside.{AreNewNamesFree}
use Rattle.dep_migrations.specs.FirstTables.{SeesTables}
use Rattle.dep_transactions.specs.OpenTables.{IsBack}
use Rattle.dep_transactions.specs.OpenTables.{begun}
use Rattle.dep_transactions.specs.Transactions.{FailsToEnd, TransactsTo}
use Rattle.dep_migrations.specs.Upgrading.{FailsToRewrite}
use Rattle.dep_transactions.specs.Upgrading.{FailsToUpgrade}
use Rattle.dep_transactions.specs.declared.lending.Lent.{Lent}
use Rattle.dep_transactions.proofs.Asking.{LentStays}
use Rattle.dep_transactions.proofs.Transacting.{still_inside, Works, undone_by_commit, committed, uncommitted}
use Rattle.dep_transactions.proofs.Transactions.{clean_last, commits, failed_only, left as back}

module _ {S : Type 0} (g : Ghosts S) (values : List FileSha512) where
  abbrev lent_state : Lent S → State
  lent_state lent = state g lent.tx.now.conn.now

  -- a transaction that is lent is one of its connection
  lent_rewrites : (first inside : Lent S) (fault : StoreFault) → FailsToRewrite lent_state first inside values fault → FailsToRewrite (state g) first.tx.now.conn.now inside.tx.now.conn.now values fault
  lent_rewrites first inside fault (inl (inl failed)) = inl (inl failed)
  lent_rewrites first inside fault (inl (inr (made, adds, kept, inl failed))) = inl (inr (made.tx.now.conn.now, adds, kept, inl failed))
  lent_rewrites first inside fault (inl (inr (made, adds, kept, inr it))) =
      inl (inr (made.tx.now.conn.now, adds, kept, inr (record { at = it.at.tx.now.conn.now; since = it.since; by = it.by })))
  lent_rewrites first inside fault (inr (free, it)) = inr (free, record { at = it.at.tx.now.conn.now; since = it.since; by = it.by })

module _ {S : Type 0} (g : Ghosts S) (values : List FileSha512) (old : Held S) (first inside : Lent S) (last : Transaction S) (is : first.tx.now.conn.now ≡ begun old) (left : inside.tx.now ≡ last) where
  -- a statement failed, and the transaction was given up
  pub statement_failed : (new : Held S) (fault : StoreFault) → FailsToRewrite (λ (lent : Lent S). state g lent.tx.now.conn.now) first inside values fault
      → CommitsNothing (state g last.conn.now) (state g new) → FailsToUpgrade g old new values fault
  statement_failed new fault it given =
      inl (
        last.conn.now,
        subst (λ (h : Held S). FailsToRewrite (state g) h last.conn.now values fault) is
            (subst (λ (tx : Transaction S). FailsToRewrite (state g) first.tx.now.conn.now tx.conn.now values fault) left (lent_rewrites g values first inside fault it)),
        given,
      )

  -- its commit failed
  commit_failed : {A E : Type 0} {x : A} (new : Held S) (fault : StoreFault) → LentStays {A = A} {E = E} g first inside (Ok x) → HasCleanDisk (state g last.conn.now)
      → AreNewNamesFree (state g old).now.schema → FailsToEnd (state g last.conn.now) (state g new) fault → FailsToUpgrade g old new values fault
  commit_failed new fault stays clean free failed =
      let since = subst (λ (h : Held S). CommitsNothing (state g h) (state g last.conn.now)) is (subst (λ (tx : Transaction S). CommitsNothing (state g first.tx.now.conn.now) (state g tx.conn.now)) left stays.survives) in
      inr (last.conn.now, failed.0, free, survives_begin g old (state g last.conn.now) (λ _. ⊥) since, failed_only (state g last.conn.now) (state g new) failed.0 (still_inside g old stays is left clean) failed.1, failed.2)

-- what an Ok of the statements inside a transaction tells
pub record IsRewritten (start inside : State) (values : List FileSha512) : Type 0 where
  pub ok : HasCleanDisk inside → IsTrue start.in_transaction → IsOlder start → SeesTables inside (upgraded values (tables_of start))
  pub free : HasCleanDisk inside → IsTrue start.in_transaction → AreNewNamesFree start.now.schema

-- in one that was lent, it tells that of the connection
pub rewritten_within : {S A E : Type 0} {first inside : Lent S} {last : Transaction S} {r : Result A E} (g : Ghosts S) (old : Held S) (values : List FileSha512)
    → LentStays g first inside r → first.tx.now.conn.now ≡ begun old → inside.tx.now ≡ last
    → IsRewritten (state g first.tx.now.conn.now) (state g inside.tx.now.conn.now) values → IsRewritten (state g (begun old)) (state g last.conn.now) values
rewritten_within {S = S} {inside = inside} g old values stays is left it =
    subst (λ (tx : Transaction S). IsRewritten (state g (begun old)) (state g tx.conn.now) values) left
    (subst (λ (h : Held S). IsRewritten (state g h) (state g inside.tx.now.conn.now) values) is it)

-- ---- what it leaves, whatever tables there are

module _ {S : Type 0} (g : Ghosts S) (old inside new : Held S) (work : Works g old inside new) (last : Held S) (same : new ≡ last) where
  -- given up, it is back at the last commit
  pub upgrade_back : CommitsNothing (state g inside) (state g new) → (HasCleanDisk (state g new) → IsRolledBack (state g inside) (state g new)) → IsTrue (state g last).is_open → IsBack (state g old) (state g last)
  upgrade_back survives undone = subst (λ (h : Held S). IsTrue (state g h).is_open → IsBack (state g old) (state g h)) same
      (λ is_open. back g old inside new work.kept survives.clean undone (work.shut is_open) is_open)

  -- a commit that failed has ended so too
  commit_back : (fault : StoreFault) → Survives (state g inside) (state g new) (λ trees. trees ≡ (state g inside).now.trees) → (HasCleanDisk (state g inside) → IsTrue (state g inside).in_transaction)
      → (HasCleanDisk (state g new) → FailsToEnd (state g inside) (state g new) fault) → IsTrue (state g last).is_open → IsBack (state g old) (state g last)
  commit_back fault survives goes_on fails = subst (λ (h : Held S). IsTrue (state g h).is_open → IsBack (state g old) (state g h)) same
      (λ is_open. back g old inside new work.kept survives.clean (λ clean. undone_by_commit (state g inside) (state g new) (fails clean).0 (goes_on (clean_last (state g inside) (state g new) _ survives clean)) (fails clean).1) (work.shut is_open) is_open)

  -- a crash before a commit leaves what it left before
  pub crash_given_up : (P : Trees → Type 0) → CommitsNothing (state g inside) (state g new) → Survives (state g old) (state g last) P
  crash_given_up P survives = subst (λ (h : Held S). Survives (state g old) (state g h) P) same
      (survives_begin g old (state g new) P (survives_then (state g (begun old)) (state g inside) (state g new) (λ _. ⊥) (λ _. ⊥) P (λ _ db none. absurd none) (λ _ db none. absurd none) work.survives survives))

  -- and one in it perhaps what it committed
  pub crash_committing : (P : Trees → Type 0) → Survives (state g inside) (state g new) (λ trees. trees ≡ (state g inside).now.trees) → (HasCleanDisk (state g inside) → P (state g inside).now.trees)
      → Survives (state g old) (state g last) P
  crash_committing P survives made = subst (λ (h : Held S). Survives (state g old) (state g h) P) same (commits g old (state g inside) (state g new) P work.survives survives made)

-- what it leaves once it has committed, or has failed to
pub record IsEnded {S : Type 0} (g : Ghosts S) (values : List FileSha512) (old last : Held S) (result : Result ⊤ StoreFault) : Type 0 where
  pub upgrades : TransactsTo older_schema our_schema (state g old) (state g last) result (λ t _ after. after ≡ upgraded values t)
  pub free : HasCleanDisk (state g last) → OnOk result (AreNewNamesFree (state g old).now.schema)
  pub cause : HasCleanDisk (state g last) → IfErr result (FailsToUpgrade g old last values)
  pub left : IsTrue (state g last).is_open → OnErr result (IsBack (state g old) (state g last))

module _ {S : Type 0} (g : Ghosts S) (values : List FileSha512) (old new last : Held S) (first inside : Lent S) (tx : Transaction S) (is : first.tx.now.conn.now ≡ begun old) (left : inside.tx.now ≡ tx) (same : new ≡ last) where
  pub ended : {A E : Type 0} {x : A} (result : Result ⊤ StoreFault) → LentStays {A = A} {E = E} g first inside (Ok x) → Works g old tx.conn.now new → IsRewritten (state g (begun old)) (state g tx.conn.now) values
      → (HasCleanDisk (state g new) → OnOk result (Commits (state g tx.conn.now) (state g new))) → (HasCleanDisk (state g new) → IfErr result (FailsToEnd (state g tx.conn.now) (state g new)))
      → Survives (state g tx.conn.now) (state g new) (λ trees. trees ≡ (state g tx.conn.now).now.trees) → IsEnded g values old last result
  ended (Ok done) stays work worked commits fails survives = record {
    upgrades = committed g old tx.conn.now new _ done work (λ clean older. let sees = worked.ok clean refl older in (sees.ours, sees.rows)) commits survives last same;
    free = subst (λ (h : Held S). HasCleanDisk (state g h) → AreNewNamesFree (state g old).now.schema) same
        (λ clean. worked.free (clean_last (state g tx.conn.now) (state g new) _ survives clean) refl);
    cause = λ clean. tt;
    left = λ is_open. tt;
  }
  ended (Err fault) stays work worked commits fails survives = record {
    upgrades = uncommitted g old tx.conn.now new _ tt fault work (λ clean older. let sees = worked.ok clean refl older in (sees.ours, sees.rows)) (still_inside g old stays is left) fails survives last same;
    free = λ clean. tt;
    cause = subst (λ (h : Held S). HasCleanDisk (state g h) → FailsToUpgrade g old h values fault) same
        (λ clean.
        let before = clean_last (state g tx.conn.now) (state g new) _ survives clean in
        commit_failed g values old first inside tx is left new fault stays before (worked.free before refl) (fails clean));
    left = commit_back g old tx.conn.now new work last same fault survives (still_inside g old stays is left) fails;
  }
