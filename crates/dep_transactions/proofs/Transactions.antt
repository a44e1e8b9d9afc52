-- What a transaction leaves: on the connection, and after a crash.
use Rattle.std.proofs.Common.{◌≡◌, inl, inr, true, false, ◌≤◌, IsTrue, refl, sym, ap, subst, ◌∙◌, arith}
use Rattle.std.proofs.lemmas.Bool.{both_ways}
use Rattle.sqlite.specs.Effect.{Database}
use Rattle.sqlite.specs.State.{State, HasCleanDisk, IsRolledBack, Survives, Fails}
use Rattle.sqlite.specs.Steps.{FailsToCommit}
use Rattle.sqlite.specs.declared.error.Error.{Error}
use Rattle.sqlite.specs.Held.{Held, state}
use Rattle.sqlite.specs.Tree.{Trees}
use Rattle.sqlite.specs.Schema.{Schema}
use Rattle.sqlite_trees.specs.declared.store.Store.{Ghosts}
use Rattle.sqlite_trees.specs.View.{doubt}
use Rattle.dep_tables.specs.Clauses.{StaysInside}
use Rattle.sqlite.proofs.StateLemmas.{survives_then}
use Rattle.sqlite.proofs.Callers.{survives_begin}
use Rattle.dep_tables.specs.Tables.{Tables, tables_in, HasTablesOf}
use Rattle.dep_transactions.specs.OpenTables.{IsBack, IsOpenWithOf, EndsTransaction, WholeTransaction}

-- the connection is back at the last commit
pub represents_left : {its : Schema} (old new : State) (was : Tables) → IsOpenWithOf its old was → IsTrue new.is_open → new.in_transaction ≡ false → new.now ≡ old.committed → new.committed ≡ old.committed → IsOpenWithOf its new was
represents_left {its} old new was represents is_open mode now committed =
    let same : new.now ≡ old.now = now ∙ sym represents.committed in
    record {
      is_open = is_open;
      settled = mode;
      committed = now ∙ sym committed;
      ours = subst (HasTablesOf its) (sym same) represents.ours;
      rows = ap (λ (d : Database). tables_in d.trees) same ∙ represents.rows;
    }

-- a commit adds what the transaction saw to what a crash may leave
pub commits : {S : Type 0} (g : Ghosts S) (old : Held S) (mid new : State) (P : Trees → Type 0)
    → Survives (state g (record old { in_transaction = true })) mid (λ _. ⊥) → Survives mid new (λ db. db ≡ mid.now.trees) → (HasCleanDisk mid → P mid.now.trees) → Survives (state g old) new P
commits g old mid new P one two made =
    survives_begin g old new P (survives_then (state g (record old { in_transaction = true })) mid new (λ _. ⊥) (λ db. db ≡ mid.now.trees) P
    (λ clean db none. absurd none)
    (λ clean db e. subst P (sym e) (made (omega (arith, clean, two.clean))))
    one two)

-- whatever ends a transaction opens no store
ends_open : (inside new : State) → EndsTransaction inside new → IsTrue new.is_open → IsTrue inside.is_open
ends_open inside new (inl committed) is_open = committed.0.was_open
ends_open inside new (inr (inl (e, inl failed))) is_open = failed.3.was_open is_open
ends_open inside new (inr (inl (e, inr late))) is_open = late.2.0.was_open
ends_open inside new (inr (inr undone)) is_open = undone.was_open is_open

pub begins_open : {S : Type 0} (g : Ghosts S) (old inside new : Held S) → WholeTransaction g old inside new → HasCleanDisk (state g new) → IsTrue (state g new).is_open → IsTrue (state g old).is_open
begins_open g old inside new whole clean is_open =
    let then : HasCleanDisk (state g inside) = omega (arith, clean, whole.survives.clean) in
    (whole.kept then refl).was_open (ends_open (state g inside) (state g new) (whole.ends clean) is_open)

-- a transaction that was given up leaves the last commit
pub left : {S : Type 0} (g : Ghosts S) (old last new : Held S)
    → StaysInside (state g (record old { in_transaction = true })) (state g last)
    → doubt (state g last).is_clean ≤ doubt (state g new).is_clean
    → (HasCleanDisk (state g new) → IsRolledBack (state g last) (state g new))
    → HasCleanDisk (state g new) → IsTrue (state g new).is_open → IsBack (state g old) (state g new)
left g old last new kept falls undone clean is_open =
    let back = (undone clean).undone is_open in
    let same = (kept (omega (arith, clean, falls)) refl).committed ((undone clean).was_open is_open) in
    (back.0 ∙ same, back.1 ∙ same)

-- what is clean in the end was clean before
pub clean_last : (last new : State) (P : Trees → Type 0) → Survives last new P → HasCleanDisk new → HasCleanDisk last
clean_last last new P survives clean = omega (arith, clean, survives.clean)

-- a commit that failed in a transaction that went on failed in the store
pub failed_only : (old new : State) (e : Error) → IsTrue old.in_transaction → FailsToCommit old new e → Fails old new ⊥ e
failed_only old new e inside (inl failed) = failed
failed_only old new e inside (inr late) = absurd (both_ways old.in_transaction late.1 inside)
