-- A store that a fault shut: what fails on it, and what stands again once a statement was given back.
use Rattle.std.proofs.Common.{◌≡◌, ◌∙◌, ℕ, List, [], Bool, Result, Ok, Err, OnOk, IfOk, IfErr, IsErr, MatchResult, codes, refl, IsTrue, inl, inr, sym, ap, subst, length, le_of_eq}
use Rattle.std.proofs.lemmas.Result.{IfOk-from_err}
use Rattle.std.specs.Prelude.{⊤}
use Rattle.sqlite.specs.State as db
use Rattle.sqlite.specs.State.{HasCleanDisk, Survives, IsNotRun, store_error}
use Rattle.sqlite.specs.declared.error.ErrorCode.TheVariants as code
use Rattle.sqlite.specs.declared.error.Error.{Error}
use Rattle.sqlite.specs.declared.error.Error.TheVariants.{SqliteFailure}
use Rattle.sqlite_trees.specs.declared.error.StoreError.{StoreError}
use Rattle.sqlite_trees.specs.declared.error.StoreError.TheVariants.{OutOfMemory, Io, Corrupt, Full, Broken, Unstorable}
use Rattle.dep_types.specs.State.{State}
use Rattle.dep_types.specs.declared.store_fault.StoreFault.{StoreFault}
use Rattle.dep_exchange.specs.Shut.{ReportsOpen}
use Rattle.dep_store.specs.Archive.{shown_by}
use Rattle.sqlite.specs.Schema.{Schema}
use Rattle.dep_transactions.specs.States.{StoreRepresents}
use Rattle.dep_transactions.specs.Transactions.{IsBackAt, IsRestored}
use Rattle.dep_transactions.proofs.Transacting.{tables_back}
use Rattle.dep_store.specs.Shut.{ReportsPrepared, StoreFailsToReport, StoreLeavesNoMore, StoreFailsIfShut, StaysOpen}
use Rattle.sqlite.specs.Listing.{understood}
use Rattle.sqlite_tied.specs.Compute.{everything}
use Rattle.sqlite_resolve.specs.declared.compiled.Compiled.{Compiled}
use Rattle.sqlite_resolve.specs.declared.error.CompileError.{CompileError}

on_any : {A E : Type 0} (r : Result A E) (P : Type 0) → P → OnOk r P
on_any (Ok answer) P h = h
on_any (Err e) P h = tt

-- nothing was committed
pub leaves_no_more : (old new : db.State) → Survives old new (λ _. ⊥) → StoreLeavesNoMore old new
leaves_no_more old new survives clean shut trees h = elim (survives.crash clean trees h) [ inl earlier ↦ earlier | inr none ↦ absurd none ]

-- it failed, and nothing was committed
pub fails_still : {A E : Type 0} (old new : db.State) (r : Result A E) → IsErr r → Survives old new (λ _. ⊥) → StoreFailsIfShut old new r
fails_still old new r failed survives = record { opened = λ clean. IfOk-from_err r (λ _. _) failed; left = leaves_no_more old new survives }

-- so all is given back where it failed
pub fails_staying : {A E : Type 0} (old new : db.State) (r : Result A E) → IsErr r → IsRestored old new → StaysOpen old new r
fails_staying old new r failed restored = record {
  shut = fails_still old new r failed restored.survives;
  back = IfOk-from_err r (λ _. _) failed;
  opened = λ clean. IfOk-from_err r (λ _. _) failed;
}

-- the store was open
pub was_open_then : {A E : Type 0} (old new : db.State) (r : Result A E) → (HasCleanDisk new → IsTrue old.is_open) → StoreFailsIfShut old new r
was_open_then old new r was = record { opened = λ clean. on_any r _ (was clean); left = λ clean shut trees h. absurd (shut (was clean)) }

-- all was given back, and the store is open
pub state_back : (old new : db.State) (s : State) → IsBackAt old new → IsTrue new.is_open → StoreRepresents old s → StoreRepresents new s
state_back old new s back is_open represents =
    record { tables = represents.tables; represents = tables_back old new represents.tables back is_open represents.represents; means = represents.means }

-- what then changed nothing leaves it so
pub back_on_ok : {A E : Type 0} (old mid new : db.State) (r : Result A E) → (IsTrue new.is_open → HasCleanDisk new) → IsBackAt old mid
    → (HasCleanDisk new → OnOk r (db.IsUnchanged mid new)) → OnOk r (IsBackAt old new)
back_on_ok old mid new (Ok answer) clean back same = λ is_open.
    let it = same (clean is_open) in
    let was = back it.0.was_open in
    (was.0, it.0.now_is ∙ was.1, it.0.committed_is ∙ was.2, it.0.mode ∙ was.3)
back_on_ok old mid new (Err e) clean back same = tt

-- and leaves the store open
pub open_still : {A E : Type 0} (mid new : db.State) (r : Result A E) → OnOk r (db.IsUnchanged mid new) → OnOk r (IsTrue new.is_open)
open_still mid new (Ok answer) same = same.0.is_open
open_still mid new (Err e) same = tt

by_cause : (old new : db.State) (cause : StoreError) → SqliteFailure code.Closed ≡ store_error cause → db.HasCause old new ⊥ cause → IsTrue old.is_open → ⊥
by_cause old new OutOfMemory e has is_open = cc e
by_cause old new Io e has is_open = cc e
by_cause old new Corrupt e has is_open = cc e
by_cause old new Full e has is_open = cc e
by_cause old new Broken e has is_open = let it = sym is_open ∙ has in cc it
by_cause old new Unstorable e has is_open = absurd has

closed_at : (old new : db.State) (sql : List ℕ) → IsNotRun old new sql [] (SqliteFailure code.Closed) → ¬ IsTrue new.is_open
unfolding IsNotRun
closed_at old new sql (inl (none, unchanged)) is_open = elim none [
  | inl (fault, is, e) ↦ cc e
  | inr (c, is, why) ↦ elim why [
    | inl (more, e) ↦ cc e
    | inr other ↦ elim other [ inl (count, e) ↦ cc e | inr (formats, e) ↦ cc e ]
  ]
]
closed_at old new sql (inr (cause, e, has, rolled, reported)) is_open = by_cause old new cause e has (rolled.was_open is_open)

-- a statement is refused as one of a store that is shut only by a store that is
pub closed_if_shut : (old new : db.State) (sql : List ℕ) (e : Error) → IsNotRun old new sql [] e → e ≡ SqliteFailure code.Closed → ¬ IsTrue new.is_open
closed_if_shut old new sql e refused closed = closed_at old new sql (subst (λ (x : Error). IsNotRun old new sql [] x) closed refused)

-- one statement, with no parameter and no clock
abbrev IsAlone : Result Compiled CompileError → Type 0
IsAlone r = MatchResult r (λ c. (c.tail ≡ 8) × (c.names ≡ []) × (c.formats ≡ [])) (λ e. ⊥)

-- it is so over all tables
asks_none : (its : Schema) → IsAlone (understood its (codes "SELECT 1"))
unfolding understood everything
asks_none its = (refl, refl, refl)

-- so it isn't prepared only where the store fails
pub fails_alone : (old new : db.State) (e : Error) → IsNotRun old new (codes "SELECT 1") [] e → db.Fails old new ⊥ e
unfolding IsNotRun
fails_alone old new e (inr fails) = fails
fails_alone old new e (inl (none, unchanged)) = absurd (elim none [
  | inl (fault, is, reported) ↦ subst IsAlone is (asks_none old.now.schema)
  | inr (c, is, why) ↦
      let its : (c.tail ≡ 8) × (c.names ≡ []) × (c.formats ≡ []) = subst IsAlone is (asks_none old.now.schema) in
      elim why [
        | inl (more, reported) ↦ more (le_of_eq (sym its.0))
        | inr other ↦ elim other [
          | inl (count, reported) ↦ count (ap length (sym its.1))
          | inr (formats, reported) ↦ formats its.2
        ]
      ]
])

-- what it says of the store that a statement was to be prepared
module _ (old new : db.State) (clean_now : IsTrue new.is_open → HasCleanDisk new) where
  pub tells_open : (probed : Result ⊤ Error) (result : Result Bool StoreFault) → ReportsPrepared probed result → (HasCleanDisk new → OnOk probed (IsTrue new.is_open))
      → (HasCleanDisk new → IfErr probed (IsNotRun old new (codes "SELECT 1") [])) → IfOk result (ReportsOpen (shown_by new))
  tells_open (Ok prepared) result is opened cause = subst (λ (r : Result Bool StoreFault). IfOk r (ReportsOpen (shown_by new))) (sym is) opened
  tells_open (Err e) result (inl (closed, is)) opened cause = subst (λ (r : Result Bool StoreFault). IfOk r (ReportsOpen (shown_by new))) (sym is)
      (λ is_open. closed_if_shut old new _ e (cause (clean_now is_open)) closed is_open)
  tells_open (Err e) result (inr (other, is)) opened cause = subst (λ (r : Result Bool StoreFault). IfOk r (ReportsOpen (shown_by new))) (sym is) tt

  pub tells_why : (probed : Result ⊤ Error) (result : Result Bool StoreFault) → ReportsPrepared probed result
      → (HasCleanDisk new → IfErr probed (IsNotRun old new (codes "SELECT 1") [])) → HasCleanDisk new → IfErr result (StoreFailsToReport old new)
  tells_why (Ok prepared) result is cause clean = subst (λ (r : Result Bool StoreFault). IfErr r (StoreFailsToReport old new)) (sym is) tt
  tells_why (Err e) result (inl (closed, is)) cause clean = subst (λ (r : Result Bool StoreFault). IfErr r (StoreFailsToReport old new)) (sym is) tt
  tells_why (Err e) result (inr (other, is)) cause clean =
      subst (λ (r : Result Bool StoreFault). IfErr r (StoreFailsToReport old new)) (sym is) (inr (e, fails_alone old new e (cause clean), other, refl))
