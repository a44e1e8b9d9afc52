-- A failure behind calls that committed nothing.
use Rattle.std.proofs.Common.{◌≡◌, ℕ, List, [], Result, Ok, Err, IfErr, IsErr, IsErrAnd, IsTrue, inr, subst, sym}
use Rattle.sqlite.specs.State as db
use Rattle.sqlite.specs.State.{HasCleanDisk, Survives, ExecutesInside}
use Rattle.sqlite.proofs.StateLemmas.{survives_then}
use Rattle.dep_types.specs.declared.store_fault.StoreFault.{StoreFault}
use Rattle.dep_tables.specs.Clauses.{StaysWithin, FailsToRun}
use Rattle.dep_tables.proofs.Chains.{clean_before, stays_err, stays_then}
use Rattle.dep_tables.proofs.Results.{if_err}
use Rattle.dep_migrations.specs.Causes.{FailsSince}
use Rattle.dep_migrations.specs.Faults.{FailsAtEither}
use Rattle.dep_migrations.specs.Running.{WorksWithin}

-- a fault that is passed on
pub if_err_is : {A E : Type 0} (P : E → Type 0) (r : Result A E) (fault : E) → IsErrAnd r (λ e. e ≡ fault) → P fault → IfErr r P
if_err_is P (Ok x) fault is p = tt
if_err_is P (Err e) fault is p = subst P (sym is) p

-- and what is owed where it is
pub works_failed : {T L A B : Type 0} {lenders : T → L} {state : T → db.State} {old new : T} {Fails : StoreFault → Type 0} (r : Result A StoreFault) (fault : StoreFault)
    → IsErr r → IsErrAnd r (λ e. e ≡ fault) → StaysWithin {A = B} {E = StoreFault} lenders state old new (Err fault)
    → (HasCleanDisk (state new) → IsTrue (state old).in_transaction → Fails fault) → WorksWithin lenders state old new r Fails
works_failed r fault is_err is stays cause = record { cause = λ clean inside. if_err_is _ r fault is (cause clean inside); stays = stays_err is_err stays }

-- a statement, and where it was Ok another: a failure of the other is behind it
pub works_behind : {T L A B : Type 0} {lenders : T → L} {state : T → db.State} {old mid new : T} {x : B} {r : Result A StoreFault} (first second : List ℕ)
    → StaysWithin {A = B} {E = StoreFault} lenders state old mid (Ok x) → StaysWithin lenders state mid new r
    → (HasCleanDisk (state mid) → IsTrue (state old).in_transaction → (count : ℕ) × ExecutesInside 0 first [] (state old) (state mid) (Ok count))
    → (HasCleanDisk (state new) → IsTrue (state mid).in_transaction → IfErr r (FailsToRun second [] (state mid) (state new)))
    → WorksWithin lenders state old new r (FailsAtEither state old new first second)
works_behind {mid = mid} {r = r} first second kept stays ran cause = record {
  cause = λ clean inside.
      let before = clean_before stays clean in
      if_err r (cause clean (kept.inside before inside)) (λ fault failed. inr (record { at = mid; since = kept.survives; by = (ran before inside, failed) }));
  stays = stays_then kept stays;
}

module _ {T : Type 0} (state : T → db.State) (old mid new : T) (since : Survives (state old) (state mid) (λ _. ⊥)) where
  -- a statement fails at once
  pub fails_then : (fails : db.State → db.State → StoreFault → Type 0) (fault : StoreFault) → fails (state mid) (state new) fault → FailsSince state fails old new fault
  fails_then fails fault by = record { at = mid; since = since; by = by }

  -- one of fewer statements fails later
  pub fails_later : (few fails : db.State → db.State → StoreFault → Type 0) → ((at now : db.State) (fault : StoreFault) → few at now fault → fails at now fault)
      → (fault : StoreFault) → FailsSince state few mid new fault → FailsSince state fails old new fault
  fails_later few fails among fault it = record {
    at = it.at;
    since = survives_then (state old) (state mid) (state it.at) _ _ (λ _. ⊥) (λ _ left none. none) (λ _ left none. none) since it.since;
    by = among (state it.at) (state new) fault it.by;
  }
