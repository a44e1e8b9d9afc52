-- One call on a transaction after another.
use Rattle.std.proofs.Common.{◌≡◌, ◌⊎◌, ℕ, List, inl, inr, IsTrue, Result, Ok, Err, OnOk, IsErr, refl, sym, subst, ◌∙◌, arith}
use Rattle.std.specs.Prelude.{⊤}
use Rattle.std.proofs.lemmas.Result.{IfOk-from_err, on_err_weaker}
use Rattle.sqlite.specs.Order.{Row}
use Rattle.sqlite.specs.State.{State, HasCleanDisk, KeepsCommit, IsUnchanged, IsRolledBack, Survives, Shown}
use Rattle.sqlite.proofs.StateLemmas.{survives_then}
use Rattle.sqlite.proofs.InsideLemmas.{keeps_then}
use Rattle.sqlite.proofs.Callers.{unchanged_then}
use Rattle.dep_tables.proofs.Asked.{shown_unchanged}
use Rattle.dep_tables.specs.Clauses.{StaysWithin, ReadsWithin, MayReadWithin, AsksWithin, IsPlainIn}
use Rattle.dep_tables.specs.Tables.{IsOurs, HasOurTables}
use Rattle.dep_tables.proofs.Results.{if_ok, if_failed, ok_then, failed_as}

pub was_clean : (old new : State) → Survives old new (λ _. ⊥) → HasCleanDisk new → HasCleanDisk old
was_clean old new survives clean = omega (arith, clean, survives.clean)

-- nothing was committed by two calls
pub survived : (old mid new : State) → Survives old mid (λ _. ⊥) → Survives mid new (λ _. ⊥) → Survives old new (λ _. ⊥)
survived old mid new first second = survives_then old mid new _ _ (λ _. ⊥) (λ _ db none. none) (λ _ db none. none) first second

-- what a failed statement leaves of a transaction
pub left_whole : (old new : State) → IsTrue old.in_transaction → IsTrue new.is_open → IsUnchanged old new ⊎ IsRolledBack old new → (new.committed ≡ old.committed) × (IsTrue new.in_transaction ⊎ (new.now ≡ old.committed))
left_whole old new inside is_open (inl same) = (same.0.committed_is, inl (subst IsTrue (sym same.0.mode) inside))
left_whole old new inside is_open (inr back) = ((back.undone is_open).1, inr (back.undone is_open).0)

-- a call that may have written before it failed, after one that committed nothing
uncommitted_more : (old mid new : State) → KeepsCommit old mid → IsTrue mid.is_open → (new.committed ≡ mid.committed) × (IsTrue new.in_transaction ⊎ (new.now ≡ mid.committed)) → (new.committed ≡ old.committed) × (IsTrue new.in_transaction ⊎ (new.now ≡ old.committed))
uncommitted_more old mid new kept was_open left =
    let before = kept.committed was_open in
    (left.0 ∙ before, elim left.1 [ inl on ↦ inl on | inr back ↦ inr (back ∙ before) ])

-- nothing was asked of an open store
pub unchanged_itself : (s : State) → IsTrue s.is_open → IsUnchanged s s
unchanged_itself s is_open = (record { was_open = is_open; is_open = is_open; now_is = refl; committed_is = refl; mode = refl }, record { changes = refl; last_rowid = refl }, refl)

-- what is unchanged has our tables still
pub still_ours : (old new : State) → IsUnchanged old new → IsOurs old → IsOurs new
still_ours old new same ours = subst HasOurTables (sym same.0.now_is) ours

-- a failure after a call that only read
pub failed_since : (old mid new : State) → IsUnchanged old mid → IsUnchanged mid new ⊎ IsRolledBack mid new → IsUnchanged old new ⊎ IsRolledBack old new
failed_since old mid new same (inl more) = inl (unchanged_then old mid new same more)
failed_since old mid new same (inr back) = inr (record {
  was_open = λ _. same.0.was_open;
  undone = λ opened. let it = back.undone opened in (it.0 ∙ same.0.committed_is, it.1 ∙ same.0.committed_is);
  autocommit = back.autocommit;
  unmarked = back.unmarked;
  counts = record { changes = back.counts.changes ∙ same.1.changes; last_rowid = back.counts.last_rowid ∙ same.1.last_rowid };
})

-- what an Ok keeps, with no value
abbrev pub Stays : {T L : Type 0} → (T → L) → (T → State) → T → T → Type 0
Stays lenders state old new = StaysWithin {A = ⊤} {E = ⊤} lenders state old new (Ok tt)

module _ {T L : Type 0} {lenders : T → L} {state : T → State} {old mid new : T} {A E B F : Type 0} {x : A} {r : Result B F} where
  -- a call behind one that was Ok
  pub stays_then : StaysWithin {A = A} {E = E} lenders state old mid (Ok x) → StaysWithin lenders state mid new r → StaysWithin lenders state old new r
  stays_then first second =
      let before = was_clean (state mid) (state new) second.survives in record {
        same_reference = second.same_reference ∙ first.same_reference;
        survives = survived (state old) (state mid) (state new) first.survives second.survives;
        inside = λ clean inside. second.inside clean (first.inside (before clean) inside);
        kept = λ clean inside.
            keeps_then (state old) (state mid) (state new) (first.kept (before clean) inside)
            (second.kept clean (first.inside (before clean) inside));
        fails = λ clean inside is_open.
            let within = first.inside (before clean) inside in
            on_err_weaker r (uncommitted_more (state old) (state mid) (state new) (first.kept (before clean) inside) ((second.kept clean within).was_open is_open)) (second.fails clean within is_open);
      }

module _ {T L : Type 0} {lenders : T → L} {state : T → State} {old new : T} where
  pub clean_before : {A E : Type 0} {r : Result A E} → StaysWithin lenders state old new r → HasCleanDisk (state new) → HasCleanDisk (state old)
  clean_before stays clean = was_clean (state old) (state new) stays.survives clean

  -- the same where something else is answered behind an Ok
  pub stays_ok : {A E B F : Type 0} {x : A} {r : Result B F} → StaysWithin {A = A} {E = E} lenders state old new (Ok x) → StaysWithin lenders state old new r
  stays_ok {r = r} stays = record {
    same_reference = stays.same_reference;
    survives = stays.survives;
    inside = λ clean inside. if_ok r (stays.inside clean inside);
    kept = stays.kept;
    fails = λ clean inside is_open. if_failed r ((stays.kept clean inside).committed is_open, inl (stays.inside clean inside));
  }

  -- and where an error is
  pub stays_err : {A E B F : Type 0} {r : Result A E} {s : Result B F} → IsErr s → StaysWithin lenders state old new r → StaysWithin lenders state old new s
  stays_err {r = r} {s = s} is stays = record {
    same_reference = stays.same_reference;
    survives = stays.survives;
    inside = λ clean inside. IfOk-from_err s _ is;
    kept = stays.kept;
    fails = λ clean inside is_open. failed_as r s (stays.inside clean inside) (stays.fails clean inside is_open) (λ on. ((stays.kept clean inside).committed is_open, inl on));
  }

-- ---- calls that only read

-- what those that may ask nothing keep up to here, with no value
abbrev pub MayReads : {T L : Type 0} → (T → L) → (T → State) → T → T → Type 0
MayReads lenders state old new = MayReadWithin {A = ⊤} {E = ⊤} lenders state old new (Ok tt)

module _ {T L : Type 0} {lenders : T → L} {state : T → State} {old mid new : T} {A E B F : Type 0} {x : A} {r : Result B F} where
  -- one that may ask nothing behind one that asked
  pub reads_may_then : ReadsWithin {A = A} {E = E} lenders state old mid (Ok x) → MayReadWithin lenders state mid new r → ReadsWithin lenders state old new r
  reads_may_then first second =
      let before = clean_before second.stays in
      let behind = λ (clean : HasCleanDisk (state new)) (ours : IsOurs (state old)). first.same (before clean) ours in record {
        stays = stays_then first.stays second.stays;
        same = λ clean ours.
            let same = behind clean ours in
            ok_then r (second.same same.0.is_open clean (still_ours (state old) (state mid) same ours)) (λ more. unchanged_then (state old) (state mid) (state new) same more);
        err = λ clean inside ours is_open.
            let same = behind clean ours in
            on_err_weaker r (failed_since (state old) (state mid) (state new) same)
            (second.err clean (first.stays.inside (before clean) inside) (still_ours (state old) (state mid) same ours) is_open);
      }

  -- one behind another that was Ok
  pub reads_then : ReadsWithin {A = A} {E = E} lenders state old mid (Ok x) → ReadsWithin lenders state mid new r → ReadsWithin lenders state old new r
  reads_then first second = reads_may_then first (record { stays = second.stays; same = λ _. second.same; err = second.err })

  -- two that may ask nothing
  pub may_then : MayReadWithin {A = A} {E = E} lenders state old mid (Ok x) → MayReadWithin lenders state mid new r → MayReadWithin lenders state old new r
  may_then first second =
      let before = clean_before second.stays in record {
        stays = stays_then first.stays second.stays;
        same = λ was_open clean ours.
            let same = first.same was_open (before clean) ours in
            ok_then r (second.same same.0.is_open clean (still_ours (state old) (state mid) same ours)) (λ more. unchanged_then (state old) (state mid) (state new) same more);
        err = λ clean inside ours is_open.
            let within = first.stays.inside (before clean) inside in
            let was_open = (first.stays.kept (before clean) inside).was_open ((second.stays.kept clean within).was_open is_open) in
            let same = first.same was_open (before clean) ours in
            on_err_weaker r (failed_since (state old) (state mid) (state new) same) (second.err clean within (still_ours (state old) (state mid) same ours) is_open);
      }

module _ {T L : Type 0} {lenders : T → L} {state : T → State} {old new : T} where
  pub may_read : {A E : Type 0} {r : Result A E} → ReadsWithin lenders state old new r → MayReadWithin lenders state old new r
  may_read reads = record { stays = reads.stays; same = λ _. reads.same; err = reads.err }

  -- they leave our tables
  pub reads_ours : {A E : Type 0} {r : Result A E} → ReadsWithin lenders state old new r → HasCleanDisk (state new) → IsTrue (state old).in_transaction → IsOurs (state old) → OnOk r (IsOurs (state new))
  reads_ours {r = r} reads clean inside ours = ok_then r (reads.same clean ours) (λ same. still_ours (state old) (state new) same ours)

  -- something else is answered behind an Ok
  pub reads_ok : {A E B F : Type 0} {x : A} {r : Result B F} → ReadsWithin {A = A} {E = E} lenders state old new (Ok x) → ReadsWithin lenders state old new r
  reads_ok {r = r} reads = record {
    stays = stays_ok reads.stays;
    same = λ clean ours. if_ok r (reads.same clean ours);
    err = λ clean inside ours is_open. if_failed r (inl (reads.same clean ours));
  }

  -- and an error
  pub reads_err : {A E B F : Type 0} {r : Result A E} {s : Result B F} → IsErr s → ReadsWithin lenders state old new r → ReadsWithin lenders state old new s
  reads_err {r = r} {s = s} is reads = record {
    stays = stays_err is reads.stays;
    same = λ clean ours. IfOk-from_err s _ is;
    err = λ clean inside ours is_open. failed_as r s (reads.same clean ours) (reads.err clean inside ours is_open) inl;
  }

  -- the same of those that may ask nothing
  pub may_ok : {A E B F : Type 0} {x : A} {r : Result B F} → MayReadWithin {A = A} {E = E} lenders state old new (Ok x) → MayReadWithin lenders state old new r
  may_ok {r = r} reads = record {
    stays = stays_ok reads.stays;
    same = λ was_open clean ours. if_ok r (reads.same was_open clean ours);
    err = λ clean inside ours is_open. if_failed r (inl (reads.same ((reads.stays.kept clean inside).was_open is_open) clean ours));
  }

  pub may_err : {A E B F : Type 0} {r : Result A E} {s : Result B F} → IsErr s → MayReadWithin lenders state old new r → MayReadWithin lenders state old new s
  may_err {r = r} {s = s} is reads = record {
    stays = stays_err is reads.stays;
    same = λ was_open clean ours. IfOk-from_err s _ is;
    err = λ clean inside ours is_open. failed_as r s (reads.same ((reads.stays.kept clean inside).was_open is_open) clean ours) (reads.err clean inside ours is_open) inl;
  }

  -- a plain query over our tables only reads
  pub plain_reads : {sql : List ℕ} {A E : Type 0} {r : Result A E} → AsksWithin lenders state sql old new r → (IsOurs (state old) → IsPlainIn (state old) sql) → ReadsWithin lenders state old new r
  plain_reads asks plain = record {
    stays = asks.stays;
    same = λ clean ours. asks.same clean (plain ours);
    err = λ clean inside ours is_open. asks.err (plain ours) clean inside is_open;
  }

  -- what showed rows keeps what a query does, whatever is made of them
  pub asks_read : {sql : List ℕ} (params : Row) (rows : List Row) {A E B F : Type 0} {x : A} (r : Result B F) → StaysWithin {A = A} {E = E} lenders state old new (Ok x)
      → (HasCleanDisk (state new) → Shown sql params (state old) (state new) rows) → AsksWithin lenders state sql old new r
  asks_read {sql} params rows r stays shown =
      let same = λ (clean : HasCleanDisk (state new)) (plain : IsPlainIn (state old) sql). shown_unchanged sql params (state old) (state new) plain rows (shown clean) in
      record {
        stays = stays_ok stays;
        same = λ clean plain. if_ok r (same clean plain);
        err = λ plain clean inside is_open. if_failed {P = IsUnchanged (state old) (state new) ⊎ IsRolledBack (state old) (state new)} r (inl (same clean plain));
      }

-- ---- nothing is asked

module _ {T L A E : Type 0} (lenders : T → L) (state : T → State) (tx : T) where
  pub stays_put : (r : Result A E) → StaysWithin lenders state tx tx r
  stays_put r = record {
    same_reference = refl;
    survives = record {
      clean = omega arith;
      shield = λ shielded. shielded;
      counts = omega arith;
      limit = refl;
      closes = λ clean is_open. inl is_open;
      crash = λ clean db left. inl left;
    };
    inside = λ clean inside. if_ok r inside;
    kept = λ clean inside. record { was_open = λ is_open. is_open; committed = λ is_open. refl };
    fails = λ clean inside is_open. if_failed r (refl, inl inside);
  }

  pub may_put : (r : Result A E) → MayReadWithin lenders state tx tx r
  may_put r = record {
    stays = stays_put r;
    same = λ was_open clean ours. if_ok r (unchanged_itself (state tx) was_open);
    err = λ clean inside ours is_open. if_failed r (inl (unchanged_itself (state tx) is_open));
  }

  -- a call refuses what it is given
  pub reads_refused : (e : E) → ReadsWithin {A = A} lenders state tx tx (Err e)
  reads_refused e = record {
    stays = stays_put (Err e);
    same = λ clean ours. tt;
    err = λ clean inside ours is_open. inl (unchanged_itself (state tx) is_open);
  }
