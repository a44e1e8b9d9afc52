-- Rows that are sent one at a time.
use Rattle.std.proofs.Common.{◌≡◌, ◌⊎◌, inl, inr, List, ℕ, [], ◌∷◌, ◌++◌, ◌<◌, length, append-nil, append_assoc, Ok, Err, Option, true, false, sym, ap, subst, ◌∙◌, ◌+◌, ◌-◌, ◌≤◌, length-append, arith}
use Rattle.std.specs.Io.KnownBytes.{Appends}
use Rattle.std.proofs.KnownBytes.{Appends-trans}
use Rattle.sqlite.specs.Order.{Row}
use Rattle.sqlite.specs.Effect.{Database}
use Rattle.sqlite.specs.declared.error.Error.{Error}
use Rattle.sqlite.specs.Listing.{understood, IsSourceOf, reads_listing}
use Rattle.sqlite.specs.State.{State, Survives, IsUnchanged, Begins, FailsToQuery, FailsToShow, IsNotRun, IsTooLate}
use Rattle.sqlite.specs.Clock.{timed}
use Rattle.sqlite.specs.Effect.{RefusesToRead}
use Rattle.sqlite.proofs.StreamLemmas.{fails_since}
use Rattle.dep_schema.proofs.ShownFrom.{shown_from}
use Rattle.dep_schema.specs.Causes.{FailsToGive}
use Rattle.dep_schema.specs.Causes.FailsToGive.{query_failed, too_few, unread, uncounted}
use Rattle.sqlite.proofs.Callers.{IsPlain, unchanged_then}
use Rattle.dep_types.specs.StoreFaults.{stream_fault_for}
use Rattle.dep_types.specs.declared.stream_fault.StreamFault.{StreamFault}
use Rattle.dep_types.specs.declared.stream_fault.StreamFault.TheVariants.{Writer, Store, Memory, NoSuchFile}
use Rattle.dep_types.specs.declared.store_fault.StoreFault.{StoreFault}
use Rattle.dep_types.specs.declared.store_fault.StoreFault.TheVariants as store
use Rattle.dep_schema.specs.Sent.{blob_of, joined_blobs, GivesSized, StopsBetween, SendsSized}

-- what begins an answer begins one of the first state
pub begins_from : (sql : List ℕ) (params : Row) (first old : State) (rows : List Row) → IsUnchanged first old → Begins sql params old rows → Begins sql params first rows
unfolding Begins
begins_from sql params first old rows same h =
    let now = same.0.now_is in (
      h.0,
      record { is = subst (λ (d : Database). understood d.schema sql ≡ Ok h.0) now h.1.is; whole = h.1.whole; given = h.1.given; now = h.1.now },
      h.2,
      h.3,
      subst (λ (d : Database). IsSourceOf (reads_listing d.schema sql) d h.3) now h.4,
      h.5,
    )

pub joined_push : (given : List Row) (row : Row) → joined_blobs (given ++ row ∷ []) ≡ joined_blobs given ++ blob_of row
joined_push [] row = append-nil (blob_of row)
joined_push (r ∷ given) row = ap (λ more. blob_of r ++ more) (joined_push given row) ∙ sym (append_assoc (blob_of r) (joined_blobs given) (blob_of row))

pub joined_more : (sent : List ℕ) (given : List Row) (row : Row) → sent ≡ joined_blobs given → sent ++ blob_of row ≡ joined_blobs (given ++ row ∷ [])
joined_more sent given row sends = ap (λ l. l ++ blob_of row) sends ∙ sym (joined_push given row)

-- a plain query shows no rows of a write
never_late : (sql : List ℕ) (params : Row) (old new : State) (e : Error) → IsPlain (understood old.now.schema sql) → IsTooLate sql params old new e → ⊥
never_late sql params old new e plain late = let none = (subst IsPlain late.1.is plain).0 in let never : false ≡ true = rw none at late.2 in cc

pub stops_sized : (sql : List ℕ) (params : Row) (old : State) (size : ℕ) (sent : List ℕ) (fault : StoreFault) → length sent < size → StopsBetween sql params old sent → SendsSized sql params old size sent (Err (stream_fault_for fault))
stops_sized sql params old size sent store.Store low h = (h, low)
stops_sized sql params old size sent store.Memory low h = (h, low)

pub cut_sized : (sql : List ℕ) (params : Row) (old : State) (size : ℕ) (start held next : Option (List ℕ)) (sent : List ℕ) (row : Row) (Clean Plain : Type 0) (fault : StreamFault)
    → Appends start held sent → GivesSized held next (blob_of row) (Err fault) → length sent < size
    → (Clean → Plain → (given : List Row) × Begins sql params old given × Begins sql params old (given ++ row ∷ []) × (sent ≡ joined_blobs given))
    → (more : List ℕ) × Appends start next more × (Clean → Plain → SendsSized sql params old size more (Err fault))
cut_sized sql params old size start held next sent row Clean Plain Writer before took low h = (
  sent ++ took.0,
  Appends-trans start held next sent took.0 before took.2,
  λ clean plain. let x = h clean plain in record { given = x.0; row = row; part = took.0; begins = x.2; short = took.1; sends = ap (λ (l : List ℕ). l ++ took.0) x.3 },
)
cut_sized sql params old size start held next sent row Clean Plain Store before same low h = (
  sent,
  subst (λ (t : Option (List ℕ)). Appends start t sent) (sym same) before,
  λ clean plain. let x = h clean plain in (record { given = x.0; begins = inr x.1; sends = x.3 }, low),
)
cut_sized sql params old size start held next sent row Clean Plain Memory before took low h = absurd took
cut_sized sql params old size start held next sent row Clean Plain NoSuchFile before took low h = absurd took

some_less : (left sent size : ℕ) → 0 < left → left + sent ≡ size → sent < size
some_less left sent size some is = omega arith

-- what was sent and what is left of a size
pub some_left : (left : ℕ) (sent : List ℕ) (size : ℕ) → 0 < left → left + length sent ≡ size → length sent < size
some_left left sent size some is = some_less left (length sent) size some is

less_by : (left n before bytes more size : ℕ) → n ≤ left → n ≡ bytes → left + before ≡ size → more ≡ before + bytes → (left - n) + more ≡ size
less_by left n before bytes more size fits is was all = omega arith

pub less_left : (left n size : ℕ) (sent bytes : List ℕ) → n ≤ left → n ≡ length bytes → left + length sent ≡ size → (left - n) + length (sent ++ bytes) ≡ size
less_left left n size sent bytes fits is was = less_by left n (length sent) (length bytes) (length (sent ++ bytes)) size fits is was (length-append sent bytes)

none_less : (left more size : ℕ) → left ≡ 0 → left + more ≡ size → more ≡ size
none_less left more size none is = omega arith

pub all_sent : (left n size : ℕ) (sent bytes : List ℕ) → left - n ≡ 0 → n ≤ left → n ≡ length bytes → left + length sent ≡ size → length (sent ++ bytes) ≡ size
all_sent left n size sent bytes none fits is was =
    none_less (left - n) (length (sent ++ bytes)) size none (less_left left n size sent bytes fits is was)

-- a query that fails at a later row, where all was as at first, fails
pub fails_from : (sql : List ℕ) (params : Row) (first old new : State) (e : Error) → IsPlain (understood first.now.schema sql) → IsUnchanged first old → Survives first old (λ _. ⊥) → FailsToQuery sql params old new e → FailsToQuery sql params first new e
unfolding FailsToQuery IsNotRun
fails_from sql params first old new e plain same kept (inl (inl h)) = inl (inl (rw (← same.0.now_is) h.0, unchanged_then first old new same h.1))
fails_from sql params first old new e plain same kept (inl (inr h)) = inl (inr (fails_since first old new same kept.counts e h))
fails_from sql params first old new e plain same kept (inr h) =
    let now = same.0.now_is in
    let here : understood first.now.schema sql ≡ Ok h.0 = subst (λ (d : Database). understood d.schema sql ≡ Ok h.0) now h.1.is in
    let none = (subst IsPlain here plain).0 in
    let full = timed params h.0.formats h.1.now in
    let it = subst (FailsToShow old new sql h.0 full e) none h.2 in
    inr (
      h.0,
      record { is = here; whole = h.1.whole; given = h.1.given; now = h.1.now },
      subst (FailsToShow first new sql h.0 full e) (sym none)
          (it.0, subst (λ (d : Database). IsSourceOf (reads_listing d.schema sql) d it.0) now it.1, subst (λ l. RefusesToRead l h.0.command it.0 full e) kept.limit it.2, unchanged_then first old new same it.3),
    )

-- the same of all that can hinder it
pub gives_from : (sql : List ℕ) (params : Row) (size : Option ℕ) (first old new : State) (fault : StoreFault) → IsPlain (understood first.now.schema sql) → IsUnchanged first old → Survives first old (λ _. ⊥)
    → FailsToGive sql params size old new fault → FailsToGive sql params size first new fault
gives_from sql params size first old new fault plain same kept (query_failed failed) = query_failed (failed.0, asked_from failed.1, failed.2)
  where
    asked_from : {e : Error} → FailsToQuery sql params old new e ⊎ IsTooLate sql params old new e → FailsToQuery sql params first new e ⊎ IsTooLate sql params first new e
    asked_from (inl h) = inl (fails_from sql params first old new _ plain same kept h)
    asked_from (inr late) = absurd (never_late sql params old new _ (subst (λ (d : Database). IsPlain (understood d.schema sql)) (sym same.0.now_is) plain) late)
gives_from sql params size first old new fault plain same kept (too_few rows shown less is) = too_few rows (shown_from sql params first old old rows same plain shown) less is
gives_from sql params size first old new fault plain same kept (unread given next begun none is) = unread given next (begins_from sql params first old (given ++ next ∷ []) same begun) none is
gives_from sql params size first old new fault plain same kept (uncounted given begun many is) = uncounted given (begins_from sql params first old given same begun) many is
