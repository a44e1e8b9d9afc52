-- One call after another that only reads.
use Rattle.std.proofs.Common.{Result, Ok, IsErr, IfOk, IsTrue, sym, subst}
use Rattle.std.proofs.lemmas.Result.{IfOk-from_err}
use Rattle.sqlite.specs.State.{State, IsUnchanged}
use Rattle.dep_types.specs.Sound.{IsSound}
use Rattle.dep_types.specs.State as machine
use Rattle.dep_types.specs.declared.store_fault.StoreFault.{StoreFault}
use Rattle.dep_tables.specs.Clauses.{ReadsWithin, StaysWithin}
use Rattle.dep_tables.specs.Tables.{Tables, tables_of}
use Rattle.dep_tables.proofs.Chains.{MayReads, clean_before, may_read, reads_err, still_ours}
use Rattle.dep_row_maps.specs.Clauses.{Finds, FromMaps, MayFind, MayReadOver, OverMaps}
use Rattle.dep_row_maps.specs.TablesAre.{TablesAre}
use Rattle.dep_files.proofs.Results.{same_tables}

-- they are our tables still, and the state's
pub still_seen : (old new : State) (s : machine.State) → IsUnchanged old new → TablesAre (tables_of old) s → TablesAre (tables_of new) s
still_seen old new s same are = subst (λ (t : Tables). TablesAre t s) (sym (same_tables old new same)) are

module _ {T L A : Type 0} {lenders : T → L} {state : T → State} {old mid new : T} {r : Result A StoreFault} {reported : machine.State → Type 0} where
  -- what is found behind reads is found of the state before them
  pub found_behind : MayReads lenders state old mid → MayFind lenders state mid new r reported → IsTrue (state old).is_open → FromMaps (state old) (state new) reported
  found_behind reads finds was_open clean inside ours s are =
      let earlier = clean_before finds.keeps.stays clean in
      let same = reads.same was_open earlier ours in
      finds.found clean (reads.stays.inside earlier inside) (still_ours (state old) (state mid) same ours) s (still_seen (state old) (state mid) s same are)

  pub finds_behind : MayReads lenders state old mid → Finds lenders state mid new r reported → IsTrue (state old).is_open → FromMaps (state old) (state new) reported
  finds_behind reads finds = found_behind reads (record { found = finds.found; keeps = may_read finds.keeps })

  -- the same in a transaction or not
  pub over_behind : MayReads lenders state old mid → MayReadOver lenders state mid new r reported → IsTrue (state old).is_open → OverMaps (state old) (state new) reported
  over_behind reads finds was_open clean ours s are =
      let same = reads.same was_open (clean_before finds.keeps.stays clean) ours in
      finds.map same.0.is_open clean (still_ours (state old) (state mid) same ours) s (still_seen (state old) (state mid) s same are)

module _ {T L : Type 0} {lenders : T → L} {state : T → State} where
  -- what is found behind a read, over a store that is open then, is found of the state before it
  pub read_behind : {A E B F : Type 0} {x : A} {r : Result B F} {old mid new : T} {reported : machine.State → Type 0} → ReadsWithin {A = A} {E = E} lenders state old mid (Ok x)
      → StaysWithin lenders state mid new r → FromMaps (state mid) (state new) (λ s. IsTrue (state mid).is_open → reported s) → FromMaps (state old) (state new) reported
  read_behind {old = old} {mid = mid} reads stays found clean inside ours s are =
      let earlier = clean_before stays clean in
      let same = reads.same earlier ours in
      found clean (reads.stays.inside earlier inside) (still_ours (state old) (state mid) same ours) s (still_seen (state old) (state mid) s same are) same.0.is_open

  -- where a reading failed, nothing is found of a sound state
  pub finds_failed : {A B : Type 0} {r : Result A StoreFault} {failed : Result B StoreFault} {old new : T} (reported : machine.State → B → Type 0) → IsErr failed → ReadsWithin lenders state old new r
      → Finds lenders state old new failed (λ s. IsSound s → IfOk failed (reported s))
  finds_failed {failed = failed} reported is reads = record { found = λ clean inside ours s are sound. IfOk-from_err failed _ is; keeps = reads_err is reads }
