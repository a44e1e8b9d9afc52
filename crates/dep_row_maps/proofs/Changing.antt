-- One call after another that changes our tables.
use Rattle.std.proofs.Common.{◌≡◌, IsErr, IsTrue, Result, Ok, OnOk, ap, ◌∙◌}
use Rattle.std.proofs.lemmas.Result.{IfOk-from_err}
use Rattle.sqlite.specs.State.{State, HasCleanDisk}
use Rattle.dep_types.specs.State.{State as Maps}
use Rattle.dep_types.specs.declared.store_fault.StoreFault.{StoreFault}
use Rattle.dep_tables.specs.Clauses.{ReadsWithin, Statement, StaysWithin, Writes}
use Rattle.dep_tables.specs.Tables.{Tables, tables_of, IsOurs, Leads}
use Rattle.dep_tables.proofs.Results.{if_ok, ok_then}
use Rattle.dep_tables.proofs.Chains.{clean_before, reads_ours, stays_err, stays_ok, stays_put, stays_then}
use Rattle.dep_row_maps.specs.Clauses.{ChangesTables, ChangesWithin, Does, FromMaps, Sees}

module _ {T L : Type 0} {lenders : T → L} {state : T → State} {old mid new : T} {A E B F : Type 0} {x : A} {r : Result B F} where
  -- a call behind one that was Ok
  pub changes_then : ChangesWithin {A = A} {E = E} lenders state old mid (Ok x) → ChangesWithin lenders state mid new r → ChangesWithin lenders state old new r
  changes_then first second = record {
    stays = stays_then first.stays second.stays;
    ours = λ clean inside ours.
        let before = clean_before second.stays clean in
        second.ours clean (first.stays.inside before inside) (first.ours before inside ours);
  }

module _ {T L : Type 0} {lenders : T → L} {state : T → State} {old new : T} where
  -- something else is answered behind an Ok
  pub changes_ok : {A E B F : Type 0} {x : A} {r : Result B F} → ChangesWithin {A = A} {E = E} lenders state old new (Ok x) → ChangesWithin lenders state old new r
  changes_ok {r = r} changes = record { stays = stays_ok changes.stays; ours = λ clean inside ours. if_ok r (changes.ours clean inside ours) }

  -- a failure, which tells nothing of the tables
  pub changes_err : {A E B F : Type 0} {r : Result A E} {s : Result B F} → IsErr s → StaysWithin lenders state old new r → ChangesWithin lenders state old new s
  changes_err {s = s} is stays = record { stays = stays_err is stays; ours = λ clean inside ours. IfOk-from_err s _ is }

  -- a statement that writes one of our tables
  pub by_leads : (t : Tables) → {A E : Type 0} {r : Result A E} → StaysWithin lenders state old new r
      → (HasCleanDisk (state new) → IsTrue (state old).in_transaction → IsOurs (state old) → OnOk r (Leads (state old) (state new) t)) → ChangesWithin lenders state old new r
  by_leads t {r = r} stays leads = record { stays = stays; ours = λ clean inside ours. ok_then r (leads clean inside ours) (λ led. led.ours) }

  -- several of them
  pub by_sees : (t : Tables) → {A E : Type 0} {r : Result A E} → StaysWithin lenders state old new r
      → (HasCleanDisk (state new) → IsTrue (state old).in_transaction → IsOurs (state old) → OnOk r (Sees (state new) t)) → ChangesWithin lenders state old new r
  by_sees t {r = r} stays sees = record { stays = stays; ours = λ clean inside ours. ok_then r (sees clean inside ours) (λ seen. seen.ours) }

  -- what only reads
  pub reads_change : {A E : Type 0} {r : Result A E} → ReadsWithin lenders state old new r → ChangesWithin lenders state old new r
  reads_change reads = record { stays = reads.stays; ours = reads_ours reads }

-- a failure does nothing of what an Ok is told to do
module _ {T L A B F : Type 0} {lenders : T → L} {state : T → State} {old new : T} {r : Result A StoreFault} {s : Result B F} where
  pub does_failed : {reported : Maps → Type 0} (next : Maps → Type 0) → IsErr r → StaysWithin lenders state old new s
      → Does lenders state old new r (FromMaps (state old) (state new) (λ maps. reported maps → OnOk r (next maps)))
  does_failed next is stays = record { done = λ clean inside ours maps are reported. IfOk-from_err r _ is; keeps = changes_err is stays }

  -- the same of each object
  pub each_failed : {O : Type 0} {reported : O → Maps → Type 0} (next : O → Maps → Type 0) → IsErr r → StaysWithin lenders state old new s
      → Does lenders state old new r ((o : O) → FromMaps (state old) (state new) (λ maps. reported o maps → OnOk r (next o maps)))
  each_failed next is stays = record { done = λ o clean inside ours maps are reported. IfOk-from_err r _ is; keeps = changes_err is stays }

-- a statement that makes what is left of its change, behind calls that made a part of it
module _ {T L A X Y : Type 0} {lenders : T → L} {state : T → State} {old mid new : T} {r : Result A StoreFault} {x : X} {statement : Statement} where
  pub tables_then : StaysWithin {A = X} {E = Y} lenders state old mid (Ok x)
      → (HasCleanDisk (state mid) → IsTrue (state old).in_transaction → IsOurs (state old)
      → IsOurs (state mid) × (statement.change (tables_of (state mid)) ≡ statement.change (tables_of (state old))))
      → Writes lenders state mid new r statement → ChangesTables lenders state old new r statement.change
  tables_then first part last = record {
    ok = λ clean inside ours.
        let before = clean_before last.keeps.stays clean in
        let was = part before inside ours in
        ok_then r (last.ok clean (first.inside before inside) was.0) (λ led. record { ours = led.ours; rows = led.rows ∙ was.1 });
    stays = stays_then first last.keeps.stays;
  }

-- ---- our tables behind a call that was Ok

-- the disk was clean, and a transaction goes on over them
pub record IsInside (now : State) : Type 0 where
  pub clean : HasCleanDisk now
  pub inside : IsTrue now.in_transaction
  pub ours : IsOurs now

module _ {T L : Type 0} {lenders : T → L} {state : T → State} {old mid new : T} {A E B : Type 0} {x : A} where
  -- so they are where the next call begins
  pub inside_after : {F : Type 0} {r : Result B F} → ChangesWithin {A = A} {E = E} lenders state old mid (Ok x) → StaysWithin lenders state mid new r
      → HasCleanDisk (state new) → IsTrue (state old).in_transaction → IsOurs (state old) → IsInside (state mid)
  inside_after first second clean inside ours =
      let before = clean_before second clean in
      record { clean = before; inside = first.stays.inside before inside; ours = first.ours before inside ours }

-- the tables that a call makes, were they no state's
module _ {T L A : Type 0} {lenders : T → L} {state : T → State} {old new : T} {r : Result A StoreFault} where
  pub tables_kept : {change : Tables → Tables} → ChangesTables lenders state old new r change → ChangesWithin lenders state old new r
  tables_kept {change} does = by_sees (change (tables_of (state old))) does.stays does.ok

  -- those of a statement
  pub tables_by : {statement : Statement} → Writes lenders state old new r statement → ChangesTables lenders state old new r statement.change
  tables_by does = record { ok = λ clean inside ours. ok_then r (does.ok clean inside ours) (λ led. record { ours = led.ours; rows = led.rows }); stays = does.keeps.stays }

-- and those of one call behind another
module _ {T L A B : Type 0} {lenders : T → L} {state : T → State} {old mid new : T} {x : A} {r : Result B StoreFault} {one two : Tables → Tables} where
  pub tables_after : ChangesTables lenders state old mid (Ok x) one → ChangesTables lenders state mid new r two → ChangesTables lenders state old new r (λ t. two (one t))
  tables_after first second = record {
    ok = λ clean inside ours.
        let before = clean_before second.stays clean in
        let was = first.ok before inside ours in
        ok_then r (second.ok clean (first.stays.inside before inside) was.ours) (λ seen. record { ours = seen.ours; rows = seen.rows ∙ ap two was.rows });
    stays = stays_then first.stays second.stays;
  }

-- nothing is done
pub changes_put : {T L A E : Type 0} (lenders : T → L) (state : T → State) (tx : T) (r : Result A E) → ChangesWithin lenders state tx tx r
changes_put lenders state tx r = record { stays = stays_put lenders state tx r; ours = λ clean inside ours. if_ok r ours }
