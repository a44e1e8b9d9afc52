-- A call that hands on what another does.
use Rattle.std.specs.Prelude.{⊤}
use Rattle.std.proofs.Common.{◌≡◌, Result, Ok, Err, IsErrAnd, refl}
use Rattle.sqlite.specs.State as db
use Rattle.dep_types.specs.State.{State}
use Rattle.dep_types.specs.declared.store_fault.StoreFault.{StoreFault}
use Rattle.dep_tables.specs.Clauses.{Queries, Query, ReadsWithin, Statement, StaysWithin, Writes}
use Rattle.dep_tables.specs.Tables.{Tables, tables_of}
use Rattle.dep_tables.proofs.Chains.{reads_err, reads_ok, stays_err}
use Rattle.dep_tables.proofs.Results.{if_then}
use Rattle.dep_row_maps.specs.Clauses.{ChangesMaps, ChangesTables, OverMaps, ReadsMaps, Turns, WritesMaps}
use Rattle.dep_row_maps.specs.TablesAre.{TablesAre}
use Rattle.dep_row_maps.proofs.Changing.{by_leads, changes_err}

module _ {T L : Type 0} {lenders : T → L} {state : T → db.State} {old new : T} where
  -- ---- a query

  module _ {B : Type 0} {query : Query B} where
    -- its answer is returned as it is
    pub queried : {r : Result B StoreFault} {reported : State → B → Type 0} → Queries lenders state old new r query
        → ((s : State) → TablesAre (tables_of (state old)) s → (found : B) → query.reported (tables_of (state old)) found → reported s found)
        → ReadsMaps lenders state old new r reported
    queried {r = r} does reports = record {
      map = λ clean ours s are. if_then r (does.ok clean ours) (reports s are);
      keeps = does.keeps;
    }

    -- something is made of it
    pub queried_ok : {A : Type 0} {x : B} {y : A} {reported : State → A → Type 0} → Queries lenders state old new (Ok x) query
        → OverMaps (state old) (state new) (λ s. reported s y)
        → ReadsMaps lenders state old new (Ok y) reported
    queried_ok does reports = record { map = reports; keeps = reads_ok does.keeps }

  -- ---- a failure is passed on

  pub reads_failed : {A C : Type 0} {r : Result A StoreFault} {fault : StoreFault} {reported : State → A → Type 0} → IsErrAnd r (λ e. e ≡ fault)
      → ReadsWithin {A = C} {E = StoreFault} lenders state old new (Err fault) → ReadsMaps lenders state old new r reported
  reads_failed {r = Ok x} is keeps = absurd is
  reads_failed {r = Err e} is keeps = record { map = λ clean ours s are. tt; keeps = reads_err {s = Err e} refl keeps }

  pub changes_failed : {A B : Type 0} {r : Result A StoreFault} {fault : StoreFault} {reported : State → (State → Type 0) → Type 0} → IsErrAnd r (λ e. e ≡ fault)
      → ((s : State) → reported s (λ _. ⊤))
      → StaysWithin {A = B} {E = StoreFault} lenders state old new (Err fault) → ChangesMaps lenders state old new r reported
  changes_failed {r = Ok x} is nothing stays = absurd is
  changes_failed {r = Err e} is nothing stays = record { map = λ clean inside ours s are. nothing s; keeps = changes_err {s = Err e} refl stays }

  pub tables_failed : {A B : Type 0} {r : Result A StoreFault} {fault : StoreFault} {change : Tables → Tables} → IsErrAnd r (λ e. e ≡ fault)
      → StaysWithin {A = B} {E = StoreFault} lenders state old new (Err fault) → ChangesTables lenders state old new r change
  tables_failed {r = Ok x} is stays = absurd is
  tables_failed {r = Err e} is stays = record { ok = λ clean inside ours. tt; stays = stays_err {s = Err e} refl stays }

  -- ---- a statement

  -- its answer is returned as it is
  pub written : {A : Type 0} {r : Result A StoreFault} {statement : Statement} {reported : State → (State → Type 0) → Type 0} → Writes lenders state old new r statement
      → Turns lenders state old new r reported → WritesMaps lenders state old new r reported
  written {statement = statement} does turns = record {
    map = turns;
    err = does.keeps.err;
    keeps = by_leads (statement.change (tables_of (state old))) does.keeps.stays does.ok;
  }
