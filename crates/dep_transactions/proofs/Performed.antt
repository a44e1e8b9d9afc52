-- What a request makes of the tables that represent a sound state.
use Rattle.std.proofs.Common.{◌≡◌, ◌∙◌, inl, inr, IsTrue, Result, Ok, Err, OnOk, IfErr, false, true, refl, sym, ap, subst, arith}
use Rattle.std.proofs.lemmas.Result.{IfOk-weaker}
use Rattle.std.proofs.lemmas.Bool.{both_ways}
use Rattle.std.specs.Prelude.{◌↔◌, ⊤}
use Rattle.std.specs.Result.{result_and}
use Rattle.sqlite.specs.State as db
use Rattle.sqlite.specs.Effect.{Database}
use Rattle.sqlite.specs.Tree.{Trees}
use Rattle.sqlite.specs.State.{HasCleanDisk, IsUnchanged, IsRolledBack, Commits, Survives}
use Rattle.sqlite.specs.Held.{Held, state}
use Rattle.sqlite_trees.specs.declared.store.Store.{Ghosts}
use Rattle.dep_types.specs.State.{State}
use Rattle.dep_types.specs.Sound.{IsSound}
use Rattle.dep_types.specs.declared.config.Config.{Config}
use Rattle.dep_types.specs.declared.store_fault.StoreFault.{StoreFault}
use Rattle.dep_fields.specs.Fit.{AreFit}
use Rattle.dep_decisions.specs.declared.operation.Operation.{Operation}
use Rattle.dep_tables.specs.Schema.{our_schema}
use Rattle.dep_tables.specs.Tables.{Tables, IsOurs, tables_in, tables_of}
use Rattle.dep_row_maps.specs.TablesAre.{TablesAre}
use Rattle.dep_requests.specs.declared.performing.Done.{Done}
use Rattle.dep_transactions.specs.OpenTables.{StaysFile}
use Rattle.dep_row_maps.specs.Clauses.{FromMaps}
use Rattle.dep_requests.proofs.Stepping.{step_sound}
use Rattle.dep_transactions.specs.States.{StoreRepresents}
use Rattle.dep_views.specs.Ahead.{IsAhead}
use Rattle.dep_views.specs.declared.ahead.WorkAhead.{WorkAhead}
use Rattle.dep_requests.specs.Performing as within
use Rattle.dep_requests.specs.Performing.{ChangesNothing, IsDone, IsStepped}
use Rattle.dep_transactions.specs.Performing.{KeepsWorkAhead, StepsAlone, StepsOver, ReportsChanges, IsBackUnchanged}
use Rattle.dep_transactions.specs.Transactions.{Transacts, FailsToEnd, FindsOpen, IsBackAt, IsGivenBack}
use Rattle.dep_transactions.proofs.Transacting.{IsMade, Works, back_by_rollback, back_then, committed, fails_back, given_back, none_by_rollback, none_then, uncommitted}

-- of the transaction that was begun it tells that of the connection
pub worked_on : {S : Type 0} {begun : Held S} (g : Ghosts S) (old inside : Held S) (config : Config) (op : Operation) (ahead : WorkAhead) (p : Done)
    → begun ≡ record old { in_transaction = true } → IsDone (state g begun) (state g inside) config op ahead p
    → IsDone (state g (record old { in_transaction = true })) (state g inside) config op ahead p
worked_on {S = S} g old inside config op ahead p is it = subst (λ (h : Held S). IsDone (state g h) (state g inside) config op ahead p) is it

-- a request inside a transaction keeps the state sound
pub works : {S : Type 0} (g : Ghosts S) (old inside : Held S) (config : Config) (op : Operation) (ahead : WorkAhead) (p : Done)
    → FromMaps (state g (record old { in_transaction = true })) (state g inside)
    (λ s. IsSound s → IsAhead s ahead → AreFit op.fields → IsStepped config s op (state g inside) p.performed)
    → (HasCleanDisk (state g inside) → IsTrue true → IsOurs (state g (record old { in_transaction = true })) → IsOurs (state g inside))
    → IsMade our_schema our_schema g old inside (StepsOver config op ahead) p
works g old inside config op ahead p reported ours clean are_ours = (
  ours clean refl are_ours,
  λ fit s means its.
      let it = reported clean refl are_ours s means.are means.sound its fit in
      (it.0, record { are = it.1; sound = step_sound config s op fit means.sound }),
)

-- what is told of a state inside a transaction that has ended since, where the tables represented it
pub reported_inside : {S : Type 0} (g : Ghosts S) (old inside new : Held S) (P : State → Type 0) (Leaves : Trees → Type 0) → FromMaps (state g (record old { in_transaction = true })) (state g inside) P
    → Survives (state g inside) (state g new) Leaves → (last : Held S) → new ≡ last → HasCleanDisk (state g last) → (s : State) → StoreRepresents (state g old) s → P s
reported_inside {S = S} g old inside new P Leaves reported survives last same clean s represents =
    let then : HasCleanDisk (state g new) = subst (λ (h : Held S). HasCleanDisk (state g h)) (sym same) clean in
    reported (omega (arith, then, survives.clean)) refl represents.represents.ours s (subst (λ (t : Tables). TablesAre t s) (sym represents.represents.rows) represents.means.are)

-- what was hashed stays what was received, also where the transaction ends
pub keeps_ahead : {S : Type 0} {begun : Held S} (g : Ghosts S) (old inside new : Held S) (runs later : WorkAhead) (Leaves : Trees → Type 0) → begun ≡ record old { in_transaction = true }
    → within.KeepsAhead (state g begun) (state g inside) runs later → Survives (state g inside) (state g new) Leaves
    → (IsTrue (state g new).is_open → HasCleanDisk (state g new)) → (last : Held S) → new ≡ last → KeepsWorkAhead (state g old) (state g last) runs later
keeps_ahead {S = S} g old inside new runs later Leaves is reported survives shut last same is_open s represents are =
    let clean : HasCleanDisk (state g last) = subst (λ (h : Held S). IsTrue (state g h).is_open → HasCleanDisk (state g h)) same shut is_open in
    reported_inside g old inside new (λ s. IsSound s → IsAhead s runs → IsAhead s later) Leaves (subst (λ (h : Held S). within.KeepsAhead (state g h) (state g inside) runs later) is reported)
    survives last same clean s represents represents.means.sound are

-- the tables are those that were there, where nothing was changed
pub works_still : {S : Type 0} (g : Ghosts S) (old inside new last : Held S) (Made : Tables → Done → Tables → Type 0) (done : Done) → IsMade our_schema our_schema g old inside Made done
    → (HasCleanDisk (state g inside) → IsOurs (state g (record old { in_transaction = true })) → IsUnchanged (state g (record old { in_transaction = true })) (state g inside))
    → Survives (state g inside) (state g new) (λ _. ⊥) → Survives (state g new) (state g last) (λ _. ⊥) → HasCleanDisk (state g last) → (t : Tables) → StaysFile (state g old) t → Made t done t
works_still g old inside new last Made done made still survives more clean t represents =
    let then : HasCleanDisk (state g inside) = omega (arith, clean, survives.clean, more.clean) in
    let after = (made then represents.ours).1 in
    let same : tables_of (state g inside) ≡ t = ap (λ (d : Database). tables_in d.trees) (still then represents.ours).0.now_is ∙ represents.rows in
    subst (λ (left : Tables). Made t done left) same (subst (λ (was : Tables). Made was done (tables_of (state g inside))) represents.rows after)

-- what was done with less that was hashed ahead
pub done_with : (old new : db.State) (config : Config) (op : Operation) (needed ahead : WorkAhead) (done : Done) → ((s : State) → IsAhead s ahead → IsAhead s needed)
    → IsDone old new config op needed done → IsDone old new config op ahead done
done_with old new config op needed ahead done need it = record {
  map = λ clean within ours s are sound hashed fit. it.map clean within ours s are sound (need s hashed) fit;
  changes = λ clean within ours s are sound hashed. it.changes clean within ours s are sound (need s hashed);
  unchanged = it.unchanged;
  ours = it.ours;
}

-- of what was hashed ahead nothing was needed
pub transacts_alone : (old new : db.State) (config : Config) (op : Operation) (none : WorkAhead) (result : Result Done StoreFault) → ((s : State) → IsAhead s none)
    → Transacts old new result (StepsOver config op none) → Transacts old new result (StepsAlone config op)
transacts_alone old new config op none result any it = record {
  ok = λ clean t represents. IfOk-weaker result _ _ (λ (done : Done) made. (made.0, made.1, alone t done made.0 made.2)) (it.ok clean t represents);
  err = it.err;
  honest = it.honest;
  was_open = it.was_open;
  stop = λ clean t represents trees h. elim (it.stop clean t represents trees h) [
    | inl earlier ↦ inl earlier
    | inr (done, after, holds, made) ↦ inr (done, after, holds, alone t done after made)
  ];
}
  where
    alone : (t : Tables) (done : Done) (after : Tables) → StepsOver config op none t done after → StepsAlone config op t done after
    alone t done after made = λ fit s means. made fit s means (any s)

-- what a request leaves, and what is returned of it
pub record IsPerformed (old new : db.State) (config : Config) (op : Operation) (ahead : WorkAhead) (result : Result Done StoreFault) : Type 0 where
  pub transacts : Transacts old new result (StepsOver config op ahead)
  pub changes : ReportsChanges old new result config op ahead
  pub back : IsBackUnchanged old new result

module _ {S : Type 0} (g : Ghosts S) (old inside : Held S) (config : Config) (op : Operation) (ahead : WorkAhead) (done : Done)
    (worked : IsDone (state g (record old { in_transaction = true })) (state g inside) config op ahead done) where
  -- it tells of a state that nothing was changed just where that is so
  abbrev Reports : State → Type 0
  Reports s = IsSound s → IsAhead s ahead → done.has_changes ≡ false ↔ ChangesNothing config s op

  made : IsMade our_schema our_schema g old inside (StepsOver config op ahead) done
  made = works g old inside config op ahead done worked.map worked.ours

  -- where something was changed, it was committed, or its commit failed
  pub by_commit : (new : Held S) (r : Result ⊤ StoreFault) → Works g old inside new
      → (HasCleanDisk (state g inside) → IsTrue (state g inside).in_transaction)
      → (HasCleanDisk (state g new) → OnOk r (Commits (state g inside) (state g new)))
      → (HasCleanDisk (state g new) → IfErr r (FailsToEnd (state g inside) (state g new)))
      → Survives (state g inside) (state g new) (λ trees. trees ≡ (state g inside).now.trees) → done.has_changes ≡ true
      → (last : Held S) → new ≡ last → IsPerformed (state g old) (state g last) config op ahead (result_and r (Ok done))
  by_commit new (Ok ended) work goes_on commits fails survives changed last same = record {
    transacts = committed g old inside new (StepsOver config op ahead) done work made commits survives last same;
    changes = λ clean s represents ran. reported_inside g old inside new Reports (λ trees. trees ≡ (state g inside).now.trees) worked.changes survives last same clean s represents represents.means.sound ran;
    back = λ none. absurd (both_ways done.has_changes none changed);
  }
  by_commit new (Err fault) work goes_on commits fails survives changed last same = record {
    transacts = uncommitted g old inside new (StepsOver config op ahead) done fault work made goes_on fails survives last same;
    changes = λ clean s represents ran. tt;
    back = tt;
  }

  -- where nothing was, all was given back, and the store is found open or not
  pub by_rollback : (mid last new : Held S) → mid ≡ last → (r : Result ⊤ StoreFault) → Works g old inside mid
      → (HasCleanDisk (state g mid) → IsRolledBack (state g inside) (state g mid)) → Survives (state g inside) (state g mid) (λ _. ⊥)
      → (IsTrue (state g old).is_open → (state g old).now ≡ (state g old).committed) → FindsOpen (state g last) (state g new) r → done.has_changes ≡ false
      → IsPerformed (state g old) (state g new) config op ahead (result_and r (Ok done))
  by_rollback mid last new same r work undone survives between found none =
      let back = back_then (state g old) (state g last) (state g new) (back_by_rollback g old inside mid work undone survives between last same) found.restored.back in
      let nothing = none_then (state g old) (state g last) (state g new) (none_by_rollback g old inside mid work survives last same) found.restored.survives in
      reported r back nothing found.opened
    where
      later : Survives (state g mid) (state g new) (λ _. ⊥)
      later = subst (λ (h : Held S). Survives (state g h) (state g new) (λ _. ⊥)) (sym same) found.restored.survives

      reported : (r : Result ⊤ StoreFault) → IsBackAt (state g old) (state g new) → Survives (state g old) (state g new) (λ _. ⊥)
          → (HasCleanDisk (state g new) → OnOk r (IsTrue (state g new).is_open)) → IsPerformed (state g old) (state g new) config op ahead (result_and r (Ok done))
      reported (Ok open_still) back nothing opened =
          let given : IsGivenBack (state g old) (state g new) = record { opened = opened; back = back; survives = nothing } in
          record {
            transacts = given_back (state g old) (state g new) done (StepsOver config op ahead) work.settled given
                (works_still g old inside mid new (StepsOver config op ahead) done made (worked.unchanged none) survives later);
            changes = λ clean s represents ran. reported_inside g old inside new Reports (λ _. ⊥) worked.changes (none_then (state g inside) (state g mid) (state g new) survives later) new refl clean s represents represents.means.sound ran;
            back = λ unchanged. given;
          }
      reported (Err fault) back nothing opened = record {
        transacts = fails_back (state g old) (state g new) (Err fault) (StepsOver config op ahead) refl work.settled back nothing;
        changes = λ clean s represents ran. tt;
        back = tt;
      }
