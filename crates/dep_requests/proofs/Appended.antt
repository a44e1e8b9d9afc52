-- A deposit that is added to the object that a view tells.
use Rattle.std.proofs.Common.{◌≡◌, ℕ, ◌||◌, Bool, List, Some, Result, refl, ap, subst, ◌∙◌}
use Rattle.sqlite.specs.State as db
use Rattle.dep_types.specs.Rows.{object_row}
use Rattle.dep_types.specs.State.{State, Object}
use Rattle.dep_types.specs.declared.rows.ObjectRow.{ObjectRow}
use Rattle.dep_types.specs.declared.store_fault.StoreFault.{StoreFault}
use Rattle.dep_tables.proofs.Results.{ok_then}
use Rattle.dep_tables.specs.Tables.{Tables, tables_of}
use Rattle.dep_row_maps.specs.TablesAre.{TablesAre, with_object}
use Rattle.dep_objects.specs.Objects.{Rewrites}
use Rattle.dep_decisions.specs.Effects.{appended, ingested_by, uploads_in, without}
use Rattle.dep_decisions.specs.declared.decision.Deposit.{Deposit}
use Rattle.dep_decisions.specs.declared.decision.Deposit.TheVariants.{Files, Metadata}
use Rattle.dep_decisions.specs.declared.decision.Decision.TheVariants.{Append}
use Rattle.dep_requests.specs.declared.change.Change.{Change}
use Rattle.dep_requests.specs.Changed.{with_deposit}
use Rattle.dep_requests.specs.Clauses.{Appends, CarriesOut}
use Rattle.dep_operations.specs.declared.view.View.{View}
use Rattle.dep_requests.specs.Reported.{ReportsNumbers, ReportsObject}
use Rattle.dep_requests.proofs.Carried.{at_object}
use Rattle.dep_requests.proofs.Filled.{ingested_row}
use Rattle.dep_requests.proofs.Steps.{row_is, its_number, rewritten, row_written}

-- it is the same whether the object becomes ingested before or after it
pub ingested_after : (s : State) (content : List ℕ) (d : Deposit) (ingests : Bool) (o : Object) → appended s content d (ingested_by ingests o) ≡ ingested_by ingests (appended s content d o)
ingested_after s content (Files new) ingests o = refl
ingested_after s content (Metadata texts) ingests o = refl

appended_at : (t : Tables) (s : State) (content : List ℕ) (k n : ℕ) (o : Object) (d : Deposit) (ingests : Bool) → k ≡ n
    → TablesAre t (with_deposit s k (appended s content d (ingested_by ingests o)) d) → TablesAre t (with_deposit s n (ingested_by ingests (appended s content d o)) d)
appended_at t s content k n o d ingests same are =
    subst (λ (x : Object). TablesAre t (with_deposit s n x d)) (ingested_after s content d ingests o)
    (subst (λ (m : ℕ). TablesAre t (with_deposit s m (appended s content d (ingested_by ingests o)) d)) same are)

module _ {T : Type 0} (state : T → db.State) (old new : T) (r : Result (Unit {0}) StoreFault) (change : Change) (d : Deposit) (ingests : Bool) (found row : ObjectRow) (seen : change.view.now.object ≡ Some found) (is : row ≡ record found { ingested = found.ingested || ingests }) (n : ℕ) where
  row_of : (s : State) (o : Object) → ReportsObject change.view.now s n o → row ≡ object_row n (ingested_by ingests o)
  row_of s o reported = ingested_row n o ingests found row (row_is s n o change.view.now.object reported.0 found seen) is

  rewrites : (s : State) (o : Object) → ReportsObject change.view.now s n o → Rewrites s row (ingested_by ingests o)
  rewrites s o reported = rewritten s n o (ingested_by ingests o) row (row_of s o reported) reported.1 refl refl

  pub append_carried : {L : Type 0} {lenders : T → L} → Appends lenders state old new r change row d → CarriesOut lenders state old new r change (Append n d ingests)
  append_carried made = record {
    done = λ clean inside ours s are reported.
        let content = change.content.now in
        let o = reported.1.0 in
        let it : Object = ingested_by ingests o in
        at_object s (without s.uploads (uploads_in d)) (state new) r n o (λ (x : Object). ingested_by ingests (appended s content d x)) reported.1.1.1
        (ok_then r (made.done it clean inside ours s are ((reported.0, reported.1.2), rewrites s o reported.1.1))
        (λ added. appended_at (tables_of (state new)) s content row.object n o d ingests (its_number n it row (row_of s o reported.1.1)) added));
    keeps = made.keeps;
  }

-- the object with the row of one that has the deposit, before that is added
module _ (t : Tables) (s : State) (view : View) (content : List ℕ) (row added : ObjectRow) (d : Deposit)
    (says : (s : State) (content : List ℕ) (n : ℕ) (o : Object) → ReportsNumbers view s → row ≡ object_row n o → added ≡ object_row n (appended s content d o)) where
  pub row_put : (e : Deposit) → d ≡ e → (it mark : Object) (was : Rewrites s row it) → ReportsNumbers view s → object_row row.object (appended s content e it) ≡ object_row row.object mark
      → mark.metadata ≡ it.metadata → mark.files ≡ it.files → (Rewrites s added mark → TablesAre t (with_object s added.object mark)) → TablesAre t (with_object s row.object mark)
  row_put e is it mark was numbers rows texts files =
      row_written t s row.object was.was mark added (says s content row.object it numbers was.is_row ∙ ap (λ (x : Deposit). object_row row.object (appended s content x it)) is ∙ rows)
      was.there (texts ∙ was.metadata) (files ∙ was.files)
