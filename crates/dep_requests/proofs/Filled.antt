-- Deposits in an object.
use Rattle.std.proofs.Common.{◌≡◌, ℕ, ◌||◌, Bool, List, refl, ap, subst, ◌∙◌}
use Rattle.std.specs.FinMap as finmap
use Rattle.dep_types.specs.Maps.{Numbered}
use Rattle.dep_types.specs.State.{State, Object, File}
use Rattle.dep_types.specs.Rows.{object_row}
use Rattle.dep_types.specs.declared.counters.Counters.{Counters}
use Rattle.dep_types.specs.declared.rows.ObjectRow.{ObjectRow}
use Rattle.dep_tables.specs.Tables.{Tables}
use Rattle.dep_row_maps.proofs.Lens.{insert_twice}
use Rattle.dep_row_maps.specs.TablesAre.{TablesAre, with_object}
use Rattle.dep_objects.specs.Objects.{object_of}
use Rattle.dep_objects.proofs.Puts.{row_is_of}
use Rattle.dep_decisions.specs.Effects.{blank, filled, ingested_by, uploads_in, without}
use Rattle.dep_decisions.specs.declared.decision.Deposit.{Deposit}
use Rattle.dep_decisions.specs.declared.decision.Deposit.TheVariants.{Files, Metadata}
use Rattle.dep_operations.specs.declared.view.UploadView.{UploadView}
use Rattle.dep_requests.specs.Reported.{HasSources}
use Rattle.dep_requests.specs.Changed.{put_in, with_deposit}
use Rattle.dep_requests.proofs.Added.{added_alike}

-- ---- the rows

pub ingested_row : (n : ℕ) (o : Object) (ingests : Bool) (was now : ObjectRow) → was ≡ object_row n o → now ≡ record was { ingested = was.ingested || ingests } → now ≡ object_row n (ingested_by ingests o)
ingested_row n o ingests was now is after = after ∙ ap (λ (r : ObjectRow). record r { ingested = r.ingested || ingests }) is

module _ (s : State) (clock : ℕ) (next : Counters) (at_clock : clock ≡ s.clock) (at_next : next ≡ s.next) (now : ObjectRow) where
  pub blank_row_is : (k : ℕ) (ingested : Bool) → now ≡ record { object = k; ingested = ingested; object_tag = next.change; metadata_tag = next.change; files_tag = next.change; changed = clock } → now ≡ object_row k (blank s ingested)
  blank_row_is k ingested is = cc

  pub blank_again : (n : ℕ) (it : Object) (row : ObjectRow) → row ≡ object_row n it
      → now ≡ record { object = row.object; ingested = row.ingested; object_tag = next.change; metadata_tag = next.change; files_tag = next.change; changed = clock } → now ≡ object_row n (blank s it.ingested)
  blank_again n it row was is = cc

-- ---- a new object

pub blank_added : (t : Tables) (s : State) (row : ObjectRow) (o : Object) → row ≡ object_row row.object o → o.metadata ≡ finmap.empty → o.files ≡ finmap.empty
    → TablesAre t (with_object s row.object (object_of row finmap.empty finmap.empty)) → TablesAre t (with_object s row.object o)
blank_added t s row o is texts files are = row_is_of t s row (object_of row finmap.empty finmap.empty) o is texts files are

-- ---- the object was written before the deposit was put in

-- put in an object that has nothing, the deposit is all of it
filled_alike : (m : Numbered Object) (s : State) (content : List ℕ) (d : Deposit) (ingested : Bool) → put_in (record s { objects = m }) content d (blank s ingested) ≡ filled s content d ingested
filled_alike m s content (Files new) ingested = ap (λ (files : Numbered File). record (blank s ingested) { files = files }) (added_alike m s.next.file s content new finmap.empty)
filled_alike m s content (Metadata texts) ingested = refl

pub still_have : (m : Numbered Object) (s : State) (content : List ℕ) (seen : List UploadView) (d : Deposit) → HasSources s content seen d → HasSources (record s { objects = m }) content seen d
still_have m s content seen (Files new) have = have
still_have m s content seen (Metadata texts) have = have

pub deposit_again : (t : Tables) (s : State) (content : List ℕ) (k n : ℕ) (was : Object) (d : Deposit) (ingested : Bool) → k ≡ n
    → TablesAre t (with_deposit (with_object s n was) k (put_in (with_object s n was) content d (blank s ingested)) d) → TablesAre t (with_deposit s n (filled s content d ingested) d)
deposit_again t s content k n was d ingested same are =
    let m = finmap.insert s.objects n was in
    let it = put_in (with_object s n was) content d (blank s ingested) in
    let objects : finmap.insert m k it ≡ finmap.insert s.objects n (filled s content d ingested) =
    ap (λ (q : ℕ). finmap.insert m q it) same
    ∙ insert_twice s.objects n was it
    ∙ ap (finmap.insert s.objects n) (filled_alike m s content d ingested) in
    subst (λ (q : Numbered Object). TablesAre t (record s { objects = q; uploads = without s.uploads (uploads_in d) })) objects are
