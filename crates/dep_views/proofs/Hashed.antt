-- A view before any digest is taken, and the same with the digests of the uploads that references name.
use Rattle.std.proofs.Common.{◌≡◌, ◌≢◌, ◌∙◌, ℕ, Bool, true, false, List, [], ◌∷◌, map, Option, Some, None, is_some, refl, sym, ap, subst}
use Rattle.std.specs.Prelude.{if◌then◌else◌}
use Rattle.std.specs.Option.{option_map_or}
use Rattle.std.specs.FinMap as finmap
use Rattle.std.specs.FinSet as set
use Rattle.std.specs.List.{All}
use Rattle.std.proofs.lemmas.List.Elements.{All-map}
use Rattle.dep_types.specs.State.{State, Upload}
use Rattle.dep_types.specs.Rows.{upload_row}
use Rattle.dep_types.specs.Uploads.{is_complete}
use Rattle.dep_types.specs.declared.rows.UploadRow.{UploadRow}
use Rattle.dep_fixity.specs.declared.hasher.Digests.{Digests}
use Rattle.dep_decisions.specs.LookUps.{assembled_digests}
use Rattle.dep_operations.specs.Views.{live_upload, seen_at, state_undigested, upload_state, upload_undigested, upload_view}
use Rattle.dep_operations.specs.declared.view.Touched.{Touched}
use Rattle.dep_operations.specs.declared.view.LiveUpload.{LiveUpload}
use Rattle.dep_operations.specs.declared.view.UploadState.{UploadState}
use Rattle.dep_operations.specs.declared.view.UploadState.TheVariants.{Live, TimedOut, Unknown}
use Rattle.dep_operations.specs.declared.view.UploadView.{UploadView}
use Rattle.dep_operations.specs.declared.view.View.{View}
use Rattle.dep_views.specs.Seen.{IsUndigested, direct_uploads, loaded_undigested, loaded_view, loaded_with, loaded_with_digests}
use Rattle.dep_views.specs.declared.view.LoadedView.{LoadedView}

-- without references no digest is shown
row_alone : (s : State) (u : ℕ) → state_undigested (upload_state false s u) ≡ upload_state false s u
row_alone s u = go (finmap.get s.uploads u) (set.contains s.timed_out u)
  where
    go : (o : Option Upload) (b : Bool) → state_undigested (option_map_or (λ it. Live (live_upload false u it)) o (if b then TimedOut else Unknown))
        ≡ option_map_or (λ it. Live (live_upload false u it)) o (if b then TimedOut else Unknown)
    go (Some it) b = refl
    go None true = refl
    go None false = refl

rows_alone : (s : State) (us : List ℕ) → map (upload_undigested false s) us ≡ map (upload_view false s) us
rows_alone s [] = refl
rows_alone s (u ∷ us) = (λ i. record { upload = u; state = row_alone s u i } ∷ rows_alone s us i)

module _ (s : State) (u : ℕ) where
  abbrev reported_by : Option Upload → Bool → UploadState
  reported_by o b = option_map_or (λ it. Live (live_upload true u it)) o (if b then TimedOut else Unknown)

  -- what isn't there has no digest
  pub reported_gone : (state : UploadState) → ((live : LiveUpload) → state ≢ Live live) → state ≡ state_undigested (upload_state true s u) → state ≡ upload_state true s u
  reported_gone state gone = go (finmap.get s.uploads u) (set.contains s.timed_out u)
    where
      go : (o : Option Upload) (b : Bool) → state ≡ state_undigested (reported_by o b) → state ≡ reported_by o b
      go (Some it) b same = absurd (gone _ same)
      go None true same = same
      go None false same = same

  pub reported_hashed : (live : LiveUpload) (digests : Option Digests) → Live live ≡ state_undigested (upload_state true s u)
      → ((it : Upload) → finmap.get s.uploads live.row.upload ≡ Some it → live.row.count ≡ it.count → live.is_whole ≡ is_complete it → digests ≡ assembled_digests it)
      → Live (record { row = live.row; is_whole = live.is_whole; digests = digests }) ≡ upload_state true s u
  reported_hashed live digests seen reported = go (finmap.get s.uploads u) (set.contains s.timed_out u) refl seen
    where
      go : (o : Option Upload) (b : Bool) → finmap.get s.uploads u ≡ o → Live live ≡ state_undigested (reported_by o b) → Live (record { row = live.row; is_whole = live.is_whole; digests = digests }) ≡ reported_by o b
      go (Some it) b there same =
          let is : live ≡ record (live_upload true u it) { digests = None } = cc same in
          let row : live.row ≡ upload_row u it = ap (λ (l : LiveUpload). l.row) is in
          let whole : live.is_whole ≡ is_complete it = ap (λ (l : LiveUpload). l.is_whole) is in
          let hashed = reported it (ap (λ (r : UploadRow). finmap.get s.uploads r.upload) row ∙ there) (ap (λ (r : UploadRow). r.count) row) whole in
          λ i. Live (record { row = row i; is_whole = whole i; digests = hashed i })
      go None true there same = absurd (cc same)
      go None false there same = absurd (cc same)

-- those that were looked at, and are hashed
hashed_each : (s : State) (by_reference : Bool) (us : List ℕ) → map (λ (v : UploadView). upload_view true s v.upload) (map (upload_undigested by_reference s) us) ≡ map (upload_view true s) us
hashed_each s by [] = refl
hashed_each s by (u ∷ us) = ap (λ vs. upload_view true s u ∷ vs) (hashed_each s by us)

module _ (s : State) (content : List ℕ) (t : Touched) (loaded : LoadedView) where
  by_reference : (v : View) → loaded ≡ loaded_with s t v → v.references ≡ t.references → (b : Bool) → is_some loaded.view.references ≡ b → is_some t.references ≡ b
  by_reference v same refs b is = ap is_some (sym (ap (λ (l : LoadedView). l.view.references) same ∙ refs)) ∙ is

  module _ (same : loaded ≡ loaded_view s content t) where
    -- where no upload is named all was seen
    pub seen_whole : is_some loaded.view.references ≡ false → loaded ≡ loaded_undigested s content t
    seen_whole none =
        let b = by_reference _ same refl false none in
        let us : map (upload_undigested false s) (direct_uploads t) ≡ map (upload_undigested (is_some t.references) s) t.uploads =
        ap (λ x. map (upload_undigested false s) (if x then [] else t.uploads)) b ∙ ap (λ x. map (upload_undigested x s) t.uploads) (sym b) in
        same ∙ (λ i. loaded_with s t (record (seen_at s content t) { uploads = us i }))

    -- what is named was not
    pub seen_unnamed : is_some loaded.view.references ≡ true → loaded.view ≡ record (seen_at s content t) { uploads = [] }
    seen_unnamed some =
        let b = by_reference _ same refl true some in
        ap (λ (l : LoadedView). l.view) same ∙ ap (λ x. record (seen_at s content t) { uploads = map (upload_undigested false s) (if x then [] else t.uploads) }) b

    -- until it was
    pub seen_named : (views : List UploadView) (with : LoadedView) → is_some loaded.view.references ≡ true → views ≡ map (upload_undigested true s) loaded.uploads
        → with ≡ record loaded { view = record loaded.view { uploads = views } } → with ≡ loaded_undigested s content t
    seen_named views with some reported is =
        let b = by_reference _ same refl true some in
        let us : views ≡ map (upload_undigested (is_some t.references) s) t.uploads =
        reported ∙ ap (λ (l : LoadedView). map (upload_undigested true s) l.uploads) same ∙ ap (λ x. map (upload_undigested x s) t.uploads) (sym b) in
        is ∙ (λ i. record (same i) { view = record (same i).view { uploads = us i } })

  module _ (same : loaded ≡ loaded_undigested s content t) where
    -- they were looked at before any digest was taken
    pub all_undigested : is_some loaded.view.references ≡ true → All (IsUndigested s) loaded.view.uploads
    all_undigested some =
        let us = ap (λ (l : LoadedView). l.view.uploads) same ∙ ap (λ x. map (upload_undigested x s) t.uploads) (by_reference _ same refl true some) in
        subst (All (IsUndigested s)) (sym us) (All-map (IsUndigested s) (upload_undigested true s) t.uploads (λ k d within. refl))

    pub nothing_to_hash : is_some loaded.view.references ≡ false → loaded ≡ loaded_with_digests s content t
    nothing_to_hash none =
        let b = by_reference _ same refl false none in
        let us = ap (λ x. map (upload_undigested x s) t.uploads) b ∙ rows_alone s t.uploads ∙ ap (λ x. map (upload_view x s) t.uploads) (sym b) in
        same ∙ (λ i. loaded_with s t (record (seen_at s content t) { uploads = us i }))

    pub hashed_all : (uploads : List UploadView) (with : LoadedView) → is_some loaded.view.references ≡ true → uploads ≡ map (λ (v : UploadView). upload_view true s v.upload) loaded.view.uploads
        → with ≡ record loaded { view = record loaded.view { uploads = uploads } } → with ≡ loaded_with_digests s content t
    hashed_all uploads with some reported is =
        let b = by_reference _ same refl true some in
        let us : uploads ≡ map (upload_view (is_some t.references) s) t.uploads =
        reported ∙ ap (λ (l : LoadedView). map (λ (v : UploadView). upload_view true s v.upload) l.view.uploads) same
        ∙ hashed_each s (is_some t.references) t.uploads ∙ ap (λ x. map (upload_view x s) t.uploads) (sym b) in
        is ∙ (λ i. record (same i) { view = record (same i).view { uploads = us i } })
