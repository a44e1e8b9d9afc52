-- A segment that is sent, beside what was received before.
use Rattle.std.proofs.Common.{◌≡◌, ◌≢◌, ℕ, zero, suc, ◌+◌, ◌-◌, ◌*◌, ◌==◌, ◌<◌, ◌≤◌, arith, subst, Bool, true, false, List, [], ◌∷◌, length, get_or, nat_cmp, Option, Some, None, map, refl, sym, ap, ◌∙◌}
use Rattle.std.specs.Prelude.{if◌then◌else◌, bytes_eq, option_map}
use Rattle.std.specs.Option.{option_map_or}
use Rattle.std.specs.FinMap as finmap
use Rattle.std.specs.FinSet as set
use Rattle.std.proofs.lemmas.Bool.Decides.{nat_tests}
use Rattle.dep_types.specs.Maps.{Numbered, ◌>>=◌}
use Rattle.dep_types.specs.State.{State, Upload}
use Rattle.dep_types.specs.Sound.{IsSound}
use Rattle.dep_types.specs.Uploads.{segment_length, sizes_agree}
use Rattle.dep_decisions.specs.LookUps.{repeats}
use Rattle.dep_row_maps.specs.TablesAre.{segments_at}
use Rattle.dep_operations.specs.Views.{live_upload, state_undigested, upload_state, upload_undigested}
use Rattle.dep_operations.specs.declared.view.LiveUpload.{LiveUpload}
use Rattle.dep_operations.specs.declared.view.UploadState.{UploadState}
use Rattle.dep_operations.specs.declared.view.UploadState.TheVariants.{Live, TimedOut, Unknown}
use Rattle.dep_operations.specs.declared.view.UploadView.{UploadView}
use Rattle.dep_staging.specs.Comparing.{IsNoEmptySegment}

module _ (uploads : Numbered Upload) (u k : ℕ) where
  repeat_by : (bytes : List ℕ) (o : Option Upload) → finmap.get uploads u ≡ o
      → option_map (λ stored. bytes_eq stored bytes) (finmap.get (option_map_or (λ (it : Upload). it.segments) o finmap.empty) k) ≡ (o >>= (λ it. repeats it k bytes))
  repeat_by bytes (Some it) is = refl
  repeat_by bytes None is = ap (option_map (λ stored. bytes_eq stored bytes)) (finmap.get-empty {X = List ℕ} nat_cmp k)

  pub repeat_is : (bytes : List ℕ) → option_map (λ stored. bytes_eq stored bytes) (finmap.get (segments_at uploads u) k) ≡ (finmap.get uploads u >>= (λ it. repeats it k bytes))
  repeat_is bytes = repeat_by bytes (finmap.get uploads u) refl

some_left : (size count each m : ℕ) → count ≡ suc m → (count - 1) * each < size → 0 < size - (count - 1) * each
some_left size count each m is less = omega (arith, less)

some_each : (size count each m : ℕ) → count ≡ suc m → (count - 1) * each < size → size ≤ count * each → 0 < each
some_each size count each m is less most =
    let before : count - 1 ≡ m = omega (arith, is) in
    let whole : suc m * each ≡ each + m * each = omega arith in
    let low : m * each < size = subst (λ n. n * each < size) before less in
    let high : size ≤ suc m * each = subst (λ n. size ≤ n * each) is most in
    omega (arith, whole, low, high)

has_one : (count : ℕ) → 1 ≤ count → (m : ℕ) × (count ≡ suc m)
has_one zero h = absurd (omega (arith, h))
has_one (suc m) h = (m, refl)

-- a segment that was received has a byte
some_bytes : (it : Upload) (k : ℕ) → 1 ≤ it.count → sizes_agree it.size it.count it.segment_size ≡ true → 0 < segment_length it k
some_bytes it k counted sizes =
    let m = has_one it.count counted in
    let less : (it.count - 1) * it.segment_size < it.size = grind (arith, nat_tests) in
    let most : it.size ≤ it.count * it.segment_size = grind (arith, nat_tests) in
    elim (k == it.count) as (λ b. 0 < (if b then it.size - (it.count - 1) * it.segment_size else it.segment_size)) [
      | true ↦ some_left it.size it.count it.segment_size m.0 m.1 less
      | false ↦ some_each it.size it.count it.segment_size m.0 m.1 less most
    ]

pub no_empty_segment : (s : State) (u k : ℕ) → IsSound s → IsNoEmptySegment s u k
no_empty_segment s u k sound = go (finmap.get s.uploads u) refl
  where
    go : (o : Option Upload) → finmap.get s.uploads u ≡ o → finmap.get (option_map_or (λ (it : Upload). it.segments) o finmap.empty) k ≢ Some []
    go (Some it) there e =
        let its = sound.uploads u it there in
        let long = (its.segments k [] e).2 in
        let some = some_bytes it k its.counted its.sizes in
        omega (arith, long, some)
    go None none e = let nothing = finmap.get-empty {X = List ℕ} nat_cmp k in cc (nothing, e)

-- ---- an upload that can't have it

module _ (s : State) (by_reference : Bool) (u : ℕ) where
  abbrev state_by : Option Upload → Bool → UploadState
  state_by o timed_out = state_undigested (option_map_or (λ it. Live (live_upload by_reference u it)) o (if timed_out then TimedOut else Unknown))

  abbrev live_by : Upload → LiveUpload
  live_by it = record (live_upload by_reference u it) { digests = None }

  -- of an upload that isn't there
  pub lacks_all : (state : UploadState) → ((live : LiveUpload) → Live live ≡ state → ⊥) → state ≡ state_undigested (upload_state by_reference s u) → (k : ℕ) → finmap.get (segments_at s.uploads u) k ≡ None
  lacks_all state gone is k = go (finmap.get s.uploads u) is
    where
      go : (o : Option Upload) → state ≡ state_by o (set.contains s.timed_out u) → finmap.get (option_map_or (λ (it : Upload). it.segments) o finmap.empty) k ≡ None
      go None e = finmap.get-empty {X = List ℕ} nat_cmp k
      go (Some it) e = absurd (gone (live_by it) (sym e))

  -- an upload that is there is told with its count
  pub reported_there : (live : LiveUpload) → Live live ≡ state_undigested (upload_state by_reference s u) → (it : Upload) × (finmap.get s.uploads u ≡ Some it) × (live.row.count ≡ it.count)
  reported_there live is = go (finmap.get s.uploads u) (set.contains s.timed_out u) refl is
    where
      go : (o : Option Upload) (b : Bool) → finmap.get s.uploads u ≡ o → Live live ≡ state_by o b → (it : Upload) × (finmap.get s.uploads u ≡ Some it) × (live.row.count ≡ it.count)
      go None true at e = absurd (cc)
      go None false at e = absurd (cc)
      go (Some it) b at e = let same : live ≡ live_by it = cc in (it, at, ap (λ (l : LiveUpload). l.row.count) same)

  -- of one that comes in fewer
  pub lacks_beyond : (live : LiveUpload) → IsSound s → Live live ≡ state_undigested (upload_state by_reference s u) → (k : ℕ) → live.row.count < k → finmap.get (segments_at s.uploads u) k ≡ None
  lacks_beyond live sound is k beyond = ap (λ o. finmap.get (option_map_or (λ (x : Upload). x.segments) o finmap.empty) k) it.1 ∙ go (finmap.get (it.0).segments k) refl
    where
      it : (it : Upload) × (finmap.get s.uploads u ≡ Some it) × (live.row.count ≡ it.count)
      it = reported_there live is

      go : (o : Option (List ℕ)) → finmap.get (it.0).segments k ≡ o → o ≡ None
      go None e = refl
      go (Some bytes) e =
          let within = ((sound.uploads u it.0 it.1).segments k bytes e).1 in
          let counted = it.2 in
          absurd (omega (arith, within, counted, beyond))

-- the first upload that was looked at, by its view
pub first_view : (s : State) (by_reference : Bool) (views : List UploadView) (uploads : List ℕ) (none : UploadView) (u : ℕ) → views ≡ map (upload_undigested by_reference s) uploads → 1 ≤ length views
    → (get_or views 0 none).upload ≡ u → (get_or views 0 none).state ≡ state_undigested (upload_state by_reference s u)
first_view s by_reference views uploads none u reported some same =
    subst (λ (vs : List UploadView). (get_or vs 0 none).state ≡ state_undigested (upload_state by_reference s u)) (sym reported)
    (go uploads (subst (λ (vs : List UploadView). 1 ≤ length vs) reported some) (subst (λ (vs : List UploadView). (get_or vs 0 none).upload ≡ u) reported same))
  where
    go : (us : List ℕ) → 1 ≤ length (map (upload_undigested by_reference s) us) → (get_or (map (upload_undigested by_reference s) us) 0 none).upload ≡ u → (get_or (map (upload_undigested by_reference s) us) 0 none).state ≡ state_undigested (upload_state by_reference s u)
    go [] some same = absurd (omega (arith, some))
    go (w ∷ more) some same = ap (λ n. state_undigested (upload_state by_reference s n)) same

-- it is no repeat where its upload lacks it
pub no_repeat : (s : State) (u k : ℕ) (bytes : List ℕ) → finmap.get (segments_at s.uploads u) k ≡ None → None ≡ (finmap.get s.uploads u >>= (λ it. repeats it k bytes))
no_repeat s u k bytes none = ap (option_map (λ stored. bytes_eq stored bytes)) (sym none) ∙ repeat_is s.uploads u k bytes
