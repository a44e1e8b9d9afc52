-- New files that are added one after another, and the uploads that they use up.
use Rattle.std.proofs.Common.{◌≡◌, ◌≢◌, ℕ, zero, suc, ◌+◌, ◌||◌, Bool, true, false, List, [], ◌∷◌, ◌++◌, length, take, slice_get, nat_eq, Option, Some, None, refl, sym, ap, subst, ◌∙◌, arith, add-one}
use Rattle.std.specs.List.{cons_option, list_any}
use Rattle.std.specs.Option.{option_map_or, option_to_list}
use Rattle.std.specs.FinMap as finmap
use Rattle.std.proofs.lemmas.Bool.Decides.{nat_tests}
use Rattle.dep_types.specs.Maps.{Numbered}
use Rattle.dep_types.specs.State.{State, Object, File, Upload}
use Rattle.dep_types.specs.Uploads.{assembled}
use Rattle.dep_tables.specs.Tables.{Tables}
use Rattle.dep_row_maps.specs.TablesAre.{TablesAre, with_object}
use Rattle.dep_row_maps.proofs.Lens.{get_left, insert_again, insert_twice}
use Rattle.dep_decisions.specs.Rules.{occurs_twice}
use Rattle.dep_decisions.specs.Effects.{files_added, added_from, bytes_from, file_from, upload_of, uploads_of, without}
use Rattle.dep_decisions.specs.declared.decision.ContentSource.{ContentSource}
use Rattle.dep_decisions.specs.declared.decision.ContentSource.TheVariants.{Posted, Assembled}
use Rattle.dep_decisions.specs.declared.decision.NewFile.{NewFile}
use Rattle.dep_operations.specs.declared.view.UploadView.{UploadView}
use Rattle.dep_requests.specs.Reported.{IsSource, AreSources}
use Rattle.dep_requests.specs.Changed.{made_file, with_deposited_file}

-- ---- files

next_place : (k n : ℕ) → k + 1 + n ≡ k + suc n
next_place k n = omega arith

pub added_last : (k : ℕ) (s : State) (content : List ℕ) (xs : List NewFile) (x : NewFile) (files : Numbered File)
    → added_from k s content (xs ++ x ∷ []) files ≡ finmap.insert (added_from k s content xs files) (k + length xs) (file_from s content x)
unfolding added_from
added_last k s content [] x files = ap (λ (n : ℕ). finmap.insert files n (file_from s content x)) (none k)
  where
    none : (k : ℕ) → k ≡ k + 0
    none k = omega arith
added_last k s content (y ∷ xs) x files =
    added_last (k + 1) s content xs x (finmap.insert files k (file_from s content y))
    ∙ ap (λ (n : ℕ). finmap.insert (added_from (k + 1) s content xs (finmap.insert files k (file_from s content y))) n (file_from s content x)) (next_place k (length xs))

-- they don't look at the objects
pub added_alike : (m : Numbered Object) (k : ℕ) (s : State) (content : List ℕ) (xs : List NewFile) (files : Numbered File)
    → added_from k (record s { objects = m }) content xs files ≡ added_from k s content xs files
unfolding added_from
added_alike m k s content [] files = refl
added_alike m k s content (x ∷ xs) files = added_alike m (k + 1) s content xs (finmap.insert files k (file_from s content x))

-- ---- uploads

pub used_last : (xs : List NewFile) (x : NewFile) → uploads_of (xs ++ x ∷ []) ≡ uploads_of xs ++ option_to_list (upload_of x.source)
used_last [] x = go (upload_of x.source)
  where
    go : (o : Option ℕ) → cons_option o [] ≡ option_to_list o
    go None = refl
    go (Some u) = refl
used_last (y ∷ xs) x = ap (cons_option (upload_of y.source)) (used_last xs x) ∙ go (upload_of y.source) (uploads_of xs) (option_to_list (upload_of x.source))
  where
    go : (o : Option ℕ) (us vs : List ℕ) → cons_option o (us ++ vs) ≡ cons_option o us ++ vs
    go None us vs = refl
    go (Some u) us vs = refl

pub without_both : (m : Numbered Upload) (us vs : List ℕ) → without m (us ++ vs) ≡ without (without m us) vs
without_both m [] vs = refl
without_both m (u ∷ us) vs = without_both (finmap.remove m u) us vs

abbrev is_among : ℕ → List ℕ → Bool
is_among u us = list_any (nat_eq u) us

both_false : (a b : Bool) → (a || b) ≡ false → (a ≡ false) × (b ≡ false)
both_false true b e = cc e
both_false false b e = (refl, e)

apart : (u v : ℕ) → nat_eq u v ≡ false → u ≢ v
apart u v e same = grind (arith, nat_tests)

turned : (u v : ℕ) → nat_eq v u ≡ false → nat_eq u v ≡ false
turned u v e = grind (arith, nat_tests)

-- what is not among those that go stays
pub still_there : (m : Numbered Upload) (us : List ℕ) (u : ℕ) → is_among u us ≡ false → finmap.get (without m us) u ≡ finmap.get m u
still_there m [] u e = refl
still_there m (v ∷ us) u e =
    let both = both_false (nat_eq u v) (is_among u us) e in
    still_there (finmap.remove m v) us u both.1 ∙ get_left m v u (apart u v both.0)

none_behind : (v : ℕ) (o : Option ℕ) (us : List ℕ) → is_among v (cons_option o us) ≡ false → is_among v us ≡ false
none_behind v None us e = e
none_behind v (Some w) us e = (both_false (nat_eq v w) (is_among v us) e).1

among_these : (xs : List NewFile) (i : ℕ) (x : NewFile) (u v : ℕ) → slice_get xs i ≡ Some x → upload_of x.source ≡ Some u → is_among v (uploads_of xs) ≡ false → nat_eq v u ≡ false
among_these [] i x u v at is none = cc at
among_these (y ∷ xs) zero x u v at is none =
    let same : y ≡ x = cc at in
    let first : upload_of y.source ≡ Some u = ap (λ (z : NewFile). upload_of z.source) same ∙ is in
    (both_false (nat_eq v u) (is_among v (uploads_of xs)) (ap (λ (o : Option ℕ). is_among v (cons_option o (uploads_of xs))) (sym first) ∙ none)).0
among_these (y ∷ xs) (suc i) x u v at is none = among_these xs i x u v at is (none_behind v (upload_of y.source) (uploads_of xs) none)

-- where no upload stands twice, that of a file is not one of those before it
pub not_before : (xs : List NewFile) (i : ℕ) (x : NewFile) (u : ℕ) → occurs_twice (uploads_of xs) ≡ false → slice_get xs i ≡ Some x → upload_of x.source ≡ Some u → is_among u (uploads_of (take i xs)) ≡ false
unfolding occurs_twice
not_before [] i x u once at is = cc at
not_before (y ∷ xs) zero x u once at is = refl
not_before (y ∷ xs) (suc i) x u once at is = go (upload_of y.source) once (λ v none. among_these xs i x u v at is none) (λ e. not_before xs i x u e at is)
  where
    go : (o : Option ℕ) → occurs_twice (cons_option o (uploads_of xs)) ≡ false → ((v : ℕ) → is_among v (uploads_of xs) ≡ false → nat_eq v u ≡ false) → (occurs_twice (uploads_of xs) ≡ false → is_among u (uploads_of (take i xs)) ≡ false)
        → is_among u (cons_option o (uploads_of (take i xs))) ≡ false
    go None e others later = later e
    go (Some v) e others later =
        let both = both_false (is_among v (uploads_of xs)) (occurs_twice (uploads_of xs)) e in
        ap (λ (b : Bool). b || is_among u (uploads_of (take i xs))) (turned u v (others v both.0)) ∙ later both.1

-- ---- one file more

-- the object has the new files beside its own, and their uploads are gone
abbrev pub with_new_files : State → (content : List ℕ) → (n : ℕ) → Object → List NewFile → State
with_new_files s content n o new = record s {
  objects = finmap.insert s.objects n (record o { files = files_added s content new o.files });
  uploads = without s.uploads (uploads_of new);
}

pub take_next : (xs : List NewFile) (i : ℕ) (x : NewFile) → slice_get xs i ≡ Some x → take (i + 1) xs ≡ take i xs ++ x ∷ []
take_next [] i x at = cc at
take_next (y ∷ xs) zero x at = let same : y ≡ x = cc at in ap (λ (z : NewFile). z ∷ []) same
take_next (y ∷ xs) (suc i) x at = ap (λ (k : ℕ). take k (y ∷ xs)) (add-one (suc i)) ∙ ap (λ (zs : List NewFile). y ∷ zs) (ap (λ (k : ℕ). take k xs) (sym (add-one i)) ∙ take_next xs i x at)

pub length_before : (xs : List NewFile) (i : ℕ) (x : NewFile) → slice_get xs i ≡ Some x → length (take i xs) ≡ i
length_before [] i x at = cc at
length_before (y ∷ xs) zero x at = refl
length_before (y ∷ xs) (suc i) x at = ap suc (length_before xs i x at)

module _ (s : State) (content : List ℕ) (seen : List UploadView) (n : ℕ) (o : Object) (all : List NewFile) (i : ℕ) (x : NewFile) (at : slice_get all i ≡ Some x) (sources : AreSources s content seen all) where
  -- the state and the object with the files before this one
  abbrev pub state_before : State
  state_before = with_new_files s content n o (take i all)

  abbrev pub object_before : Object
  object_before = record o { files = files_added s content (take i all) o.files }

  upload_before : (u : ℕ) → upload_of x.source ≡ Some u → finmap.get (without s.uploads (uploads_of (take i all))) u ≡ finmap.get s.uploads u
  upload_before u is = still_there s.uploads (uploads_of (take i all)) u (not_before all i x u sources.1 at is)

  source_by : (source : ContentSource) → x.source ≡ source → IsSource s content (slice_get seen i) source → IsSource state_before content (slice_get seen i) source
  source_by (Posted digests) is reported = reported
  source_by (Assembled u) is reported = record { upload = reported.upload; there = upload_before u (ap upload_of is) ∙ reported.there; whole = reported.whole; seen_so = reported.seen_so }

  pub its_source : IsSource state_before content (slice_get seen i) x.source
  its_source = source_by x.source refl (sources.0 i x at)

  bytes_by : (source : ContentSource) → x.source ≡ source → bytes_from state_before content source ≡ bytes_from s content source
  bytes_by (Posted digests) is = refl
  bytes_by (Assembled u) is = ap (λ (found : Option Upload). option_map_or assembled found []) (upload_before u (ap upload_of is))

  its_file : file_from state_before content x ≡ file_from s content x
  its_file = ap (made_file s x) (bytes_by x.source refl)

  pub one_more : (t : Tables) (place : ℕ) → place ≡ s.next.file + i → TablesAre t (with_deposited_file state_before n object_before place (file_from state_before content x) x.source)
      → TablesAre t (with_new_files s content n o (take (i + 1) all))
  one_more t place is are =
      let uploads : without (without s.uploads (uploads_of (take i all))) (option_to_list (upload_of x.source)) ≡ without s.uploads (uploads_of (take (i + 1) all)) =
      sym (without_both s.uploads (uploads_of (take i all)) (option_to_list (upload_of x.source)))
      ∙ ap (without s.uploads) (sym (used_last (take i all) x))
      ∙ ap (λ (new : List NewFile). without s.uploads (uploads_of new)) (sym (take_next all i x at)) in
      let files : finmap.insert (files_added s content (take i all) o.files) place (file_from state_before content x) ≡ files_added s content (take (i + 1) all) o.files =
      ap (finmap.insert (files_added s content (take i all) o.files) place) its_file
      ∙ ap (λ (k : ℕ). finmap.insert (files_added s content (take i all) o.files) k (file_from s content x)) (is ∙ ap (λ (k : ℕ). s.next.file + k) (sym (length_before all i x at)))
      ∙ sym (added_last s.next.file s content (take i all) x o.files)
      ∙ ap (λ (new : List NewFile). files_added s content new o.files) (sym (take_next all i x at)) in
      let objects : finmap.insert (finmap.insert s.objects n object_before) n (record o { files = finmap.insert (files_added s content (take i all) o.files) place (file_from state_before content x) })
      ≡ finmap.insert s.objects n (record o { files = files_added s content (take (i + 1) all) o.files }) =
      insert_twice s.objects n object_before (record o { files = finmap.insert (files_added s content (take i all) o.files) place (file_from state_before content x) })
      ∙ ap (λ (fs : Numbered File). finmap.insert s.objects n (record o { files = fs })) files in
      subst (λ (us : Numbered Upload). TablesAre t (record s { objects = finmap.insert s.objects n (record o { files = files_added s content (take (i + 1) all) o.files }); uploads = us })) uploads
      (subst (λ (m : Numbered Object). TablesAre t (record s { objects = m; uploads = without (without s.uploads (uploads_of (take i all))) (option_to_list (upload_of x.source)) })) objects are)

-- no file yet
pub none_yet : (t : Tables) (s : State) (content : List ℕ) (n : ℕ) (o : Object) → finmap.get s.objects n ≡ Some o → TablesAre t s → TablesAre t (with_new_files s content n o [])
unfolding added_from
none_yet t s content n o there are = subst (λ (m : Numbered Object). TablesAre t (record s { objects = m })) (sym (insert_again s.objects n o there)) are

-- the object was written before its new files were added
pub new_files_again : (t : Tables) (s : State) (content : List ℕ) (k n : ℕ) (was o : Object) (new : List NewFile) → k ≡ n → TablesAre t (with_new_files (with_object s n was) content k o new) → TablesAre t (with_new_files s content n o new)
new_files_again t s content k n was o new same are =
    let files = added_alike (finmap.insert s.objects n was) s.next.file s content new o.files in
    let objects : finmap.insert (finmap.insert s.objects n was) k (record o { files = files_added (with_object s n was) content new o.files }) ≡ finmap.insert s.objects n (record o { files = files_added s content new o.files }) =
    ap (λ (m : ℕ). finmap.insert (finmap.insert s.objects n was) m (record o { files = files_added (with_object s n was) content new o.files })) same
    ∙ insert_twice s.objects n was (record o { files = files_added (with_object s n was) content new o.files })
    ∙ ap (λ (fs : Numbered File). finmap.insert s.objects n (record o { files = fs })) files in
    subst (λ (m : Numbered Object). TablesAre t (record s { objects = m; uploads = without s.uploads (uploads_of new) })) objects are
