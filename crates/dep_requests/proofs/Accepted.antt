-- A view that tells the state truly where an accepted request touches it tells all that its decision relies on.
use Rattle.std.proofs.Common.{◌≡◌, ◌≤◌, ◌∙◌, ℕ, zero, suc, ◌&&◌, nat_le, Bool, true, false, List, [], ◌∷◌, length, ◌==◌, map, slice_get, Option, Some, None, is_some, option_map, option_and_then, unwrap_or, refl, sym, ap, subst, arith, if◌then◌else◌}
use Rattle.std.proofs.lemmas.Bool.Decides.{nat_tests}
use Rattle.std.specs.List.{cons_option}
use Rattle.std.specs.Option.{option_map_or}
use Rattle.std.specs.FinMap as finmap
use Rattle.std.specs.FinSet as finset
use Rattle.dep_types.specs.Maps.{◌>>=◌}
use Rattle.dep_types.specs.State as state
use Rattle.dep_types.specs.State.{State, file_at}
use Rattle.dep_types.specs.Rows.{object_row}
use Rattle.dep_types.specs.Uploads.{assembled, is_complete, segment_length}
use Rattle.dep_types.specs.Sound.{IsSound}
use Rattle.dep_types.specs.declared.config.Config.{Config}
use Rattle.dep_types.specs.declared.refusal.Refusal.{Refusal}
use Rattle.dep_types.specs.declared.refusal.Refusal.TheVariants.{BadRequest, NotFound, UnexpectedSegment}
use Rattle.dep_types.specs.declared.target.Resource.{Resource}
use Rattle.dep_types.specs.declared.target.Resource.TheVariants.{Service, Object, Metadata, FileSet, File, Staging, Upload}
use Rattle.dep_types.specs.declared.target.Method.{Method}
use Rattle.dep_types.specs.declared.target.Method.TheVariants.{Post, Put, Delete}
use Rattle.dep_fixity.specs.Fixity.{digests_of}
use Rattle.dep_fields.specs.declared.kind.Kind.{Kind}
use Rattle.dep_fields.specs.declared.kind.Kind.TheVariants as of
use Rattle.dep_docs_in.specs.Documents.{metadata_read}
use Rattle.dep_docs_in.specs.declared.reference.Reference.{Reference}
use Rattle.dep_decisions.specs.Kinds.{is_completion, content_kind}
use Rattle.dep_decisions.specs.Decisions.{assembled_file, decision, decision_at, decision_with, deposit_by, deposit_of, files_of, ingests, opened, posted_file, received, referred_files, references_by, references_in, replaced_file, texts_of, upload_number}
use Rattle.dep_decisions.specs.LookUps.{has_object, in_state, repeats}
use Rattle.dep_decisions.specs.Rules.{document_refusal, document_rule, presence_rule, entries_refusal, has_content, presence_refusal, received_refusal, references_refusal, refusal, repeat_refusal, segment_refusal, size_refusal, size_rule, occurs_twice, unless, upload_refusal, when}
use Rattle.dep_decisions.specs.Effects.{uploads_of}
use Rattle.dep_decisions.specs.declared.operation.Operation.{Operation}
use Rattle.dep_decisions.specs.declared.decision.NewFile.{NewFile}
use Rattle.dep_decisions.specs.declared.decision.Deposit.{Deposit}
use Rattle.dep_decisions.specs.declared.decision.Deposit.TheVariants as deposit
use Rattle.dep_decisions.specs.declared.decision.Decision.{Decision}
use Rattle.dep_decisions.specs.declared.decision.Decision.TheVariants.{Show, Create, Append, Replace, Complete, SetMetadata, SetFiles}
use Rattle.dep_operations.specs.Views.{live_upload, referred_uploads, seen_at, segment_in, touched_with, upload_view, uploads_named, true_view}
use Rattle.dep_operations.specs.declared.view.View.{View}
use Rattle.dep_operations.specs.declared.view.UploadState.TheVariants.{TimedOut, Unknown, Live}
use Rattle.dep_operations.specs.declared.view.UploadView.{UploadView}
use Rattle.dep_decisions.proofs.FoundInMaps.{all_passed, unless-none}
use Rattle.dep_params.proofs.Runs.{and_both}
use Rattle.dep_decisions.proofs.Lengths.{assembled_length, some_of}
use Rattle.dep_decisions.proofs.Passed.{content_passed, presence_passed}
use Rattle.dep_decisions.proofs.Referred.{IsReferred, not_twice, referred, upload_there}
use Rattle.dep_requests.proofs.OneSize.{has_one_size}
use Rattle.dep_requests.specs.Reported.{AreSources, HasSources, IsSeenWhole, IsSource, ReportsFile, ReportsFor, ReportsObject, whole_view}

-- ---- what is there

when-none : (b : Bool) (r : Refusal) → when b r ≡ None → b ≡ false
when-none true r e = cc e
when-none false r e = refl

-- ---- what an accepted deposit by reference takes

named_once : (s : State) (refs : List Reference) → entries_refusal (in_state s) refs ≡ None → occurs_twice (uploads_named refs) ≡ false
named_once s refs e = when-none (occurs_twice (uploads_named refs)) BadRequest (not_twice s refs e)

uploads_are : (op : Operation) (refs : List Reference) → uploads_of (referred_files op refs) ≡ uploads_named refs
uploads_are op [] = refl
uploads_are op (r ∷ refs) = go (upload_number r.target) (uploads_are op refs)
  where
    go : (o : Option ℕ) → uploads_of (referred_files op refs) ≡ uploads_named refs → uploads_of (cons_option (option_map (assembled_file op r) o) (referred_files op refs)) ≡ cons_option o (uploads_named refs)
    go None more = more
    go (Some u) more = ap (λ (us : List ℕ). u ∷ us) more

module _ (s : State) (sound : IsSound s) where
  whole_seen : (u : ℕ) (it : state.Upload) → finmap.get s.uploads u ≡ Some it → is_complete it ≡ true → ◌≡◌ {A = UploadView} (upload_view true s u) (whole_view u it)
  whole_seen u it there complete =
      ap (λ (o : Option state.Upload). record { upload = u; state = option_map_or (λ (x : state.Upload). Live (live_upload true u x)) o (if finset.contains s.timed_out u then TimedOut else Unknown) }) there
      ∙ ap (λ (b : Bool). record { upload = u; state = Live (record { row = (live_upload true u it).row; is_whole = b; digests = if b then Some (digests_of (assembled it)) else None }) }) complete

  is_source : (r : Reference) (is : IsReferred s r) → IsSeenWhole s.uploads is.upload (Some (upload_view true s is.upload))
  is_source r is =
      let up = sound.uploads is.upload is.was is.there in
      record {
        upload = is.was;
        there = is.there;
        whole = record {
          segments = record { complete = is.complete; within = λ k bytes at. let has = up.segments k bytes at in (has.0, has.1); sized = has_one_size s is.upload is.was up is.complete };
          size = assembled_length s is.upload is.was up is.complete;
        };
        seen_so = ap (λ (v : UploadView). Some v) (whole_seen is.upload is.was is.there is.complete);
      }

  module _ (op : Operation) where
    abbrev AreIn : List NewFile → List UploadView → Type 0
    AreIn new seen = (i : ℕ) (one : NewFile) → slice_get new i ≡ Some one → IsSource s op.content (slice_get seen i) one.source

    one_source : (r : Reference) (is : IsReferred s r) (more : List NewFile) (seen : List UploadView) → AreIn more seen → AreIn (assembled_file op r is.upload ∷ more) (upload_view true s is.upload ∷ seen)
    one_source r is more seen later zero one at =
        let same : assembled_file op r is.upload ≡ one = cc at in
        subst (λ (x : NewFile). IsSource s op.content (Some (upload_view true s is.upload)) x.source) same (is_source r is)
    one_source r is more seen later (suc i) one at = later i one at

    all_sources : (refs : List Reference) → ((i : ℕ) (r : Reference) → slice_get refs i ≡ Some r → IsReferred s r) → AreIn (referred_files op refs) (map (upload_view true s) (uploads_named refs))
    all_sources [] passed = λ i one at. absurd (cc at)
    all_sources (r ∷ refs) passed =
        let is = passed 0 r refl in
        subst (λ (o : Option ℕ). AreIn (cons_option (option_map (assembled_file op r) o) (referred_files op refs)) (map (upload_view true s) (cons_option o (uploads_named refs)))) (sym is.number)
        (one_source r is (referred_files op refs) (map (upload_view true s) (uploads_named refs)) (all_sources refs (λ i x at. passed (suc i) x at)))

    referred_sources : (refs : List Reference) → entries_refusal (in_state s) refs ≡ None → AreSources s op.content (map (upload_view true s) (uploads_named refs)) (referred_files op refs)
    referred_sources refs e = (all_sources refs (λ i r at. referred s refs i r e at), ap occurs_twice (uploads_are op refs) ∙ named_once s refs e)

-- ---- what an accepted deposit takes

none_sources : (s : State) (content : List ℕ) (seen : List UploadView) → AreSources s content seen []
unfolding occurs_twice
none_sources s content seen = ((λ i one at. absurd (cc at)), refl)

posted_source : (s : State) (op : Operation) (seen : List UploadView) (name : List ℕ) → AreSources s op.content seen (posted_file op name ∷ [])
unfolding occurs_twice
posted_source s op seen name = (at_place, refl)
  where
    at_place : (i : ℕ) (one : NewFile) → slice_get (posted_file op name ∷ []) i ≡ Some one → IsSource s op.content (slice_get seen i) one.source
    at_place zero one at =
        let same : posted_file op name ≡ one = cc at in
        subst (λ (x : NewFile). IsSource s op.content (slice_get seen 0) x.source) same refl
    at_place (suc i) one at = absurd (cc at)

module _ (config : Config) (s : State) (op : Operation) (sound : IsSound s) where
  -- the uploads that are seen, by the references that are read
  abbrev uploads_seen : Option (List Reference) → List UploadView
  uploads_seen refs = map (upload_view (is_some refs) s) (referred_uploads refs)

  -- a deposit that there is has its sources
  abbrev Have : List UploadView → Option Deposit → Type 0
  Have seen None = Unit {0}
  Have seen (Some d) = HasSources s op.content seen d

  metadata_has : (seen : List UploadView) (o : Option state.Texts) → Have seen (option_map (λ texts. deposit.Metadata texts) o)
  metadata_has seen None = tt
  metadata_has seen (Some texts) = tt

  references_have : (refs : Option (List Reference)) → references_in config op ≡ refs → document_refusal config (in_state s) op of.References ≡ None
      → Have (uploads_seen refs) (option_map (λ entries. deposit.Files (referred_files op entries)) refs)
  references_have None is passed = tt
  references_have (Some refs) is passed = referred_sources s sound op refs (sym (ap (references_refusal (in_state s)) is) ∙ passed)

  module _ (document : document_rule config (in_state s) op ≡ None) where
    passed_by : (k : Kind) → content_kind op ≡ Some k → document_refusal config (in_state s) op k ≡ None
    unfolding document_rule
    passed_by k is = sym (ap (option_and_then (document_refusal config (in_state s) op)) is) ∙ document

    by_kind : (o : Option Kind) → content_kind op ≡ o → Have (uploads_seen (references_in config op)) (option_and_then (deposit_by (references_in config op) op) o)
    by_kind (Some (of.File name)) is = posted_source s op (uploads_seen (references_in config op)) name
    by_kind (Some of.Metadata) is = metadata_has (uploads_seen (references_in config op)) (metadata_read op.content)
    by_kind (Some of.References) is = references_have (references_in config op) refl (passed_by of.References is)
    by_kind _ is = tt

    deposit_has : Have (uploads_seen (references_in config op)) (deposit_of (references_in config op) op)
    unfolding deposit_of
    deposit_has = by_kind (content_kind op) refl

-- ---- what each decision relies on

module _ (s : State) (content : List ℕ) (view : View) where
  abbrev Reported : Option Decision → Type 0
  Reported o = ReportsFor view s content (unwrap_or o Show)

  -- a deposit that there is has its sources
  abbrev Has : Option Deposit → Type 0
  Has None = Unit {0}
  Has (Some d) = HasSources s content view.uploads d

  created : (ingested : Bool) (o : Option Deposit) → finmap.get s.objects s.next.object ≡ None → Has o → Reported (option_map (λ d. Create d ingested) o)
  created ingested None none has = tt
  created ingested (Some d) none has = (none, has)

  module _ (n : ℕ) (o : state.Object) (reported : ReportsObject view s n o) where
    appended : (complete ingests : Bool) (d : Option Deposit) → Has d → Reported (if complete then Some (Complete n) else option_map (λ d. Append n d ingests) d)
    appended true ingests d has = (o, reported)
    appended false ingests None has = tt
    appended false ingests (Some d) has = (o, reported, has)

    replaced : (ingests : Bool) (d : Option Deposit) → Has d → Reported (option_map (λ d. Replace n d ingests) d)
    replaced ingests None has = tt
    replaced ingests (Some d) has = (o, reported, has)

    texts_set : (texts : Option state.Texts) → Reported (option_map (λ texts. SetMetadata n texts) texts)
    texts_set None = tt
    texts_set (Some texts) = (o, reported)

    files_set : (d : Option Deposit) → Has d → Reported (option_map (λ files. SetFiles n files) (option_and_then files_of d))
    files_set None has = tt
    files_set (Some (deposit.Files new)) has = (o, reported, has)
    files_set (Some (deposit.Metadata texts)) has = tt

module _ (config : Config) (s : State) (op : Operation) (sound : IsSound s) where
  abbrev refs : Option (List Reference)
  refs = references_in config op

  abbrev seen : Resource → View
  seen resource = seen_at s op.content (touched_with resource (content_kind op) refs)

  abbrev Asked : Resource → Method → Type 0
  Asked resource method = Reported s op.content (seen resource) (decision_at refs op resource method)

  object_free : finmap.get s.objects s.next.object ≡ None
  object_free = go (finmap.get s.objects s.next.object) refl
    where
      go : (o : Option state.Object) → finmap.get s.objects s.next.object ≡ o → o ≡ None
      go None e = refl
      go (Some o) e = absurd (let below = (sound.objects s.next.object o e).number_given.below in omega arith)

  -- an object that is there is told
  object_reported : (n : ℕ) (view : View) → view.object ≡ option_map (object_row n) (finmap.get s.objects n) → unless (has_object s n) NotFound ≡ None → (o : state.Object) × ReportsObject view s n o
  object_reported n view is present =
      let there = some_of (finmap.get s.objects n) (unless-none (has_object s n) NotFound present) in
      (there.0, (is ∙ ap (option_map (object_row n)) there.1, there.1))

  file_found : (n f : ℕ) (o : Option state.Object) → is_some (option_and_then (λ (x : state.Object). finmap.get x.files f) o) ≡ true → (x : state.Object) × (file : state.File) × (o ≡ Some x) × (finmap.get x.files f ≡ Some file)
  file_found n f None e = cc e
  file_found n f (Some x) e = let file = some_of (finmap.get x.files f) e in (x, file.0, refl, file.1)

  file_reported : (n f : ℕ) (view : View) → view.object ≡ option_map (object_row n) (finmap.get s.objects n) → unless (is_some (file_at s n f)) NotFound ≡ None → (o : state.Object) × (file : state.File) × ReportsFile view s n o f file
  file_reported n f view is present =
      let found = file_found n f (finmap.get s.objects n) (unless-none (is_some (file_at s n f)) NotFound present) in
      (found.0, found.1, ((is ∙ ap (option_map (object_row n)) found.2, found.2), found.3))

  file_set : (n f : ℕ) (o : Option Kind) → unless (is_some (file_at s n f)) NotFound ≡ None → Reported s op.content (seen (File n f)) (option_and_then (replaced_file op n f) o)
  file_set n f (Some (of.File name)) present = let reported = file_reported n f (seen (File n f)) refl present in (reported.0, reported.1, reported.2, refl)
  file_set n f _ present = tt

  opened_reported : (o : Option Kind) → Reported s op.content (seen Staging) (option_and_then opened o)
  opened_reported (Some (of.Opening o)) = tt
  opened_reported _ = tt

  -- a segment refers to no upload
  no_references : (k : ℕ) → content_kind op ≡ Some (of.Segment k) → refs ≡ None
  unfolding references_in
  no_references k is = ap (references_by config op) is

  below : (x y : ℕ) → nat_le x y ≡ true → x ≤ y
  below x y e = grind (arith, nat_tests)

  within : (it : state.Upload) (k : ℕ) → segment_refusal it k op.content ≡ None → k ≤ it.count
  within it k passed =
      let rows = all_passed
      (unless (nat_le 1 k && nat_le k it.count) UnexpectedSegment
      ∷ repeat_refusal (length op.content == segment_length it k) (repeats it k op.content)
      ∷ []) passed in
      below k it.count (and_both (nat_le 1 k) (nat_le k it.count) (unless-none _ UnexpectedSegment rows.0)).1

  received_reported : (u : ℕ) (o : Option Kind) → content_kind op ≡ o → op.target.resource ≡ Upload u → upload_refusal (in_state s) u ≡ None → option_and_then (size_refusal config (in_state s) op) o ≡ None → Reported s op.content (seen (Upload u)) (option_and_then (received u) o)
  received_reported u (Some (of.Segment k)) is at present passed =
      let there = upload_there s u present in
      let sized = ap (option_and_then (λ x. segment_refusal x k op.content)) (sym there.1) ∙ ap (λ (r : Resource). received_refusal (in_state s) r k op.content) (sym at) ∙ passed in
      let repeat = ap (λ (o : Option Kind). segment_in (Upload u) o >>= (λ id. finmap.get s.uploads id.upload >>= (λ it. repeats it id.number op.content))) is
      ∙ ap (λ (x : Option state.Upload). x >>= (λ it. repeats it k op.content)) there.1 in
      (there.0, (ap (λ (r : Option (List Reference)). upload_view (is_some r) s u ∷ []) (no_references k is), there.1, repeat, within there.0 k sized))
  received_reported u _ is at present passed = tt

  sizes : size_rule config (in_state s) op ≡ None → option_and_then (size_refusal config (in_state s) op) (content_kind op) ≡ None
  unfolding size_rule
  sizes e = e

  asked : (resource : Resource) (method : Method) → op.target.resource ≡ resource → op.target.method ≡ method → presence_refusal (in_state s) resource ≡ None → refusal config s op ≡ None → Asked resource method
  asked Service Post at by present e =
      created s op.content (seen Service) (ingests op) (deposit_of refs op) object_free (deposit_has config s op sound (content_passed config (in_state s) op e (ap has_content by)).document)
  asked (Object n) Post at by present e =
      let reported = object_reported n (seen (Object n)) refl present in
      appended s op.content (seen (Object n)) n reported.0 reported.1 (is_completion op) (ingests op) (deposit_of refs op) (deposit_has config s op sound (content_passed config (in_state s) op e (ap has_content by)).document)
  asked (Object n) Put at by present e =
      let reported = object_reported n (seen (Object n)) refl present in
      replaced s op.content (seen (Object n)) n reported.0 reported.1 (ingests op) (deposit_of refs op) (deposit_has config s op sound (content_passed config (in_state s) op e (ap has_content by)).document)
  asked (Object n) Delete at by present e = object_reported n (seen (Object n)) refl present
  asked (Metadata n) Put at by present e =
      let reported = object_reported n (seen (Metadata n)) refl present in
      texts_set s op.content (seen (Metadata n)) n reported.0 reported.1 (option_and_then texts_of (deposit_of refs op))
  asked (Metadata n) Delete at by present e = object_reported n (seen (Metadata n)) refl present
  asked (FileSet n) Put at by present e =
      let reported = object_reported n (seen (FileSet n)) refl present in
      files_set s op.content (seen (FileSet n)) n reported.0 reported.1 (deposit_of refs op) (deposit_has config s op sound (content_passed config (in_state s) op e (ap has_content by)).document)
  asked (FileSet n) Delete at by present e =
      let reported = object_reported n (seen (FileSet n)) refl present in
      (reported.0, reported.1, none_sources s op.content (seen (FileSet n)).uploads)
  asked (File n f) Put at by present e = file_set n f (content_kind op) present
  asked (File n f) Delete at by present e = file_reported n f (seen (File n f)) refl present
  asked Staging Post at by present e = opened_reported (content_kind op)
  asked (Upload u) Post at by present e =
      received_reported u (content_kind op) refl at present (sizes (content_passed config (in_state s) op e (ap has_content by)).size)
  asked (Upload u) Delete at by present e = upload_there s u present
  asked _ _ at by present e = tt

  pub reported_for : refusal config s op ≡ None → ReportsFor (true_view config s op) s op.content (decision config op)
  unfolding decision_with presence_rule
  reported_for e = asked op.target.resource op.target.method refl refl (presence_passed config (in_state s) op e) e
