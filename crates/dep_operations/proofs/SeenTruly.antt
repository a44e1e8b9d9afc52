-- A true view tells which rule is the first to apply.
use Rattle.std.proofs.Common.{◌≡◌, ◌∙◌, ℕ, Bool, true, false, List, [], ◌∷◌, map, Option, Some, None, is_some, option_map, option_and_then, if◌then◌else◌, refl, sym, ap, subst}
use Rattle.std.specs.List.{cons_option}
use Rattle.std.specs.Option.{option_map_or, option_or}
use Rattle.std.specs.FinMap as finmap
use Rattle.std.specs.FinSet as set
use Rattle.dep_types.specs.Maps.{◌>>=◌, first_of}
use Rattle.dep_types.specs.Numbers.{room_for}
use Rattle.dep_types.specs.Rows.{object_row, file_row}
use Rattle.dep_types.specs.State as state
use Rattle.dep_types.specs.State.{State, file_at}
use Rattle.dep_types.specs.declared.config.Config.{Config}
use Rattle.dep_types.specs.declared.counters.Counters.{Counters}
use Rattle.dep_types.specs.declared.rows.ObjectRow.{ObjectRow}
use Rattle.dep_types.specs.declared.rows.FileRow.{FileRow}
use Rattle.dep_types.specs.declared.refusal.Refusal.{Refusal}
use Rattle.dep_types.specs.declared.refusal.Refusal.TheVariants.{BadRequest, ByReferenceNotAllowed, DigestMismatch, NotFound, PackagingFormatNotAcceptable, StoreFull}
use Rattle.dep_types.specs.declared.target.Resource.{Resource}
use Rattle.dep_types.specs.declared.target.Resource.TheVariants.{Service, Object, Metadata, FileSet, File, Upload, BagList, BagFile}
use Rattle.dep_fields.specs.declared.kind.Kind.{Kind}
use Rattle.dep_fields.specs.declared.kind.Kind.TheVariants as of
use Rattle.dep_docs_in.specs.declared.reference.Reference.{Reference}
use Rattle.dep_docs_in.specs.declared.reference.Pointed.{Pointed}
use Rattle.dep_docs_in.specs.declared.reference.Pointed.TheVariants.{Upload as AnUpload, Elsewhere}
use Rattle.dep_decisions.specs.Decisions.{decision_with, numbers_for, references_in, upload_number}
use Rattle.dep_decisions.specs.Kinds.{content_kind}
use Rattle.dep_decisions.specs.Laws as laws
use Rattle.dep_decisions.specs.Laws.{refusal_before_room}
use Rattle.dep_decisions.specs.LookUps.{Entry, KnownUpload, LookUps, assembled_digests, entry_at, has_bag_path, in_state, known_of, repeats, tag_at, without_digests, without_entries}
use Rattle.dep_decisions.specs.Rules.{access_refusal, behalf_rule, content_by, content_refusal, digest_rule, digests_refusal, document_refusal, document_rule, each, entries_refusal, fields_refusal, has_content, has_digests, has_length, is_binary, length_refusal, missing_refusal, presence_refusal, presence_rule, reads_alone, received_refusal, references_refusal, refusal, refusal_by, room_rule, segment_by, segment_refusal, size_refusal, size_rule, occurs_twice, tag_refusal, tag_rule, there_refusal, unless, upload_refusal, when, whole_refusal}
use Rattle.dep_decisions.specs.declared.operation.Operation.{Operation}
use Rattle.dep_decisions.specs.declared.decision.Decision.{Decision}
use Rattle.dep_operations.specs.Checks.{IsRoomRuling}
use Rattle.dep_decisions.proofs.BeforeDigests.{access_same}
use Rattle.dep_decisions.proofs.ByUploads.{first_same}
use Rattle.dep_operations.specs.Rules.{IsSeen, live_segments_refusal}
use Rattle.dep_operations.specs.Rulings.{HasRoomFor, IsRuling, RefusesUndigested, RefusesUnnamed, RulesBy}
use Rattle.dep_operations.specs.Seen.{entries_seen, entry_before, entry_seen, in_view, is_timed_out, known_live, live_in, promised_in, row_length, tag_seen, upload_in}
use Rattle.dep_operations.specs.Views.{file_in, live_upload, object_in, path_in, segment_in, state_undigested, touched_by, true_view, undigested_view, unnamed_view, upload_state, uploads_looked_up, uploads_named}
use Rattle.dep_operations.specs.declared.ruling.Ruling.{Ruling}
use Rattle.dep_operations.specs.declared.ruling.Ruling.TheVariants.{Do, Refuse}
use Rattle.dep_operations.specs.declared.view.LiveUpload.{LiveUpload}
use Rattle.dep_operations.specs.declared.view.UploadState.{UploadState}
use Rattle.dep_operations.specs.declared.view.UploadState.TheVariants.{Unknown, TimedOut, Live}
use Rattle.dep_operations.specs.declared.view.UploadView.{UploadView}
use Rattle.dep_operations.specs.declared.view.View.{View}
use Rattle.dep_operations.proofs.Staged.{by_reference_elsewhere, not_to_upload}

-- ---- an upload

-- what a view has of it, once its digests are taken or before
abbrev with_digests : (hashed : Bool) → UploadState → UploadState
with_digests true state = state
with_digests false state = state_undigested state

abbrev live_with : (hashed by_reference : Bool) → ℕ → state.Upload → LiveUpload
live_with hashed by u upload = record (live_upload by u upload) { digests = if hashed then (live_upload by u upload).digests else None }

abbrev shown : (hashed by_reference : Bool) → ℕ → Option state.Upload → (timed_out : Bool) → UploadState
shown hashed by u o b = with_digests hashed (option_map_or (λ upload. Live (live_upload by u upload)) o (if b then TimedOut else Unknown))

missing_is : (hashed by : Bool) (u : ℕ) (o : Option state.Upload) (b : Bool) → missing_refusal (live_in (shown hashed by u o b)) (is_timed_out (shown hashed by u o b)) ≡ missing_refusal o b
missing_is true by u None true = refl
missing_is _ by u None true = refl
missing_is _ by u _ _ = refl

passes_is : (test : LiveUpload → Bool) (hashed by : Bool) (u : ℕ) (o : Option state.Upload) (b : Bool)
    → option_map_or test (live_in (shown hashed by u o b)) true ≡ option_map_or (λ x. test (live_with hashed by u x)) o true
passes_is test true by u None true = refl
passes_is test _ by u None true = refl
passes_is test _ by u _ _ = refl

segment_is : (hashed by : Bool) (u : ℕ) (o : Option state.Upload) (b : Bool) (k : ℕ) (bytes : List ℕ)
    → option_and_then (λ (l : LiveUpload). segment_by l.row.count (row_length l.row k) (o >>= (λ x. repeats x k bytes)) k bytes) (live_in (shown hashed by u o b))
    ≡ option_and_then (λ x. segment_refusal x k bytes) o
segment_is true by u None true k bytes = refl
segment_is _ by u None true k bytes = refl
segment_is _ by u _ _ k bytes = refl

has_row : {X Y : Type 0} (row : X → Y) (o : Option X) → is_some (option_map row o) ≡ is_some o
has_row row None = refl
has_row row (Some x) = refl

tag_of : {X Y : Type 0} (row : X → Y) (tag : Y → ℕ) (o : Option X) → option_map tag (option_map row o) ≡ option_map (λ x. tag (row x)) o
tag_of row tag None = refl
tag_of row tag (Some x) = refl

-- ---- references

-- what is known of the uploads of a state, with their digests or without
abbrev known_with : (hashed : Bool) → KnownUpload state.Upload
known_with hashed = record known_of { digests = λ u. if hashed then assembled_digests u else None }

abbrev looked_up : (hashed : Bool) → State → LookUps state.Upload
looked_up hashed s = record (in_state s) { known = known_with hashed }

module _ (hashed : Bool) (s : State) where
  abbrev seen : (by_reference : Bool) → ℕ → UploadView
  seen by u = record { upload = u; state = with_digests hashed (upload_state by s u) }

  abbrev reported_by : (Entry LiveUpload → Option Refusal) → (Entry state.Upload → Option Refusal) → Type 0
  reported_by rule reported = (r : Reference) (u : ℕ) → rule (entry_seen r (with_digests hashed (upload_state true s u))) ≡ reported (entry_at s r u)

  module _ (rule : Entry LiveUpload → Option Refusal) (reported : Entry state.Upload → Option Refusal) (same : reported_by rule reported) where
    entries_are : (refs : List Reference) → each rule (entries_seen refs (map (seen true) (uploads_named refs))) ≡ each reported ((in_state s).entries refs)
    unfolding entries_seen
    entries_are [] = refl
    entries_are (r ∷ refs) = one_more r.target (entries_are refs)
      where
        one_more : (t : Pointed) → each rule (entries_seen refs (map (seen true) (uploads_named refs))) ≡ each reported ((in_state s).entries refs)
            → each rule (entry_before (entries_seen refs) r t (map (seen true) (cons_option (upload_number t) (uploads_named refs))))
            ≡ each reported (cons_option (option_map (entry_at s r) (upload_number t)) ((in_state s).entries refs))
        one_more Elsewhere later = later
        one_more (AnUpload u) later = first_same _ _ _ _ (same r u) later

  there_is : reported_by there_refusal there_refusal
  there_is r u = missing_is hashed true u (finmap.get s.uploads u) (set.contains s.timed_out u)

  whole_is : reported_by (whole_refusal known_live) (whole_refusal (known_with hashed))
  whole_is r u = ap (λ b. unless b BadRequest) (passes_is (λ l. l.is_whole) hashed true u (finmap.get s.uploads u) (set.contains s.timed_out u))

  length_is : reported_by (length_refusal known_live) (length_refusal (known_with hashed))
  length_is r u = ap (λ b. unless b BadRequest) (passes_is (λ l. has_length r.length l.row.size) hashed true u (finmap.get s.uploads u) (set.contains s.timed_out u))

  digests_is : reported_by (digests_refusal known_live) (digests_refusal (known_with hashed))
  digests_is r u = ap (λ b. unless b DigestMismatch) (passes_is (λ l. has_digests (promised_in l.row) r.digest l.digests) hashed true u (finmap.get s.uploads u) (set.contains s.timed_out u))

  entries_reported : (view : View) (refs : List Reference) → view.uploads ≡ map (seen true) (uploads_named refs)
      → entries_refusal (in_view view) refs ≡ entries_refusal (looked_up hashed s) refs
  unfolding entries_refusal
  entries_reported view refs are =
      let there = ap (λ us. each there_refusal (entries_seen refs us)) are ∙ entries_are there_refusal there_refusal there_is refs in
      let whole = ap (λ us. each (whole_refusal known_live) (entries_seen refs us)) are ∙ entries_are (whole_refusal known_live) (whole_refusal (known_with hashed)) whole_is refs in
      let long = ap (λ us. each (length_refusal known_live) (entries_seen refs us)) are ∙ entries_are (length_refusal known_live) (length_refusal (known_with hashed)) length_is refs in
      let same = ap (λ us. each (digests_refusal known_live) (entries_seen refs us)) are ∙ entries_are (digests_refusal known_live) (digests_refusal (known_with hashed)) digests_is refs in
      rw (there, whole, long, same) refl

  references_reported : (view : View) (o : Option (List Reference)) → view.uploads ≡ map (seen (is_some o)) (uploads_looked_up Service o)
      → references_refusal (in_view view) o ≡ references_refusal (looked_up hashed s) o
  references_reported view None are = refl
  references_reported view (Some refs) are = entries_reported view refs are

-- ---- the rules

module _ (hashed : Bool) (config : Config) (s : State) (op : Operation) where
  -- the view, with the digests of uploads or without
  abbrev view_seen : View
  view_seen = record (true_view config s op) { uploads = map (seen hashed s (is_some (references_in config op))) (touched_by config op).uploads }

  object_is : (n : ℕ) → object_in op.target.resource ≡ Some n
      → unless (is_some (object_in op.target.resource >>= (λ n. option_map (object_row n) (finmap.get s.objects n)))) NotFound ≡ unless (is_some (finmap.get s.objects n)) NotFound
  object_is n at =
      ap (λ o. unless (is_some (o >>= (λ n. option_map (object_row n) (finmap.get s.objects n)))) NotFound) at
      ∙ ap (λ b. unless b NotFound) (has_row (object_row n) (finmap.get s.objects n))

  presence_is : (resource : Resource) → op.target.resource ≡ resource → presence_refusal (in_view view_seen) resource ≡ presence_refusal (looked_up hashed s) resource
  presence_is (Object n) at = object_is n (ap object_in at)
  presence_is (Metadata n) at = object_is n (ap object_in at)
  presence_is (FileSet n) at = object_is n (ap object_in at)
  presence_is (BagList n) at = object_is n (ap object_in at)
  presence_is (File n f) at =
      ap (λ r. unless (is_some (object_in r >>= (λ n. file_in r >>= (λ f. option_map (file_row n f) (file_at s n f))))) NotFound) at
      ∙ ap (λ b. unless b NotFound) (has_row (file_row n f) (file_at s n f))
  presence_is (Upload u) at =
      ap (λ r. let state = upload_in (map (seen hashed s (is_some (references_in config op))) (uploads_looked_up r (references_in config op))) in missing_refusal (live_in state) (is_timed_out state)) at
      ∙ missing_is hashed (is_some (references_in config op)) u (finmap.get s.uploads u) (set.contains s.timed_out u)
  presence_is (BagFile n path) at =
      ap (λ r. unless (option_map_or (λ n. option_map_or (has_bag_path s n) (path_in r) false) (object_in r) false) NotFound) at
  presence_is _ at = refl

  tag_is : (resource : Resource) → op.target.resource ≡ resource → tag_seen view_seen resource ≡ tag_at s resource
  tag_is (Object n) at =
      ap (λ r. option_map (λ (row : ObjectRow). row.object_tag) (object_in r >>= (λ n. option_map (object_row n) (finmap.get s.objects n)))) at
      ∙ tag_of (object_row n) (λ (row : ObjectRow). row.object_tag) (finmap.get s.objects n)
  tag_is (Metadata n) at =
      ap (λ r. option_map (λ (row : ObjectRow). row.metadata_tag) (object_in r >>= (λ n. option_map (object_row n) (finmap.get s.objects n)))) at
      ∙ tag_of (object_row n) (λ (row : ObjectRow). row.metadata_tag) (finmap.get s.objects n)
  tag_is (FileSet n) at =
      ap (λ r. option_map (λ (row : ObjectRow). row.files_tag) (object_in r >>= (λ n. option_map (object_row n) (finmap.get s.objects n)))) at
      ∙ tag_of (object_row n) (λ (row : ObjectRow). row.files_tag) (finmap.get s.objects n)
  tag_is (File n f) at =
      ap (λ r. option_map (λ (row : FileRow). row.tag) (object_in r >>= (λ n. file_in r >>= (λ f. option_map (file_row n f) (file_at s n f))))) at
      ∙ tag_of (file_row n f) (λ (row : FileRow). row.tag) (file_at s n f)
  tag_is _ at = refl

  abbrev repeat_in : Resource → Option Kind → Option Bool
  repeat_in resource kind = segment_in resource kind >>= (λ id. finmap.get s.uploads id.upload >>= (λ x. repeats x id.number op.content))

  received_is : (resource : Resource) (k : ℕ) → op.target.resource ≡ resource → content_kind op ≡ Some (of.Segment k)
      → received_refusal (in_view view_seen) resource k op.content ≡ received_refusal (looked_up hashed s) resource k op.content
  received_is (Upload u) k at for =
      (λ i. option_and_then (λ (l : LiveUpload). segment_by l.row.count (row_length l.row k) (repeat_in (at i) (for i)) k op.content)
      (live_in (upload_in (map (seen hashed s (is_some (references_in config op))) (uploads_looked_up (at i) (references_in config op))))))
      ∙ segment_is hashed (is_some (references_in config op)) u (finmap.get s.uploads u) (set.contains s.timed_out u) k op.content
  received_is _ k at for = refl

  document_for : (o : Option Kind) → content_kind op ≡ o → option_and_then (document_refusal config (in_view view_seen) op) o ≡ option_and_then (document_refusal config (looked_up hashed s) op) o
  document_for (Some of.References) is =
      references_reported hashed s view_seen (references_in config op)
      (ap (map (seen hashed s (is_some (references_in config op)))) (by_reference_elsewhere config op is))
  document_for _ is = refl

  size_for : (o : Option Kind) → content_kind op ≡ o → option_and_then (size_refusal config (in_view view_seen) op) o ≡ option_and_then (size_refusal config (looked_up hashed s) op) o
  size_for (Some (of.Segment k)) is = received_is op.target.resource k refl is
  size_for _ is = refl

  access_is : access_refusal config (in_view view_seen) op ≡ access_refusal config (looked_up hashed s) op
  unfolding access_refusal presence_rule tag_rule
  access_is =
      let presence = presence_is op.target.resource refl in
      let tag = tag_is op.target.resource refl in
      (λ i. first_of (behalf_rule config op ∷ presence i
      ∷ (if reads_alone op.target.resource op.target.method then None else tag_refusal config.require_if_match op.if_match (tag i)) ∷ []))

  content_is : content_refusal config (in_view view_seen) op ≡ content_refusal config (looked_up hashed s) op
  unfolding content_refusal content_by document_rule size_rule
  content_is =
      let document = document_for (content_kind op) refl in
      let size = size_for (content_kind op) refl in
      (λ i. if has_content op.target.method then first_of (fields_refusal op ∷ digest_rule op ∷ document i ∷ size i ∷ []) else None)

  room_is : room_rule config (in_view view_seen) op ≡ room_rule config (looked_up hashed s) op
  unfolding room_rule
  room_is = refl

  seen_by_parts : refusal_before_room config (in_view view_seen) op ≡ refusal_before_room config (looked_up hashed s) op
  seen_by_parts = (λ i. first_of (access_is i ∷ content_is i ∷ []))

module _ (config : Config) (s : State) (op : Operation) where
  seen_truly : refusal_by config (in_view (true_view config s op)) op ≡ refusal config s op
  unfolding refusal_by
  seen_truly = (λ i. first_of (access_is true config s op i ∷ content_is true config s op i ∷ room_is true config s op i ∷ []))

  -- what is refused by a view without digests is so in the state
  pub seen_undigested_truly : refusal_before_room config (in_view (undigested_view config s op)) op ≡ refusal_before_room config (without_digests (in_state s)) op
  seen_undigested_truly = seen_by_parts false config s op

  reported : (ruling : Ruling) → IsSeen config (true_view config s op) op ruling → IsRuling config s op ruling
  reported (Refuse r) is = sym seen_truly ∙ is
  reported (Do d) is = (sym seen_truly ∙ is.0, is.1)

-- ---- before any upload that references name is looked up

no_entries : (refs : List Reference) → entries_seen refs [] ≡ []
unfolding entries_seen
no_entries [] = refl
no_entries (r ∷ refs) = one_more r.target (no_entries refs)
  where
    one_more : (t : Pointed) → entries_seen refs [] ≡ [] → entry_before (entries_seen refs) r t [] ≡ []
    one_more Elsewhere later = later
    one_more (AnUpload u) later = later

module _ (config : Config) (s : State) (op : Operation) (is : content_kind op ≡ Some of.References) where
  abbrev head_only : View
  head_only = unnamed_view config s op

  presence_head_only : (resource : Resource) → op.target.resource ≡ resource → presence_refusal (in_view head_only) resource ≡ presence_refusal (in_view (true_view config s op)) resource
  presence_head_only (Upload u) at = absurd (not_to_upload op u is at)
  presence_head_only _ at = refl

  tag_head_only : (resource : Resource) → tag_seen head_only resource ≡ tag_seen (true_view config s op) resource
  tag_head_only (Object n) = refl
  tag_head_only _ = refl

  access_head_only : access_refusal config (in_view head_only) op ≡ access_refusal config (in_view (true_view config s op)) op
  unfolding access_refusal presence_rule tag_rule
  access_head_only =
      let presence = presence_head_only op.target.resource refl in
      let tag = tag_head_only op.target.resource in
      (λ i. first_of (behalf_rule config op ∷ presence i
      ∷ (if reads_alone op.target.resource op.target.method then None else tag_refusal config.require_if_match op.if_match (tag i)) ∷ []))

  entries_head_only : (refs : List Reference) → entries_refusal (in_view head_only) refs ≡ entries_refusal (without_entries (in_state s)) refs
  unfolding entries_refusal
  entries_head_only refs =
      let none = no_entries refs in
      (λ i. first_of
      (each (λ (r : Reference). unless (is_some (upload_number r.target)) ByReferenceNotAllowed) refs
      ∷ each (λ (r : Reference). unless (is_binary r.packaging) PackagingFormatNotAcceptable) refs
      ∷ when (occurs_twice (uploads_named refs)) BadRequest
      ∷ each there_refusal (none i) ∷ each (whole_refusal known_live) (none i) ∷ each (length_refusal known_live) (none i) ∷ each (digests_refusal known_live) (none i) ∷ []))

  references_head_only : (o : Option (List Reference)) → references_refusal (in_view head_only) o ≡ references_refusal (without_entries (in_state s)) o
  references_head_only None = refl
  references_head_only (Some refs) = entries_head_only refs

  document_head_only : (o : Option Kind) → o ≡ Some of.References → option_and_then (document_refusal config (in_view head_only) op) o ≡ option_and_then (document_refusal config (without_entries (in_state s)) op) o
  document_head_only (Some of.References) e = references_head_only (references_in config op)
  document_head_only _ e = absurd (cc e)

  size_head_only : (o : Option Kind) → o ≡ Some of.References → option_and_then (size_refusal config (in_view head_only) op) o ≡ option_and_then (size_refusal config (without_entries (in_state s)) op) o
  size_head_only (Some of.References) e = refl
  size_head_only _ e = absurd (cc e)

  content_head_only : content_refusal config (in_view head_only) op ≡ content_refusal config (without_entries (in_state s)) op
  unfolding content_refusal content_by document_rule size_rule
  content_head_only =
      let document = document_head_only (content_kind op) is in
      let size = size_head_only (content_kind op) is in
      (λ i. if has_content op.target.method then first_of (fields_refusal op ∷ digest_rule op ∷ document i ∷ size i ∷ []) else None)

  access_unseen : access_refusal config (without_entries (in_state s)) op ≡ access_refusal config (in_state s) op
  access_unseen = access_same config (in_state s) op (λ refs. []) (in_state s).known.digests

  seen_unnamed_truly : refusal_before_room config (in_view head_only) op ≡ refusal_before_room config (without_entries (in_state s)) op
  seen_unnamed_truly =
      let access = access_head_only ∙ access_is true config s op ∙ sym access_unseen in
      (λ i. first_of (access i ∷ content_head_only i ∷ []))

-- a ruling by what is seen is right in each state that the view tells truly
pub rules_by : (config : Config) (view : View) (op : Operation) (ruling : Ruling) → IsSeen config view op ruling → RulesBy config view op ruling
rules_by config view op ruling is s truly = reported config s op ruling (subst (λ v. IsSeen config v op ruling) truly is)

-- so is what rules 5 to 14 come to by what is seen before any digest is taken
pub refuses_undigested : (config : Config) (view : View) (op : Operation) (refused : Option Refusal) → refused ≡ refusal_before_room config (in_view view) op
    → RefusesUndigested config view op refused
refuses_undigested config view op refused is s truly =
    is ∙ ap (λ v. refusal_before_room config (in_view v) op) truly ∙ seen_undigested_truly config s op

-- and by what is seen before any upload that references name is looked up
pub refuses_unnamed : (config : Config) (view : View) (op : Operation) (refused : Option Refusal) → refused ≡ refusal_before_room config (in_view view) op
    → RefusesUnnamed config view op refused
refuses_unnamed config view op refused is s referred truly =
    is ∙ ap (λ v. refusal_before_room config (in_view v) op) truly ∙ seen_unnamed_truly config s op referred

-- ---- an upload, as it is seen before its digests are taken

pub missing_seen : (by_reference : Bool) (s : State) (u : ℕ) → let state = state_undigested (upload_state by_reference s u) in missing_refusal (live_in state) (is_timed_out state) ≡ upload_refusal (in_state s) u
missing_seen by s u = missing_is false by u (finmap.get s.uploads u) (set.contains s.timed_out u)

pub segments_seen : (s : State) (u : ℕ) → live_segments_refusal (state_undigested (upload_state true s u)) ≡ laws.segments_refusal (in_state s) u
segments_seen s u = ap (λ b. unless b BadRequest) (passes_is (λ l. l.is_whole) false true u (finmap.get s.uploads u) (set.contains s.timed_out u))

-- ---- rulings by what is seen

module _ (config : Config) (view : View) (op : Operation) where
  room_last : (access content room : Option Refusal) → first_of (access ∷ content ∷ room ∷ []) ≡ option_or (first_of (access ∷ content ∷ [])) room
  room_last None None None = refl
  room_last None None (Some r) = refl
  room_last None (Some r) room = refl
  room_last (Some r) content room = refl

  -- the rule on room comes last
  seen_before_room : (before : Option Refusal) → refusal_before_room config (in_view view) op ≡ before → refusal_by config (in_view view) op ≡ option_or before (room_rule config (in_view view) op)
  unfolding refusal_by
  seen_before_room before is =
      room_last (access_refusal config (in_view view) op) (content_refusal config (in_view view) op) (room_rule config (in_view view) op)
      ∙ ap (λ m. option_or m (room_rule config (in_view view) op)) is

  pub refused_before_room : (r : Refusal) → refusal_before_room config (in_view view) op ≡ Some r → IsSeen config view op (Refuse r)
  refused_before_room r before = seen_before_room (Some r) before

  pub ruled_by_room : (ruling : Ruling) → refusal_before_room config (in_view view) op ≡ None → IsRoomRuling config view op ruling → IsSeen config view op ruling
  ruled_by_room (Refuse r) before room = seen_before_room None before ∙ room
  ruled_by_room (Do d) before room = (seen_before_room None before ∙ room.0, room.1)

  passed : (b : Bool) (r : Refusal) → unless b r ≡ None → b ≡ true
  passed true r e = refl
  passed false r e = absurd (cc e)

  room_left : room_rule config (in_view view) op ≡ None → room_for view.next (numbers_for (decision_with view.references op)) ≡ true
  unfolding room_rule
  room_left e = passed _ StoreFull e

  -- what is let through has room
  pub has_room_by : (ruling : Ruling) → IsRoomRuling config view op ruling → HasRoomFor view.next ruling
  has_room_by (Refuse r) room = tt
  has_room_by (Do d) room = ap (λ (x : Decision). room_for view.next (numbers_for x)) room.1 ∙ room_left room.0

  -- what the last rule says, once what is asked for is known
  pub room_reported : (d : Decision) (taken : Counters) (b : Bool) → d ≡ decision_with view.references op → taken ≡ numbers_for d
      → b ≡ room_for view.next taken → room_rule config (in_view view) op ≡ unless b StoreFull
  unfolding room_rule
  room_reported d taken b asked numbers room =
      ap (λ x. unless x StoreFull) (sym (room ∙ ap (room_for view.next) (numbers ∙ ap (λ (x : Decision). numbers_for x) asked)))
