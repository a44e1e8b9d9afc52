-- What an accepted request asks for may be carried out, so that it keeps a sound state sound.
use Rattle.std.proofs.Common.{◌≡◌, ◌∙◌, ℕ, ◌&&◌, nat_le, nat_lt, Bool, true, false, List, [], ◌∷◌, Option, Some, None, is_some, option_map, option_and_then, unwrap_or, IsTrue, refl, sym, ap, subst, if◌then◌else◌}
use Rattle.std.specs.List.{AllByRecursion, cons_option}
use Rattle.dep_types.specs.State.{State, Texts, file_at}
use Rattle.dep_types.specs.Names.{is_media}
use Rattle.dep_types.specs.Uploads.{sizes_agree}
use Rattle.dep_types.specs.Sound.{IsSound}
use Rattle.dep_types.specs.declared.config.Config.{Config}
use Rattle.dep_types.specs.declared.refusal.Refusal.TheVariants.{NotFound, MaxAssembledSizeExceeded, SegmentLimitExceeded, InvalidSegmentSize}
use Rattle.dep_types.specs.declared.target.Resource.{Resource}
use Rattle.dep_types.specs.declared.target.Resource.TheVariants.{Service, Object, Metadata, FileSet, File, Staging, Upload}
use Rattle.dep_types.specs.declared.target.Method.{Method}
use Rattle.dep_types.specs.declared.target.Method.TheVariants.{Post, Put, Delete}
use Rattle.dep_params.proofs.Runs.{and_both}
use Rattle.dep_fields.specs.Fit.{AreFit, IfValue, IsFitKind}
use Rattle.dep_fields.specs.declared.field.Field.{Field}
use Rattle.dep_fields.specs.declared.field.Field.TheVariants.{Absent, Bad, Value}
use Rattle.dep_fields.specs.declared.kind.Kind.{Kind}
use Rattle.dep_fields.specs.declared.kind.Kind.TheVariants as of
use Rattle.dep_fields.specs.declared.kind.Opening.{Opening}
use Rattle.dep_docs_in.specs.Documents.{default_media, metadata_read, references_read}
use Rattle.dep_docs_in.specs.Fit.{IsFitReference}
use Rattle.dep_docs_in.specs.declared.reference.Reference.{Reference}
use Rattle.dep_docs_in.proofs.FitDocuments.{metadata-fit, references-fit, nothing-kept}
use Rattle.dep_decisions.specs.Kinds.{content_kind, kind_by, kind_without, is_completion, may_hold, takes_kind}
use Rattle.dep_decisions.specs.Decisions.{assembled_file, decision, decision_at, decision_with, deposit_by, deposit_of, files_of, ingests, opened, posted_file, received, referred_files, references_by, references_in, replaced_file, texts_of, upload_number, field_value}
use Rattle.dep_decisions.specs.LookUps.{in_state}
use Rattle.dep_decisions.specs.Rules.{has_content, presence_rule, size_rule, opening_refusal, presence_refusal, received_refusal, refusal, segment_refusal, size_refusal, unless, when}
use Rattle.dep_decisions.specs.Effects.{effect}
use Rattle.dep_decisions.specs.Fit.{IsFitDecision, IsFitDeposit, IsFitFile, AreFitFiles}
use Rattle.dep_decisions.specs.declared.operation.Operation.{Operation}
use Rattle.dep_decisions.specs.declared.decision.NewFile.{NewFile}
use Rattle.dep_decisions.specs.declared.decision.Deposit.{Deposit}
use Rattle.dep_decisions.specs.declared.decision.Deposit.TheVariants as deposit
use Rattle.dep_decisions.specs.declared.decision.Decision.{Decision}
use Rattle.dep_decisions.specs.declared.decision.Decision.TheVariants.{Show, Create, Append, Replace, Complete, SetMetadata, SetFiles}
use Rattle.dep_decisions.proofs.FoundInMaps.{all_passed, unless-none}
use Rattle.dep_decisions.proofs.SoundEffects.{decision_sound}
use Rattle.dep_decisions.proofs.Passed.{content_passed, has_room, presence_passed}

-- ---- kinds

held_kind : (b : Bool) (k kind : Kind) → IsFitKind k → (if b then Some k else None) ≡ Some kind → IsFitKind kind
held_kind true k kind fit h = let same : k ≡ kind = cc h in subst IsFitKind same fit
held_kind false k kind fit h = cc h

without_kind : (resource : Resource) (method : Method) (kind : Kind) → kind_without resource method ≡ Some kind → IsFitKind kind
without_kind (Metadata n) Put kind h = let same : of.Metadata ≡ kind = cc h in subst IsFitKind same tt
without_kind _ _ kind h = cc h

by_fit : (op : Operation) (field : Field Kind) (kind : Kind) → IfValue field IsFitKind → kind_by op field ≡ Some kind → IsFitKind kind
by_fit op (Value k) kind fit h = held_kind (takes_kind op.target.resource op.target.method k && may_hold k op.content) k kind fit h
by_fit op Bad kind fit h = cc h
by_fit op Absent kind fit h = without_kind op.target.resource op.target.method kind h

kind_fit : (op : Operation) (kind : Kind) → AreFit op.fields → content_kind op ≡ Some kind → IsFitKind kind
unfolding content_kind
kind_fit op kind fit h = by_fit op op.fields.disposition kind fit.kind h

-- ---- deposits

media_fit : (field : Field (List ℕ)) → IfValue field (λ text. IsTrue (is_media text)) → IsTrue (is_media (unwrap_or (field_value field) default_media))
media_fit (Value text) fit = fit
media_fit Bad fit = refl
media_fit Absent fit = refl

posted_fit : (op : Operation) (name : List ℕ) → AreFit op.fields → IsFitKind (of.File name) → IsFitFile (posted_file op name)
posted_fit op name fit good = (good, media_fit op.fields.content_type fit.media)

-- a deposit that there is fits
abbrev Fits : Option Deposit → Type 0
Fits None = Unit {0}
Fits (Some d) = IsFitDeposit d

metadata_fits : (content : List ℕ) (o : Option Texts) → metadata_read content ≡ o → Fits (option_map (λ texts. deposit.Metadata texts) o)
metadata_fits content None h = tt
metadata_fits content (Some texts) h = metadata-fit content texts h

-- references that there are fit
abbrev AreFitReferences : Option (List Reference) → Type 0
AreFitReferences None = Unit {0}
AreFitReferences (Some refs) = AllByRecursion IsFitReference refs

assembled_fit : (op : Operation) (r : Reference) (upload : Option ℕ) (more : List NewFile) → IsFitReference r → AreFitFiles more
    → AreFitFiles (cons_option (option_map (assembled_file op r) upload) more)
assembled_fit op r None more fit all = all
assembled_fit op r (Some u) more fit all = (fit, all)

referred_fit : (op : Operation) (refs : List Reference) → AllByRecursion IsFitReference refs → AreFitFiles (referred_files op refs)
referred_fit op [] all = tt
referred_fit op (r ∷ refs) all = assembled_fit op r (upload_number r.target) (referred_files op refs) all.0 (referred_fit op refs all.1)

references_fit : (op : Operation) (o : Option (List Reference)) → AreFitReferences o → Fits (option_map (λ refs. deposit.Files (referred_files op refs)) o)
references_fit op None fit = tt
references_fit op (Some refs) fit = referred_fit op refs fit

read_fit : (base content : List ℕ) (o : Option (List Reference)) → references_read base content ≡ o → AreFitReferences o
read_fit base content None h = tt
read_fit base content (Some refs) h = references-fit base content refs h

references_by_fit : (config : Config) (op : Operation) (o : Option Kind) → AreFitReferences (references_by config op o)
references_by_fit config op (Some of.References) = read_fit config.base op.content (references_read config.base op.content) refl
references_by_fit config op _ = tt

references_in_fit : (config : Config) (op : Operation) → AreFitReferences (references_in config op)
unfolding references_in
references_in_fit config op = references_by_fit config op (content_kind op)

deposit_by_fit : (refs : Option (List Reference)) (op : Operation) (o : Option Kind) → AreFitReferences refs → AreFit op.fields → content_kind op ≡ o
    → Fits (option_and_then (deposit_by refs op) o)
deposit_by_fit refs op (Some (of.File name)) good fit is = (posted_fit op name fit (kind_fit op (of.File name) fit is), tt)
deposit_by_fit refs op (Some of.Metadata) good fit is = metadata_fits op.content (metadata_read op.content) refl
deposit_by_fit refs op (Some of.References) good fit is = references_fit op refs good
deposit_by_fit refs op _ good fit is = tt

deposit_fit : (refs : Option (List Reference)) (op : Operation) → AreFitReferences refs → AreFit op.fields → Fits (deposit_of refs op)
unfolding deposit_of
deposit_fit refs op good fit = deposit_by_fit refs op (content_kind op) good fit refl

-- ---- what is asked for

module _ (s : State) (content : List ℕ) where
  abbrev Good : Option Decision → Type 0
  Good o = IsFitDecision s content (unwrap_or o Show)

  created : (ingested : Bool) (o : Option Deposit) → Fits o → Good (option_map (λ d. Create d ingested) o)
  created ingested None fit = tt
  created ingested (Some d) fit = fit

  appended : (n : ℕ) (complete ingests : Bool) (o : Option Deposit) → Fits o → Good (if complete then Some (Complete n) else option_map (λ d. Append n d ingests) o)
  appended n true ingests o fit = tt
  appended n false ingests None fit = tt
  appended n false ingests (Some d) fit = fit

  replaced : (n : ℕ) (ingests : Bool) (o : Option Deposit) → Fits o → Good (option_map (λ d. Replace n d ingests) o)
  replaced n ingests None fit = tt
  replaced n ingests (Some d) fit = fit

  metadata_set : (n : ℕ) (o : Option Deposit) → Fits o → Good (option_map (λ texts. SetMetadata n texts) (option_and_then texts_of o))
  metadata_set n None fit = tt
  metadata_set n (Some (deposit.Files new)) fit = tt
  metadata_set n (Some (deposit.Metadata texts)) fit = fit

  files_set : (n : ℕ) (o : Option Deposit) → Fits o → Good (option_map (λ files. SetFiles n files) (option_and_then files_of o))
  files_set n None fit = tt
  files_set n (Some (deposit.Files new)) fit = fit
  files_set n (Some (deposit.Metadata texts)) fit = tt

  file_set : (op : Operation) (n f : ℕ) (o : Option Kind) → AreFit op.fields → content_kind op ≡ o → is_some (file_at s n f) ≡ true → Good (option_and_then (replaced_file op n f) o)
  file_set op n f (Some (of.File name)) fit is there = (posted_fit op name fit (kind_fit op (of.File name) fit is), there)
  file_set op n f _ fit is there = tt

opening_sizes : (config : Config) (o : Opening) → opening_refusal config o ≡ None → IsTrue (sizes_agree o.size o.count o.segment_size)
opening_sizes config o e =
    let rows = all_passed
    (when (nat_lt config.max_assembled o.size) MaxAssembledSizeExceeded
    ∷ when (nat_lt config.max_segments o.count) SegmentLimitExceeded
    ∷ unless (nat_le o.segment_size config.max_upload && sizes_agree o.size o.count o.segment_size) InvalidSegmentSize
    ∷ []) e in
    (and_both (nat_le o.segment_size config.max_upload) (sizes_agree o.size o.count o.segment_size) (unless-none _ InvalidSegmentSize rows.1.1.0)).1

module _ (config : Config) (s : State) (op : Operation) (fit : AreFit op.fields) where
  opened_fit : (o : Option Kind) → content_kind op ≡ o → option_and_then (size_refusal config (in_state s) op) o ≡ None → Good s op.content (option_and_then opened o)
  opened_fit (Some (of.Opening o)) is passed = (kind_fit op (of.Opening o) fit is, opening_sizes config o passed)
  opened_fit _ is passed = tt

  received_fit : (u : ℕ) (o : Option Kind) → op.target.resource ≡ Upload u → option_and_then (size_refusal config (in_state s) op) o ≡ None → Good s op.content (option_and_then (received u) o)
  received_fit u (Some (of.Segment k)) at passed = λ upload there.
      ap (option_and_then (λ x. segment_refusal x k op.content)) (sym there)
      ∙ ap (λ r. received_refusal (in_state s) r k op.content) (sym at)
      ∙ passed
  received_fit u _ at passed = tt

  sizes : size_rule config (in_state s) op ≡ None → option_and_then (size_refusal config (in_state s) op) (content_kind op) ≡ None
  unfolding size_rule
  sizes e = e

  file_there : (n f : ℕ) → op.target.resource ≡ File n f → presence_rule (in_state s) op ≡ None → is_some (file_at s n f) ≡ true
  unfolding presence_rule
  file_there n f at e = unless-none (is_some (file_at s n f)) NotFound (ap (presence_refusal (in_state s)) (sym at) ∙ e)

  fits : Fits (deposit_of (references_in config op) op)
  fits = deposit_fit (references_in config op) op (references_in_fit config op) fit

  asked_fit : (resource : Resource) (method : Method) → op.target.resource ≡ resource → op.target.method ≡ method → refusal config s op ≡ None
      → Good s op.content (decision_at (references_in config op) op resource method)
  asked_fit Service Post at by e = created s op.content (ingests op) (deposit_of (references_in config op) op) fits
  asked_fit (Object n) Post at by e = appended s op.content n (is_completion op) (ingests op) (deposit_of (references_in config op) op) fits
  asked_fit (Object n) Put at by e = replaced s op.content n (ingests op) (deposit_of (references_in config op) op) fits
  asked_fit (Metadata n) Put at by e = metadata_set s op.content n (deposit_of (references_in config op) op) fits
  asked_fit (Metadata n) Delete at by e = nothing-kept
  asked_fit (FileSet n) Put at by e = files_set s op.content n (deposit_of (references_in config op) op) fits
  asked_fit (File n f) Put at by e = file_set s op.content op n f (content_kind op) fit refl (file_there n f at (presence_passed config (in_state s) op e))
  asked_fit Staging Post at by e = opened_fit (content_kind op) refl (sizes (content_passed config (in_state s) op e (ap has_content by)).size)
  asked_fit (Upload u) Post at by e = received_fit u (content_kind op) at (sizes (content_passed config (in_state s) op e (ap has_content by)).size)
  asked_fit _ _ at by e = tt

  pub decision_fit : refusal config s op ≡ None → IsFitDecision s op.content (decision config op)
  unfolding decision_with
  decision_fit e = asked_fit op.target.resource op.target.method refl refl e

  -- a request that is accepted keeps a sound state sound
  pub effect_sound : refusal config s op ≡ None → IsSound s → IsSound (effect config s op)
  unfolding effect
  effect_sound e sound = decision_sound s op.content sound (decision config op) (decision_fit e) (has_room config (in_state s) op e)
