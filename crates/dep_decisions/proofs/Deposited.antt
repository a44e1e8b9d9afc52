-- What is deposited by reference stands in its object as it was assembled, and its upload is gone.
use Rattle.std.proofs.Common.{◌≡◌, ◌∙◌, ℕ, ◌+◌, ◌||◌, Bool, true, false, List, [], length, slice_get, Option, Some, None, is_some, option_map, option_and_then, unwrap_or, refl, sym, ap, subst, if◌then◌else◌}
use Rattle.std.specs.Option.{option_map_or}
use Rattle.std.specs.FinMap as finmap
use Rattle.dep_types.specs.Maps.{Numbered}
use Rattle.dep_types.specs.State as state
use Rattle.dep_types.specs.State.{State, file_at}
use Rattle.dep_types.specs.Uploads.{assembled}
use Rattle.dep_types.specs.Sound.{IsSound}
use Rattle.dep_types.specs.declared.config.Config.{Config}
use Rattle.dep_types.specs.declared.refusal.Refusal.TheVariants.{NotFound}
use Rattle.dep_types.specs.declared.target.Resource.{Resource}
use Rattle.dep_types.specs.declared.target.Resource.TheVariants.{Service, Object, FileSet}
use Rattle.dep_types.specs.declared.target.Method.{Method}
use Rattle.dep_types.specs.declared.target.Method.TheVariants.{Get, Post, Put}
use Rattle.dep_types.proofs.Kept.{get-insert_same}
use Rattle.dep_fixity.specs.Fixity.{digests_of, keeps}
use Rattle.dep_params.proofs.Runs.{and_both}
use Rattle.dep_fields.specs.declared.kind.Kind.{Kind}
use Rattle.dep_fields.specs.declared.kind.Kind.TheVariants as of
use Rattle.dep_docs_in.specs.declared.reference.Reference.{Reference}
use Rattle.dep_decisions.specs.Kinds.{is_completion, content_kind, takes_kind}
use Rattle.dep_decisions.specs.Decisions.{appended_or_completed, assembled_file, decision_at, decision_with, deposit_by, deposit_of, files_of, ingests, references_by, references_in, referred_files}
use Rattle.dep_decisions.specs.LookUps.{has_object, in_state, promised_of}
use Rattle.dep_decisions.specs.Rules.{document_refusal, document_rule, presence_rule, entries_refusal, presence_refusal, references_refusal, refusal, unless}
use Rattle.dep_decisions.specs.Effects.{files_added, appended, at, effect, effect_of, file_from, filled, ingested_by, uploads_of, with_other_files, without}
use Rattle.dep_decisions.specs.declared.operation.Operation.{Operation}
use Rattle.dep_decisions.specs.declared.decision.NewFile.{NewFile}
use Rattle.dep_decisions.specs.declared.decision.Deposit.{Deposit}
use Rattle.dep_decisions.specs.declared.decision.Deposit.TheVariants.{Files}
use Rattle.dep_decisions.specs.declared.decision.Decision.{Decision}
use Rattle.dep_decisions.specs.declared.decision.Decision.TheVariants.{Show, Create, Append, Complete, Replace, SetFiles}
use Rattle.dep_decisions.specs.Laws.{IsDepositedFrom, deposited_object}
use Rattle.dep_decisions.proofs.FoundInMaps.{at-some}
use Rattle.dep_decisions.proofs.InOrder.{added-at}
use Rattle.dep_decisions.proofs.Lengths.{assembled_length}
use Rattle.dep_decisions.proofs.Passed.{content_passed, presence_passed}
use Rattle.dep_decisions.proofs.Referred.{IsReferred, all_known, file_in_place, referred, used_up}
use Rattle.dep_decisions.proofs.Taken.{content_taken, taken, uncompleted}

-- ---- the kind

kind_read_as : (config : Config) (op : Operation) (refs : List Reference) (o : Option Kind) → references_by config op o ≡ Some refs → o ≡ Some of.References
kind_read_as config op refs (Some of.References) e = refl
kind_read_as config op refs _ e = cc e

pub kind_is : (config : Config) (op : Operation) (refs : List Reference) → references_in config op ≡ Some refs → content_kind op ≡ Some of.References
unfolding references_in
kind_is config op refs e = kind_read_as config op refs (content_kind op) e

-- ---- the file

record HasIt (s t : State) (n : ℕ) (file : state.File) (u : ℕ) (number : ℕ) : Type 0 where
  at_number : file_at t n number ≡ Some file
  gone : finmap.get t.uploads u ≡ None

some_object : (o : Option state.Object) → unless (is_some o) NotFound ≡ None → (x : state.Object) × (o ≡ Some x)
some_object (Some x) e = (x, refl)
some_object None e = cc e

module _ (s : State) (op : Operation) (refs : Option (List Reference)) (new : List NewFile) (i u : ℕ) (one : NewFile)
    (placed : slice_get new i ≡ Some one) (up : finmap.get (without s.uploads (uploads_of new)) u ≡ None)
    (deposits : deposit_of refs op ≡ Some (Files new)) (whole : is_completion op ≡ false) where
  file : state.File
  file = file_from s op.content one

  files_at : (n : ℕ) (o : state.Object) (m : Numbered state.Object) → finmap.get m n ≡ Some o → finmap.get o.files (s.next.file + i) ≡ Some (file_from s op.content one)
      → option_and_then (λ (x : state.Object). finmap.get x.files (s.next.file + i)) (finmap.get m n) ≡ Some (file_from s op.content one)
  files_at n o m there has = ap (option_and_then (λ (x : state.Object). finmap.get x.files (s.next.file + i))) there ∙ has

  new_at : (old : Numbered state.File) → finmap.get (files_added s op.content new old) (s.next.file + i) ≡ Some (file_from s op.content one)
  new_at old = added-at s.next.file s op.content new old i one placed

  object_at : (n : ℕ) → unless (has_object s n) NotFound ≡ None → (o : state.Object) × (finmap.get s.objects n ≡ Some o)
  object_at n e = some_object (finmap.get s.objects n) e

  changed_at : (n : ℕ) (f : state.Object → state.Object) (o : state.Object) → finmap.get s.objects n ≡ Some o → finmap.get (at s.objects n f) n ≡ Some (f o)
  changed_at n f o there = ap (λ (m : Numbered state.Object). finmap.get m n) (at-some s.objects n f o there) ∙ get-insert_same s.objects n (f o)

  abbrev Has : Decision → ℕ → Type 0
  Has d n = HasIt s (effect_of s op.content d) n (file_from s op.content one) u (s.next.file + i)

  created : (ingests : Bool) → Has (Create (Files new) ingests) s.next.object
  created ingests = record {
    at_number = files_at s.next.object (filled s op.content (Files new) ingests) (finmap.insert s.objects s.next.object (filled s op.content (Files new) ingests))
        (get-insert_same s.objects s.next.object (filled s op.content (Files new) ingests)) (new_at finmap.empty);
    gone = up;
  }

  added_to : (n : ℕ) (ingests : Bool) → ((o : state.Object) × (finmap.get s.objects n ≡ Some o)) → Has (Append n (Files new) ingests) n
  added_to n ingests o = record {
    at_number = files_at n (ingested_by ingests (appended s op.content (Files new) o.0)) (at s.objects n (λ o. ingested_by ingests (appended s op.content (Files new) o)))
        (changed_at n (λ o. ingested_by ingests (appended s op.content (Files new) o)) o.0 o.1) (new_at o.0.files);
    gone = up;
  }

  in_place_of : (n : ℕ) (ingests : Bool) → ((o : state.Object) × (finmap.get s.objects n ≡ Some o)) → Has (Replace n (Files new) ingests) n
  in_place_of n ingests o = record {
    at_number = files_at n (filled s op.content (Files new) (o.0.ingested || ingests)) (at s.objects n (λ o. filled s op.content (Files new) (o.ingested || ingests)))
        (changed_at n (λ o. filled s op.content (Files new) (o.ingested || ingests)) o.0 o.1) (new_at finmap.empty);
    gone = up;
  }

  set_to : (n : ℕ) → ((o : state.Object) × (finmap.get s.objects n ≡ Some o)) → Has (SetFiles n new) n
  set_to n o = record {
    at_number = files_at n (with_other_files s (files_added s op.content new finmap.empty) o.0) (at s.objects n (with_other_files s (files_added s op.content new finmap.empty)))
        (changed_at n (with_other_files s (files_added s op.content new finmap.empty)) o.0 o.1) (new_at finmap.empty);
    gone = up;
  }

  not_completed : (n : ℕ) → appended_or_completed refs op n ≡ Some (Append n (Files new) (ingests op))
  not_completed n =
      ap (λ (b : Bool). if b then Some (Complete n) else option_map (λ d. Append n d (ingests op)) (deposit_of refs op)) whole
      ∙ ap (λ (o : Option Deposit). option_map (λ d. Append n d (ingests op)) o) deposits

  by_case : (resource : Resource) (method : Method) → takes_kind resource method of.References ≡ true → presence_refusal (in_state s) resource ≡ None
      → Has (unwrap_or (decision_at refs op resource method) Show) (deposited_object s resource)
  by_case Service Post h there = subst (λ (o : Option Deposit). Has (unwrap_or (option_map (λ d. Create d (ingests op)) o) Show) s.next.object) (sym deposits) (created (ingests op))
  by_case (Object n) Post h there = subst (λ (o : Option Decision). Has (unwrap_or o Show) n) (sym (not_completed n)) (added_to n (ingests op) (object_at n there))
  by_case (Object n) Put h there = subst (λ (o : Option Deposit). Has (unwrap_or (option_map (λ d. Replace n d (ingests op)) o) Show) n) (sym deposits) (in_place_of n (ingests op) (object_at n there))
  by_case (FileSet n) Put h there = subst (λ (o : Option Deposit). Has (unwrap_or (option_map (λ files. SetFiles n files) (option_and_then files_of o)) Show) n) (sym deposits) (set_to n (object_at n there))
  by_case _ Get h there = cc h
  by_case _ _ h there = cc h

-- ---- the deposit

deposits_by : (refs : Option (List Reference)) (op : Operation) (entries : List Reference) → refs ≡ Some entries → content_kind op ≡ Some of.References
    → deposit_of refs op ≡ Some (Files (referred_files op entries))
unfolding deposit_of
deposits_by refs op entries is kind =
    ap (λ (o : Option Kind). option_and_then (deposit_by refs op) o) kind
    ∙ ap (λ (o : Option (List Reference)). option_map (λ entries. Files (referred_files op entries)) o) is

module _ (config : Config) (s : State) (op : Operation) (refs : List Reference) (read : references_in config op ≡ Some refs) where
  kind : content_kind op ≡ Some of.References
  kind = kind_is config op refs read

  document : document_rule config (in_state s) op ≡ None → entries_refusal (in_state s) refs ≡ None
  unfolding document_rule
  document e =
      ap (references_refusal (in_state s)) (sym read)
      ∙ ap (λ (o : Option Kind). option_and_then (document_refusal config (in_state s) op) o) (sym kind)
      ∙ e

  passed : refusal config s op ≡ None → (presence_rule (in_state s) op ≡ None) × (document_rule config (in_state s) op ≡ None)
  passed e =
      (presence_passed config (in_state s) op e, (content_passed config (in_state s) op e (content_taken op of.References kind)).document)

  present : presence_rule (in_state s) op ≡ None → presence_refusal (in_state s) op.target.resource ≡ None
  unfolding presence_rule
  present e = e

  has_it : (r : Reference) (i : ℕ) → refusal config s op ≡ None → slice_get refs i ≡ Some r → (is : IsReferred s r)
      → HasIt s (effect config s op) (deposited_object s op.target.resource) (file_from s op.content (assembled_file op r is.upload)) is.upload (s.next.file + i)
  unfolding effect decision_with
  has_it r i accepted at is =
      let both = passed accepted in
      let placed = file_in_place op r is.upload is.number refs i (all_known s refs (document both.1)) at in
      by_case s op (references_in config op) (referred_files op refs) i is.upload (assembled_file op r is.upload) placed
      (used_up s.uploads (referred_files op refs) i (assembled_file op r is.upload) is.upload placed refl)
      (deposits_by (references_in config op) op refs read kind) (uncompleted op of.References kind)
      op.target.resource op.target.method (taken op of.References kind) (present both.0)

  content_is : (u : ℕ) (was : state.Upload) → finmap.get s.uploads u ≡ Some was → option_map_or assembled (finmap.get s.uploads u) [] ≡ assembled was
  content_is u was there = ap (λ (o : Option state.Upload). option_map_or assembled o []) there

  pub deposited : (r : Reference) (i : ℕ) → IsSound s → refusal config s op ≡ None → slice_get refs i ≡ Some r
      → (file : state.File) × (file_at (effect config s op) (deposited_object s op.target.resource) (s.next.file + i) ≡ Some file) × IsDepositedFrom s (effect config s op) r file
  deposited r i sound accepted at =
      let is = referred s refs i r (document (passed accepted).1) at in
      let has = has_it r i accepted at is in
      let bytes = content_is is.upload is.was is.there in
      let kept = and_both (keeps (promised_of is.was) (digests_of (assembled is.was))) (keeps r.digest (digests_of (assembled is.was))) is.digests in (
        file_from s op.content (assembled_file op r is.upload),
        has.at_number,
        record {
          upload = is.upload;
          target = is.target;
          was = is.was;
          there = is.there;
          content = bytes;
          size = ap length bytes ∙ assembled_length s is.upload is.was (sound.uploads is.upload is.was is.there) is.complete;
          said = is.length;
          promised = ap (λ (c : List ℕ). keeps (promised_of is.was) (digests_of c)) bytes ∙ kept.0;
          digest = ap (λ (c : List ℕ). keeps r.digest (digests_of c)) bytes ∙ kept.1;
          name = refl;
          media = refl;
          by_reference = refl;
          gone = has.gone;
        },
      )
