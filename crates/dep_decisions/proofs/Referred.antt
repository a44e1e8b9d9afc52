-- The files of an accepted deposit by reference.
use Rattle.std.proofs.Common.{◌≡◌, ◌∙◌, ℕ, zero, suc, Bool, true, false, cond, List, [], ◌∷◌, map, slice_get, Option, Some, None, is_some, option_map, refl, sym, ap, subst, if◌then◌else◌}
use Rattle.std.specs.List.{cons_option, filter_map}
use Rattle.std.specs.Option.{option_map_or}
use Rattle.std.specs.Cmp.{nat_cmp_total, tied_itself}
use Rattle.std.specs.Ordering.{is_eq}
use Rattle.std.specs.FinMap as finmap
use Rattle.std.specs.FinSet as set
use Rattle.dep_types.specs.Maps.{Numbered, first_of}
use Rattle.dep_types.specs.State.{State, Upload}
use Rattle.dep_types.specs.Uploads.{assembled, is_complete}
use Rattle.dep_types.specs.declared.refusal.Refusal.{Refusal}
use Rattle.dep_types.specs.declared.refusal.Refusal.TheVariants.{BadRequest, ByReferenceNotAllowed, DigestMismatch, NotFound, PackagingFormatNotAcceptable, SegmentedUploadTimedOut}
use Rattle.dep_fixity.specs.Fixity.{digests_of}
use Rattle.dep_docs_in.specs.declared.reference.Reference.{Reference}
use Rattle.dep_docs_in.specs.declared.reference.Pointed.{Pointed}
use Rattle.dep_docs_in.specs.declared.reference.Pointed.TheVariants.{Upload as AnUpload, Elsewhere}
use Rattle.dep_decisions.specs.Decisions.{assembled_file, referred_files, upload_number}
use Rattle.dep_decisions.specs.LookUps.{Entry, assembled_digests, entry_at, in_state, known_of, promised_of}
use Rattle.dep_decisions.specs.Rules.{digests_refusal, each, entries_refusal, has_digests, has_length, is_binary, length_refusal, occurs_twice, there_refusal, unless, upload_refusal, when, whole_refusal}
use Rattle.dep_decisions.specs.Effects.{upload_of, uploads_of, without}
use Rattle.dep_decisions.specs.declared.operation.Operation.{Operation}
use Rattle.dep_decisions.specs.declared.decision.NewFile.{NewFile}
use Rattle.dep_decisions.proofs.FoundInMaps.{all_passed, unless-none, without-none}
use Rattle.dep_decisions.proofs.Lengths.{some_of}

-- ---- one entry of those that a rule passed

pub first_two : (o : Option Refusal) (rest : List (Option Refusal)) → first_of (o ∷ rest) ≡ None → (o ≡ None) × (first_of rest ≡ None)
first_two None rest e = (refl, e)
first_two (Some r) rest e = cc e

one_passed : {X : Type 0} (rule : X → Option Refusal) (xs : List X) (i : ℕ) (x : X) → each rule xs ≡ None → slice_get xs i ≡ Some x → rule x ≡ None
one_passed rule [] i x e at = cc at
one_passed {X} rule (y ∷ xs) zero x e at =
    let same : y ≡ x = cc at in
    subst (λ (z : X). rule z ≡ None) same (first_two (rule y) (map rule xs) e).0
one_passed rule (y ∷ xs) (suc i) x e at = one_passed rule xs i x (first_two (rule y) (map rule xs) e).1 at

later_passed : {X : Type 0} (rule : X → Option Refusal) (o : Option X) (rest : List X) → each rule (cons_option o rest) ≡ None → each rule rest ≡ None
later_passed rule None rest e = e
later_passed rule (Some x) rest e = (first_two (rule x) (map rule rest) e).1

-- an entry that points at an upload is looked up there
entry_passed : (s : State) (rule : Entry Upload → Option Refusal) (refs : List Reference) (i : ℕ) (r : Reference) (u : ℕ) → each rule ((in_state s).entries refs) ≡ None
    → slice_get refs i ≡ Some r → upload_number r.target ≡ Some u → rule (entry_at s r u) ≡ None
entry_passed s rule [] i r u e at is = cc at
entry_passed s rule (x ∷ refs) zero r u e at is =
    let same : x ≡ r = cc at in
    (first_two (rule (entry_at s r u)) (map rule ((in_state s).entries refs))
    (ap (λ (o : Option ℕ). each rule (cons_option (option_map (entry_at s r) o) ((in_state s).entries refs))) (sym is)
    ∙ ap (λ (y : Reference). each rule (cons_option (option_map (entry_at s y) (upload_number y.target)) ((in_state s).entries refs))) (sym same) ∙ e)).0
entry_passed s rule (x ∷ refs) (suc i) r u e at is =
    entry_passed s rule refs i r u (later_passed rule (option_map (entry_at s x) (upload_number x.target)) ((in_state s).entries refs) e) at is

number_of : (o : Option ℕ) → unless (is_some o) ByReferenceNotAllowed ≡ None → (u : ℕ) × (o ≡ Some u)
number_of (Some u) e = (u, refl)
number_of None e = cc e

pointed_at : (p : Pointed) (u : ℕ) → upload_number p ≡ Some u → p ≡ AnUpload u
pointed_at (AnUpload n) u e = let same : n ≡ u = cc e in ap AnUpload same
pointed_at Elsewhere u e = cc e

there_by : (live gone : Bool) → (if live then None else if gone then Some SegmentedUploadTimedOut else Some NotFound) ≡ None → live ≡ true
there_by true gone e = refl
there_by false true e = cc e
there_by false false e = cc e

pub upload_there : (s : State) (u : ℕ) → upload_refusal (in_state s) u ≡ None → (x : Upload) × (finmap.get s.uploads u ≡ Some x)
upload_there s u e = some_of (finmap.get s.uploads u) (there_by (finmap.contains_key s.uploads u) (set.contains s.timed_out u) e)

passed_by : (test : Upload → Bool) (o : Option Upload) (x : Upload) (refusal : Refusal) → o ≡ Some x → unless (option_map_or test o true) refusal ≡ None → test x ≡ true
passed_by test o x refusal there e = ap (λ (o : Option Upload). option_map_or test o true) (sym there) ∙ unless-none (option_map_or test o true) refusal e

-- what the rules on references let through
pub record IsReferred (s : State) (r : Reference) : Type 0 where
  pub upload : ℕ
  pub number : upload_number r.target ≡ Some upload
  pub target : r.target ≡ AnUpload upload
  pub was : Upload
  pub there : finmap.get s.uploads upload ≡ Some was
  pub complete : is_complete was ≡ true
  pub length : has_length r.length was.size ≡ true
  pub digests : has_digests (promised_of was) r.digest (Some (digests_of (assembled was))) ≡ true

rules_on : (s : State) (refs : List Reference) → List (Option Refusal)
rules_on s refs =
    each (λ (r : Reference). unless (is_some (upload_number r.target)) ByReferenceNotAllowed) refs
    ∷ each (λ (r : Reference). unless (is_binary r.packaging) PackagingFormatNotAcceptable) refs
    ∷ when (occurs_twice (filter_map (λ r. upload_number r.target) refs)) BadRequest
    ∷ each there_refusal ((in_state s).entries refs)
    ∷ each (whole_refusal known_of) ((in_state s).entries refs)
    ∷ each (length_refusal known_of) ((in_state s).entries refs)
    ∷ each (digests_refusal known_of) ((in_state s).entries refs)
    ∷ []

pub all_known : (s : State) (refs : List Reference) → entries_refusal (in_state s) refs ≡ None → each (λ (r : Reference). unless (is_some (upload_number r.target)) ByReferenceNotAllowed) refs ≡ None
unfolding entries_refusal rules_on
all_known s refs e = (all_passed (rules_on s refs) e).0

pub not_twice : (s : State) (refs : List Reference) → entries_refusal (in_state s) refs ≡ None → when (occurs_twice (filter_map (λ r. upload_number r.target) refs)) BadRequest ≡ None
unfolding entries_refusal rules_on
not_twice s refs e = (all_passed (rules_on s refs) e).1.1.0

pub referred : (s : State) (refs : List Reference) (i : ℕ) (r : Reference) → entries_refusal (in_state s) refs ≡ None → slice_get refs i ≡ Some r → IsReferred s r
unfolding entries_refusal rules_on
referred s refs i r e at =
    let rows = all_passed (rules_on s refs) e in
    let number = number_of (upload_number r.target) (one_passed (λ (r : Reference). unless (is_some (upload_number r.target)) ByReferenceNotAllowed) refs i r rows.0 at) in
    let u = number.0 in
    let there = upload_there s u (entry_passed s there_refusal refs i r u rows.1.1.1.0 at number.1) in
    let x = there.0 in
    let whole = passed_by is_complete (finmap.get s.uploads u) x BadRequest there.1 (entry_passed s (whole_refusal known_of) refs i r u rows.1.1.1.1.0 at number.1) in
    record {
      upload = u;
      number = number.1;
      target = pointed_at r.target u number.1;
      was = x;
      there = there.1;
      complete = whole;
      length = passed_by (λ x. has_length r.length x.size) (finmap.get s.uploads u) x BadRequest there.1 (entry_passed s (length_refusal known_of) refs i r u rows.1.1.1.1.1.0 at number.1);
      digests =
          ap (λ (b : Bool). has_digests (promised_of x) r.digest (if b then Some (digests_of (assembled x)) else None)) (sym whole)
          ∙ passed_by (λ x. has_digests (promised_of x) r.digest (assembled_digests x)) (finmap.get s.uploads u) x DigestMismatch there.1
          (entry_passed s (digests_refusal known_of) refs i r u rows.1.1.1.1.1.1.0 at number.1);
    }

-- ---- the files, in their order

abbrev AreKnown : List Reference → Type 0
AreKnown refs = each (λ (r : Reference). unless (is_some (upload_number r.target)) ByReferenceNotAllowed) refs ≡ None

module _ (op : Operation) (r : Reference) (u : ℕ) (is : upload_number r.target ≡ Some u) where
  first_placed : (x : Reference) (refs : List Reference) (i : ℕ) (v : ℕ) → upload_number x.target ≡ Some v → slice_get (x ∷ refs) i ≡ Some r
      → ((j : ℕ) → slice_get refs j ≡ Some r → slice_get (referred_files op refs) j ≡ Some (assembled_file op r u))
      → slice_get (assembled_file op x v ∷ referred_files op refs) i ≡ Some (assembled_file op r u)
  first_placed x refs zero v has at later =
      let same : x ≡ r = cc at in
      let one : Some v ≡ Some u = sym has ∙ ap (λ (y : Reference). upload_number y.target) same ∙ is in
      let number : v ≡ u = cc one in
      ap (λ (y : Reference). Some (assembled_file op y v)) same ∙ ap (λ (n : ℕ). Some (assembled_file op r n)) number
  first_placed x refs (suc i) v has at later = later i at

  pub file_in_place : (refs : List Reference) (i : ℕ) → AreKnown refs → slice_get refs i ≡ Some r → slice_get (referred_files op refs) i ≡ Some (assembled_file op r u)
  file_in_place [] i known at = cc at
  file_in_place (x ∷ refs) i known at =
      let both = first_two (unless (is_some (upload_number x.target)) ByReferenceNotAllowed) (map (λ r. unless (is_some (upload_number r.target)) ByReferenceNotAllowed) refs) known in
      let first = number_of (upload_number x.target) both.0 in
      ap (λ (o : Option ℕ). slice_get (cons_option (option_map (assembled_file op x) o) (referred_files op refs)) i) first.1
      ∙ first_placed x refs i first.0 first.1 at (λ j there. file_in_place refs j both.1 there)

-- ---- the uploads are gone

removed : (m : Numbered Upload) (u : ℕ) → finmap.get (finmap.remove m u) u ≡ None
removed m u = finmap.get-remove nat_cmp_total m u u ∙ ap (λ r. cond (is_eq r) None (finmap.get m u)) (tied_itself nat_cmp_total u)

some_removed : (more : List ℕ) (o : Option ℕ) (u : ℕ) (m : Numbered Upload) → ((n : Numbered Upload) → finmap.get (without n more) u ≡ None)
    → finmap.get (without m (cons_option o more)) u ≡ None
some_removed more None u m each = each m
some_removed more (Some v) u m each = each (finmap.remove m v)

pub used_up : (m : Numbered Upload) (new : List NewFile) (i : ℕ) (file : NewFile) (u : ℕ) → slice_get new i ≡ Some file → upload_of file.source ≡ Some u
    → finmap.get (without m (uploads_of new)) u ≡ None
used_up m [] i file u at is = cc at
used_up m (x ∷ more) zero file u at is =
    let same : x ≡ file = cc at in
    ap (λ (o : Option ℕ). finmap.get (without m (cons_option o (uploads_of more))) u) (ap (λ (y : NewFile). upload_of y.source) same ∙ is)
    ∙ without-none (finmap.remove m u) (uploads_of more) u (removed m u)
used_up m (x ∷ more) (suc i) file u at is = some_removed (uploads_of more) (upload_of x.source) u m (λ n. used_up n more i file u at is)
