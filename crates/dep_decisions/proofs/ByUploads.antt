-- What is refused by what is there of the uploads that references name.
use Rattle.std.proofs.Common.{◌≡◌, ◌∙◌, ℕ, List, [], ◌∷◌, ◌++◌, Option, Some, None, option_map, option_and_then, if◌then◌else◌, refl, sym, ap}
use Rattle.std.specs.List.{cons_option, filter_map}
use Rattle.dep_types.specs.Maps.{first_of}
use Rattle.dep_types.specs.State.{State, Upload}
use Rattle.dep_types.specs.declared.config.Config.{Config}
use Rattle.dep_types.specs.declared.refusal.Refusal.{Refusal}
use Rattle.dep_fields.specs.declared.kind.Kind.{Kind}
use Rattle.dep_fields.specs.declared.kind.Kind.TheVariants as of
use Rattle.dep_docs_in.specs.declared.reference.Reference.{Reference}
use Rattle.dep_docs_in.specs.declared.reference.Pointed.{Pointed}
use Rattle.dep_docs_in.specs.declared.reference.Pointed.TheVariants.{Upload as AnUpload, Elsewhere}
use Rattle.dep_decisions.specs.Decisions.{references_in, upload_number}
use Rattle.dep_decisions.specs.Kinds.{content_kind}
use Rattle.dep_decisions.specs.Laws.{refusal_before_room, segments_refusal, uploads_refusal}
use Rattle.dep_decisions.specs.LookUps.{Entry, LookUps, entry_at, in_state, known_of, without_entries}
use Rattle.dep_decisions.specs.Rules.{access_refusal, content_by, content_refusal, digest_rule, digests_refusal, document_refusal, document_rule, each, entries_refusal, fields_refusal, length_refusal, refusal, references_refusal, refusal_by, room_rule, size_refusal, size_rule, there_refusal, upload_refusal, whole_refusal}
use Rattle.dep_decisions.specs.declared.operation.Operation.{Operation}
use Rattle.dep_decisions.proofs.BeforeDigests.{access_same, before_rest, first_three}
use Rattle.dep_decisions.proofs.Referred.{first_two}
use Rattle.dep_decisions.proofs.Taken.{content_taken}

-- ---- rows that are any

-- what stands behind what passed
behind_passed : (xs ys zs : List (Option Refusal)) → first_of (xs ++ ys) ≡ None → first_of (xs ++ zs) ≡ first_of zs
behind_passed [] ys zs e = refl
behind_passed (None ∷ xs) ys zs e = behind_passed xs ys zs e
behind_passed (Some x ∷ xs) ys zs e = cc e

-- the first of two rows refuses, or passes, as the other does
pub first_same : (a b : Option Refusal) (xs ys : List (Option Refusal)) → a ≡ b → first_of xs ≡ first_of ys → first_of (a ∷ xs) ≡ first_of (b ∷ ys)
first_same a b xs ys e f = ap (λ x. first_of (x ∷ xs)) e ∙ under b
  where
    under : (o : Option Refusal) → first_of (o ∷ xs) ≡ first_of (o ∷ ys)
    under None = f
    under (Some r) = refl

-- ---- the rules by entries, and by the uploads that they name

module _ (s : State) (rule : Entry Upload → Option Refusal) (reported : ℕ → Option Refusal) (same : (r : Reference) (u : ℕ) → rule (entry_at s r u) ≡ reported u) where
  by_name : (refs : List Reference) → each rule ((in_state s).entries refs) ≡ each reported (filter_map (λ (r : Reference). upload_number r.target) refs)
  by_name [] = refl
  by_name (r ∷ refs) = one_more r.target (by_name refs)
    where
      one_more : (t : Pointed) → each rule ((in_state s).entries refs) ≡ each reported (filter_map (λ (r : Reference). upload_number r.target) refs)
          → each rule (cons_option (option_map (entry_at s r) (upload_number t)) ((in_state s).entries refs)) ≡ each reported (cons_option (upload_number t) (filter_map (λ (r : Reference). upload_number r.target) refs))
      one_more Elsewhere later = later
      one_more (AnUpload u) later = first_same _ _ _ _ (same r u) later

module _ {U : Type 0} (config : Config) (l : LookUps U) (op : Operation) (refs : List Reference) (is : content_kind op ≡ Some of.References) (in_op : l.references config op ≡ Some refs) where
  abbrev entries_by : (m : LookUps U) → Option Refusal
  entries_by m = first_of (fields_refusal op ∷ digest_rule op ∷ entries_refusal m refs ∷ None ∷ [])

  content_is : (entries : List Reference → List (Entry U)) → content_refusal config (record l { entries = entries }) op ≡ entries_by (record l { entries = entries })
  unfolding content_refusal content_by document_rule size_rule
  content_is entries =
      let m : LookUps U = record l { entries = entries } in
      ap (λ b. if b then content_by config m op else None) (content_taken op of.References is)
      ∙ ap (λ (k : Option Kind). first_of (fields_refusal op ∷ digest_rule op ∷ option_and_then (document_refusal config m op) k ∷ option_and_then (size_refusal config m op) k ∷ [])) is
      ∙ ap (λ o. first_of (fields_refusal op ∷ digest_rule op ∷ references_refusal m o ∷ None ∷ [])) in_op

  abbrev there : Option Refusal
  there = each there_refusal (l.entries refs)

  abbrev whole : Option Refusal
  whole = each (whole_refusal l.known) (l.entries refs)

  abbrev last_four : List (Option Refusal)
  last_four = there ∷ whole ∷ each (length_refusal l.known) (l.entries refs) ∷ each (digests_refusal l.known) (l.entries refs) ∷ []

  entries_are : (r : Refusal) → entries_refusal (without_entries l) refs ≡ None → first_of (there ∷ whole ∷ []) ≡ Some r → entries_refusal l refs ≡ Some r
  unfolding entries_refusal
  entries_are r passed refused =
      behind_passed (first_three config l op refs) (None ∷ None ∷ None ∷ None ∷ []) last_four passed
      ∙ before_rest (there ∷ whole ∷ []) [] (each (length_refusal l.known) (l.entries refs) ∷ each (digests_refusal l.known) (l.entries refs) ∷ []) r refl refused

  -- passed by the rules that look at no upload, and refused by one of the next two
  pub refused_by_entries : (r : Refusal) → refusal_before_room config (without_entries l) op ≡ None → first_of (there ∷ whole ∷ []) ≡ Some r → refusal_by config l op ≡ Some r
  unfolding refusal_by
  refused_by_entries r passed refused =
      let a = first_two (access_refusal config (without_entries l) op) (content_refusal config (without_entries l) op ∷ []) passed in
      let access = sym (access_same config l op (λ refs. []) l.known.digests) ∙ a.0 in
      let content = sym (content_is (λ refs. [])) ∙ (first_two (content_refusal config (without_entries l) op) [] a.1).0 in
      let fields = first_two (fields_refusal op) (digest_rule op ∷ entries_refusal (without_entries l) refs ∷ None ∷ []) content in
      let digest = first_two (digest_rule op) (entries_refusal (without_entries l) refs ∷ None ∷ []) fields.1 in
      let entries = entries_are r (first_two (entries_refusal (without_entries l) refs) (None ∷ []) digest.1).0 refused in
      let found : content_refusal config l op ≡ Some r = content_is l.entries ∙ (λ i. first_of (fields.0 i ∷ digest.0 i ∷ entries i ∷ None ∷ [])) in
      (λ i. first_of (access i ∷ found i ∷ room_rule config l op ∷ []))

-- the same by the numbers of the uploads
pub refused_by_uploads : (config : Config) (s : State) (op : Operation) (refs : List Reference) (r : Refusal) → content_kind op ≡ Some of.References → references_in config op ≡ Some refs
    → refusal_before_room config (without_entries (in_state s)) op ≡ None → uploads_refusal (in_state s) (filter_map (λ (r : Reference). upload_number r.target) refs) ≡ Some r → refusal config s op ≡ Some r
refused_by_uploads config s op refs r is in_op passed refused =
    let there = by_name s there_refusal (upload_refusal (in_state s)) (λ r u. refl) refs in
    let whole = by_name s (whole_refusal known_of) (segments_refusal (in_state s)) (λ r u. refl) refs in
    refused_by_entries config (in_state s) op refs is in_op r passed ((λ i. first_of (there i ∷ whole i ∷ [])) ∙ refused)
