-- What is refused before all that is known of uploads.
use Rattle.std.proofs.Common.{◌≡◌, ◌≢◌, ◌∙◌, Bool, true, false, List, [], ◌∷◌, ◌++◌, map, Option, Some, None, is_some, option_and_then, if◌then◌else◌, refl, sym, ap}
use Rattle.std.specs.List.{filter_map}
use Rattle.std.specs.Option.{option_map_or}
use Rattle.dep_types.specs.Maps.{first_of}
use Rattle.dep_types.specs.declared.config.Config.{Config}
use Rattle.dep_types.specs.declared.refusal.Refusal.{Refusal}
use Rattle.dep_types.specs.declared.refusal.Refusal.TheVariants.{BadRequest, ByReferenceNotAllowed, DigestMismatch, PackagingFormatNotAcceptable}
use Rattle.dep_fixity.specs.declared.hasher.Digests.{Digests}
use Rattle.dep_fields.specs.declared.kind.Kind.{Kind}
use Rattle.dep_fields.specs.declared.kind.Kind.TheVariants as of
use Rattle.dep_docs_in.specs.declared.reference.Reference.{Reference}
use Rattle.dep_decisions.specs.Decisions.{upload_number}
use Rattle.dep_decisions.specs.Kinds.{content_kind}
use Rattle.dep_decisions.specs.Laws.{refusal_before_room}
use Rattle.dep_decisions.specs.LookUps.{Entry, LookUps, without_digests, without_entries}
use Rattle.dep_decisions.specs.Rules.{access_refusal, content_by, content_refusal, digest_rule, digests_refusal, document_refusal, document_rule, each, entries_refusal, fields_refusal, has_content, is_binary, length_refusal, presence_rule, references_refusal, refusal_by, room_rule, size_refusal, size_rule, occurs_twice, tag_rule, there_refusal, unless, when, whole_refusal}
use Rattle.dep_decisions.specs.declared.operation.Operation.{Operation}

-- ---- rows that are any

-- whatever stands behind what refuses
pub before_rest : (xs ys zs : List (Option Refusal)) (r : Refusal) → first_of ys ≡ None → first_of (xs ++ ys) ≡ Some r → first_of (xs ++ zs) ≡ Some r
before_rest [] ys zs r none e = let both = sym none ∙ e in absurd (cc both)
before_rest (None ∷ xs) ys zs r none e = before_rest xs ys zs r none e
before_rest (Some x ∷ xs) ys zs r none e = e

behind : (a b : Option Refusal) (xs ys : List (Option Refusal)) (r : Refusal) → (first_of xs ≡ Some r → first_of ys ≡ Some r)
    → first_of (a ∷ b ∷ xs) ≡ Some r → first_of (a ∷ b ∷ ys) ≡ Some r
behind (Some x) b xs ys r f e = e
behind None (Some x) xs ys r f e = e
behind None None xs ys r f e = f e

first_or : (a c d m : Option Refusal) (r : Refusal) → (c ≡ Some r → d ≡ Some r) → first_of (a ∷ c ∷ []) ≡ Some r → first_of (a ∷ d ∷ m ∷ []) ≡ Some r
first_or (Some x) c d m r f e = e
first_or None None d m r f e = cc e
first_or None (Some x) d m r f e = ap (λ o. first_of (o ∷ m ∷ [])) (f e)

pub single : (o : Option Refusal) → first_of (o ∷ None ∷ []) ≡ o
single None = refl
single (Some r) = refl

-- ---- where less is known of uploads

module _ {U : Type 0} (config : Config) (l : LookUps U) (op : Operation) (entries : List Reference → List (Entry U)) (digests : U → Option Digests) where
  abbrev less : LookUps U
  less = record l { entries = entries; known = record l.known { digests = digests } }

  pub access_same : access_refusal config less op ≡ access_refusal config l op
  unfolding access_refusal presence_rule tag_rule
  access_same = refl

  module _ (before : (refs : List Reference) (r : Refusal) → entries_refusal less refs ≡ Some r → entries_refusal l refs ≡ Some r) where
    references_before : (o : Option (List Reference)) (r : Refusal) → references_refusal less o ≡ Some r → references_refusal l o ≡ Some r
    references_before None r e = e
    references_before (Some refs) r e = before refs r e

    -- rules 13 and 14
    last_two : (o : Option Kind) (r : Refusal)
        → first_of (option_and_then (document_refusal config less op) o ∷ option_and_then (size_refusal config less op) o ∷ []) ≡ Some r
        → first_of (option_and_then (document_refusal config l op) o ∷ option_and_then (size_refusal config l op) o ∷ []) ≡ Some r
    last_two (Some of.References) r e =
        single (references_refusal l (l.references config op))
        ∙ references_before (l.references config op) r (sym (single (references_refusal less (l.references config op))) ∙ e)
    last_two _ r e = e

    content_before : (r : Refusal) → content_by config less op ≡ Some r → content_by config l op ≡ Some r
    unfolding content_by document_rule size_rule
    content_before r e = behind (fields_refusal op) (digest_rule op) _ _ r (last_two (content_kind op) r) e

    if_content : (b : Bool) (r : Refusal) → (if b then content_by config less op else None) ≡ Some r → (if b then content_by config l op else None) ≡ Some r
    if_content true r e = content_before r e
    if_content false r e = e

    -- what is refused then is refused so
    refused_less : (r : Refusal) → refusal_before_room config less op ≡ Some r → refusal_by config l op ≡ Some r
    unfolding refusal_by content_refusal
    refused_less r e =
        first_or (access_refusal config l op) (content_refusal config less op) (content_refusal config l op) (room_rule config l op) r
        (if_content (has_content op.target.method) r)
        (ap (λ a. first_of (a ∷ content_refusal config less op ∷ [])) (sym access_same) ∙ e)

module _ {U : Type 0} (config : Config) (l : LookUps U) (op : Operation) where
  -- ---- before digests

  unknown_passes : (o : Option U) → unless (option_map_or (λ u. true) o true) DigestMismatch ≡ None
  unknown_passes None = refl
  unknown_passes (Some u) = refl

  all_unknown : (es : List (Entry U)) → each (digests_refusal (without_digests l).known) es ≡ None
  all_unknown [] = refl
  all_unknown (e ∷ es) = ap (λ o. first_of (o ∷ map (digests_refusal (without_digests l).known) es)) (unknown_passes e.upload) ∙ all_unknown es

  -- elsewhere, packaging, the same upload twice
  abbrev pub first_three : List Reference → List (Option Refusal)
  first_three refs =
      each (λ (r : Reference). unless (is_some (upload_number r.target)) ByReferenceNotAllowed) refs
      ∷ each (λ (r : Reference). unless (is_binary r.packaging) PackagingFormatNotAcceptable) refs
      ∷ when (occurs_twice (filter_map (λ r. upload_number r.target) refs)) BadRequest
      ∷ []

  abbrev first_six : List Reference → List (Option Refusal)
  first_six refs =
      first_three refs
      ++ each there_refusal (l.entries refs)
      ∷ each (whole_refusal l.known) (l.entries refs)
      ∷ each (length_refusal l.known) (l.entries refs)
      ∷ []

  entries_before : (refs : List Reference) (r : Refusal) → entries_refusal (without_digests l) refs ≡ Some r → entries_refusal l refs ≡ Some r
  unfolding entries_refusal
  entries_before refs r e =
      before_rest (first_six refs) (each (digests_refusal (without_digests l).known) (l.entries refs) ∷ []) (each (digests_refusal l.known) (l.entries refs) ∷ []) r
      (ap (λ o. first_of (o ∷ [])) (all_unknown (l.entries refs))) e

  pub refused_before : (r : Refusal) → refusal_before_room config (without_digests l) op ≡ Some r → refusal_by config l op ≡ Some r
  refused_before r e = refused_less config l op l.entries (λ u. None) entries_before r e

  -- ---- before entries

  entries_unseen : (refs : List Reference) (r : Refusal) → entries_refusal (without_entries l) refs ≡ Some r → entries_refusal l refs ≡ Some r
  unfolding entries_refusal
  entries_unseen refs r e =
      before_rest (first_three refs) (None ∷ None ∷ None ∷ None ∷ [])
      (each there_refusal (l.entries refs) ∷ each (whole_refusal l.known) (l.entries refs) ∷ each (length_refusal l.known) (l.entries refs) ∷ each (digests_refusal l.known) (l.entries refs) ∷ [])
      r refl e

  pub refused_before_entries : (r : Refusal) → refusal_before_room config (without_entries l) op ≡ Some r → refusal_by config l op ≡ Some r
  refused_before_entries r e = refused_less config l op (λ refs. []) l.known.digests entries_unseen r e

  -- ---- other contents

  same_document : (o : Option Kind) → o ≢ Some of.References → option_and_then (document_refusal config (without_digests l) op) o ≡ option_and_then (document_refusal config l op) o
  same_document (Some of.References) other = absurd (other refl)
  same_document _ other = refl

  same_size : (o : Option Kind) → option_and_then (size_refusal config (without_digests l) op) o ≡ option_and_then (size_refusal config l op) o
  same_size (Some of.References) = refl
  same_size _ = refl

  same_content : content_kind op ≢ Some of.References → content_refusal config (without_digests l) op ≡ content_refusal config l op
  unfolding content_refusal content_by document_rule size_rule
  same_content other =
      let document = same_document (content_kind op) other in
      let size = same_size (content_kind op) in
      (λ i. if has_content op.target.method then first_of (fields_refusal op ∷ digest_rule op ∷ document i ∷ size i ∷ []) else None)

  same_room : room_rule config (without_digests l) op ≡ room_rule config l op
  unfolding room_rule
  same_room = refl

  pub for_references : content_kind op ≢ Some of.References → refusal_by config (without_digests l) op ≡ refusal_by config l op
  unfolding refusal_by
  for_references other = (λ i. first_of (access_same config l op l.entries (λ u. None) i ∷ same_content other i ∷ same_room i ∷ []))
