-- Uploads that references name, one after another.
use Rattle.std.proofs.Common.{◌≡◌, ◌∙◌, ℕ, Bool, true, List, [], ◌∷◌, ◌++◌, map, Option, Some, None, refl, sym, ap}
use Rattle.std.specs.Option.{unwrap_or}
use Rattle.std.proofs.lemmas.List.{append-nil, append_assoc}
use Rattle.dep_types.specs.Maps.{first_of}
use Rattle.dep_types.specs.State.{State}
use Rattle.dep_types.specs.declared.refusal.Refusal.{Refusal}
use Rattle.dep_decisions.specs.Laws.{segments_refusal, uploads_refusal}
use Rattle.dep_decisions.specs.LookUps.{in_state}
use Rattle.dep_decisions.specs.Rules.{each, missing_refusal, upload_refusal}
use Rattle.dep_operations.specs.Rules as seen
use Rattle.dep_operations.specs.Seen.{is_timed_out, live_in}
use Rattle.dep_operations.specs.Views.{upload_undigested}
use Rattle.dep_operations.specs.declared.view.UploadState.{UploadState}
use Rattle.dep_operations.specs.declared.view.UploadView.{UploadView}
use Rattle.dep_operations.proofs.SeenTruly.{missing_seen, segments_seen}
use Rattle.dep_views.specs.Seen.{state_seen}

-- ---- rows that are any

module _ {X : Type 0} (rule : X → Option Refusal) where
  pub each_refused : (x : X) (xs : List X) (r : Refusal) → rule x ≡ Some r → each rule (x ∷ xs) ≡ Some r
  each_refused x xs r e = ap (λ o. first_of (o ∷ map rule xs)) e

  pub each_passed : (x : X) (xs : List X) → rule x ≡ None → each rule (x ∷ xs) ≡ each rule xs
  each_passed x xs e = ap (λ o. first_of (o ∷ map rule xs)) e

both : (missing : Option Refusal) (r : Refusal) → first_of (missing ∷ Some r ∷ []) ≡ Some (unwrap_or missing r)
both None r = refl
both (Some x) r = refl

-- ---- what is seen at a number

module _ (s : State) (u : ℕ) (by_reference : Bool) (state : UploadState) (o : Option Refusal) where
  pub missing_reported : o ≡ missing_refusal (live_in state) (is_timed_out state) → state ≡ state_seen by_reference s u → upload_refusal (in_state s) u ≡ o
  missing_reported e is = sym (e ∙ ap (λ (x : UploadState). missing_refusal (live_in x) (is_timed_out x)) is ∙ missing_seen by_reference s u)

module _ (s : State) (u : ℕ) (state : UploadState) (o : Option Refusal) where
  pub segments_reported : o ≡ seen.live_segments_refusal state → state ≡ state_seen true s u → segments_refusal (in_state s) u ≡ o
  segments_reported e is = sym (e ∙ ap seen.live_segments_refusal is ∙ segments_seen s u)

-- ---- one after another

-- the first of these are there, lack no segment, and have these views; these are left
pub record IsLeft (s : State) (us : List ℕ) (views : List UploadView) (rest : List ℕ) : Type 0 where
  pub there : each (upload_refusal (in_state s)) us ≡ each (upload_refusal (in_state s)) rest
  pub whole : each (segments_refusal (in_state s)) us ≡ each (segments_refusal (in_state s)) rest
  pub shown : map (upload_undigested true s) us ≡ views ++ map (upload_undigested true s) rest

module _ (s : State) (us : List ℕ) (views : List UploadView) (u : ℕ) (behind : List ℕ) (so_far : IsLeft s us views (u ∷ behind)) where
  -- the next isn't there
  pub left_missing : (r : Refusal) → upload_refusal (in_state s) u ≡ Some r → uploads_refusal (in_state s) us ≡ Some r
  left_missing r e =
      let there = so_far.there ∙ each_refused (upload_refusal (in_state s)) u behind r e in
      ap (λ o. first_of (o ∷ each (segments_refusal (in_state s)) us ∷ [])) there

  -- the next lacks a segment
  pub left_lacking : (r : Refusal) → upload_refusal (in_state s) u ≡ None → segments_refusal (in_state s) u ≡ Some r
      → uploads_refusal (in_state s) us ≡ Some (unwrap_or (each (upload_refusal (in_state s)) behind) r)
  left_lacking r there e =
      let first = so_far.there ∙ each_passed (upload_refusal (in_state s)) u behind there in
      let second = so_far.whole ∙ each_refused (segments_refusal (in_state s)) u behind r e in
      (λ i. first_of (first i ∷ second i ∷ [])) ∙ both (each (upload_refusal (in_state s)) behind) r

  -- the next is there, and lacks none
  pub left_more : (state : UploadState) (now : List UploadView) → upload_refusal (in_state s) u ≡ None → segments_refusal (in_state s) u ≡ None → state ≡ state_seen true s u
      → now ≡ views ++ (record { upload = u; state = state }) ∷ [] → IsLeft s us now behind
  left_more state now there whole is grown =
      let f = upload_undigested true s in
      let viewed : now ≡ views ++ f u ∷ [] = grown ∙ (λ i. views ++ (record { upload = u; state = is i }) ∷ []) in
      record {
        there = so_far.there ∙ each_passed (upload_refusal (in_state s)) u behind there;
        whole = so_far.whole ∙ each_passed (segments_refusal (in_state s)) u behind whole;
        shown = so_far.shown ∙ sym (append_assoc views (f u ∷ []) (map f behind)) ∙ ap (λ vs. vs ++ map f behind) (sym viewed);
      }

pub left_at_first : (s : State) (us : List ℕ) (views : List UploadView) → views ≡ [] → IsLeft s us views us
left_at_first s us views none = record { there = refl; whole = refl; shown = ap (λ vs. vs ++ map (upload_undigested true s) us) (sym none) }

-- none is left
pub none_left : (s : State) (us : List ℕ) (views : List UploadView) (rest : List ℕ) → rest ≡ [] → IsLeft s us views rest
    → (uploads_refusal (in_state s) us ≡ None) × (views ≡ map (upload_undigested true s) us)
none_left s us views rest none all =
    let there = all.there ∙ ap (each (upload_refusal (in_state s))) none in
    let whole = all.whole ∙ ap (each (segments_refusal (in_state s))) none in (
      (λ i. first_of (there i ∷ whole i ∷ [])),
      sym (all.shown ∙ ap (λ us. views ++ map (upload_undigested true s) us) none ∙ append-nil views),
    )
