-- What an accepted request puts at a number stood there before, or the number is new.
use Rattle.std.proofs.Common.{◌≡◌, ◌∙◌, ◌⊎◌, inl, inr, ℕ, ◌+◌, ◌<◌, ◌≤◌, ◌||◌, Bool, true, List, Some, None, refl, sym, ap, subst, arith, le_refl}
use Rattle.std.specs.FinMap as map
use Rattle.dep_types.specs.Maps.{Numbered}
use Rattle.dep_types.specs.State.{State, Object, File, Upload, file_at}
use Rattle.dep_types.specs.Sound.{IsSound}
use Rattle.dep_types.specs.Numbers.{room_for}
use Rattle.dep_types.proofs.Kept.{found}
use Rattle.dep_decisions.specs.Decisions.{numbers_for}
use Rattle.dep_decisions.specs.Effects.{appended, at, changed, effect_of, filled, fresh, ingested_by, used, with_other_files, with_segment, with_other_texts, without, files_added, file_from}
use Rattle.dep_decisions.specs.declared.decision.Deposit.{Deposit}
use Rattle.dep_decisions.specs.declared.decision.Deposit.TheVariants.{Files, Metadata}
use Rattle.dep_decisions.specs.declared.decision.Decision.{Decision}
use Rattle.dep_decisions.specs.declared.decision.Decision.TheVariants.{Create, Append, Replace, Complete, SetMetadata, SetFiles, SetFile, DropFile, DropObject, Open, Receive}
use Rattle.dep_decisions.specs.Fit.{IsFitDecision}
use Rattle.dep_decisions.specs.Laws.{AreGivenOnce, IsNew}
use Rattle.dep_decisions.proofs.FoundInMaps.{at-none, at-some, left-was, without-was}
use Rattle.dep_decisions.proofs.SoundParts.{file_of_object, object_there}
use Rattle.dep_decisions.proofs.SoundEffects.{decision_sound, objects_by}

-- what is found after a change at a number is what was changed there, or was there
pub at-found : {X : Type 0} (m : Numbered X) (k : ℕ) (f : X → X) (q : ℕ) (x : X) → map.get (at m k f) q ≡ Some x
    → ((y : X) × (map.get m q ≡ Some y) × (q ≡ k) × (x ≡ f y)) ⊎ (map.get m q ≡ Some x)
at-found {X} m k f q x e = elim (map.get m k) as (λ o. map.get m k ≡ o → ((y : X) × (map.get m q ≡ Some y) × (q ≡ k) × (x ≡ f y)) ⊎ (map.get m q ≡ Some x)) [
  | Some y ↦ λ there. one_changed y there (found m k (f y) q x (ap (λ n. map.get n q) (sym (at-some m k f y there)) ∙ e))
  | None ↦ λ none. inr (ap (λ n. map.get n q) (sym (at-none m k f none)) ∙ e)
] refl where
  one_changed : (y : X) → map.get m k ≡ Some y → ((q ≡ k) × (x ≡ f y)) ⊎ (map.get m q ≡ Some x)
      → ((y : X) × (map.get m q ≡ Some y) × (q ≡ k) × (x ≡ f y)) ⊎ (map.get m q ≡ Some x)
  one_changed y there (inl is) = inl (y, ap (map.get m) is.0 ∙ there, is.0, is.1)
  one_changed y there (inr was) = inr was

new_number : (n : ℕ) → IsNew n (n + 1) n
new_number n = record { from = le_refl n; below = omega arith }

filled_tag : (s : State) (content : List ℕ) (d : Deposit) (ingested : Bool) → (filled s content d ingested).tag ≡ s.next.change
filled_tag s content (Files new) ingested = refl
filled_tag s content (Metadata texts) ingested = refl

appended_tag : (s : State) (content : List ℕ) (d : Deposit) (ingests : Bool) (o : Object) → (ingested_by ingests (appended s content d o)).tag ≡ s.next.change
appended_tag s content (Files new) ingests o = refl
appended_tag s content (Metadata texts) ingests o = refl

module _ (s : State) (content : List ℕ) where
  -- an object that was there as it is, or was there and is changed with a tag of its own, or is new
  abbrev pub IsKeptOrChanged : (after n : ℕ) → Object → Type 0
  IsKeptOrChanged after n o = (map.get s.objects n ≡ Some o)
      ⊎ ((((old : Object) × (map.get s.objects n ≡ Some old)) ⊎ (s.next.object ≤ n)) × (o.tag ≡ s.next.change) × (after ≡ s.next.change + 1))

  changed_at : (k : ℕ) (f : Object → Object) → ((y : Object) → (f y).tag ≡ s.next.change) → (n : ℕ) (o : Object)
      → map.get (at s.objects k f) n ≡ Some o → IsKeptOrChanged (s.next.change + 1) n o
  changed_at k f tagged n o e = one_of (at-found s.objects k f n o e) where
    one_of : ((y : Object) × (map.get s.objects n ≡ Some y) × (n ≡ k) × (o ≡ f y)) ⊎ (map.get s.objects n ≡ Some o) → IsKeptOrChanged (s.next.change + 1) n o
    one_of (inl is) = inr (inl (is.0, is.1), ap (λ (x : Object). x.tag) is.3 ∙ tagged is.0, refl)
    one_of (inr was) = inl was

  created : (d : Deposit) (ingests : Bool) (n : ℕ) (o : Object) → ((n ≡ s.next.object) × (o ≡ filled s content d ingests)) ⊎ (map.get s.objects n ≡ Some o)
      → IsKeptOrChanged (s.next.change + 1) n o
  created d ingests n o (inl is) = inr (inr (subst (λ (k : ℕ). s.next.object ≤ k) (sym is.0) (le_refl s.next.object)), ap (λ (x : Object). x.tag) is.1 ∙ filled_tag s content d ingests, refl)
  created d ingests n o (inr was) = inl was

  pub kept_or_changed : (d : Decision) (n : ℕ) (o : Object) → map.get (effect_of s content d).objects n ≡ Some o
      → IsKeptOrChanged (effect_of s content d).next.change n o
  kept_or_changed (Create d ingests) n o e = created d ingests n o (found s.objects s.next.object (filled s content d ingests) n o e)
  kept_or_changed (Append k d ingests) n o e = changed_at k (λ o. ingested_by ingests (appended s content d o)) (appended_tag s content d ingests) n o e
  kept_or_changed (Replace k d ingests) n o e = changed_at k (λ o. filled s content d (o.ingested || ingests)) (λ y. filled_tag s content d (y.ingested || ingests)) n o e
  kept_or_changed (Complete k) n o e = changed_at k (λ o. ingested_by true (changed s o)) (λ y. refl) n o e
  kept_or_changed (SetMetadata k texts) n o e = changed_at k (with_other_texts s texts) (λ y. refl) n o e
  kept_or_changed (SetFiles k new) n o e = changed_at k (with_other_files s (files_added s content new map.empty)) (λ y. refl) n o e
  kept_or_changed (SetFile k f new) n o e = changed_at k (λ o. with_other_files s (map.insert o.files f (file_from s content new)) o) (λ y. refl) n o e
  kept_or_changed (DropFile k f) n o e = changed_at k (λ o. with_other_files s (map.remove o.files f) o) (λ y. refl) n o e
  kept_or_changed (DropObject k) n o e = inl (left-was s.objects k n o e)
  kept_or_changed _ n o e = inl e

  -- an upload that was there, or has the next number
  abbrev IsOldUpload : ℕ → Type 0
  IsOldUpload n = ((old : Upload) × (map.get s.uploads n ≡ Some old)) ⊎ (s.next.upload ≤ n)

  left_upload : (us : List ℕ) (n : ℕ) (u : Upload) → map.get (without s.uploads us) n ≡ Some u → IsOldUpload n
  left_upload us n u e = inl (u, without-was s.uploads us n u e)

  opened_upload : (n : ℕ) (u x : Upload) → ((n ≡ s.next.upload) × (u ≡ x)) ⊎ (map.get s.uploads n ≡ Some u) → IsOldUpload n
  opened_upload n u x (inl is) = inr (subst (λ (k : ℕ). s.next.upload ≤ k) (sym is.0) (le_refl s.next.upload))
  opened_upload n u x (inr was) = inl (u, was)

  received_upload : (n k : ℕ) (u : Upload) (f : Upload → Upload) → ((y : Upload) × (map.get s.uploads n ≡ Some y) × (n ≡ k) × (u ≡ f y)) ⊎ (map.get s.uploads n ≡ Some u) → IsOldUpload n
  received_upload n k u f (inl is) = inl (is.0, is.1)
  received_upload n k u f (inr was) = inl (u, was)

  old_upload : (d : Decision) (n : ℕ) (u : Upload) → map.get (effect_of s content d).uploads n ≡ Some u → IsOldUpload n
  old_upload (Open o) n u e = opened_upload n u (fresh s o) (found s.uploads s.next.upload (fresh s o) n u e)
  old_upload (Receive k j) n u e = received_upload n k u (with_segment s j content) (at-found s.uploads k (with_segment s j content) n u e)
  old_upload d n u e = left_upload (used d) n u e

  -- with the bound of a number that is there
  new_or_old : {X : Type 0} (P : X → Type 0) (next after n : ℕ) → n < after → ((old : X) × P old) ⊎ (next ≤ n) → ((old : X) × P old) ⊎ IsNew next after n
  new_or_old P next after n low (inl old) = inl old
  new_or_old P next after n low (inr from) = inr (record { from = from; below = low })

  object_old : (after : ℕ) (n : ℕ) (o : Object) → IsKeptOrChanged after n o → ((old : Object) × (map.get s.objects n ≡ Some old)) ⊎ (s.next.object ≤ n)
  object_old after n o (inl same) = inl (o, same)
  object_old after n o (inr is) = is.0

  own_tag : (after n : ℕ) (o : Object) → IsKeptOrChanged after n o → (map.get s.objects n ≡ Some o) ⊎ ((o.tag ≡ s.next.change) × IsNew s.next.change after o.tag)
  own_tag after n o (inl same) = inl same
  own_tag after n o (inr is) = inr (is.1, subst (λ (t : ℕ). IsNew s.next.change after t) (sym is.1) (subst (λ (a : ℕ). IsNew s.next.change a s.next.change) (sym is.2) (new_number s.next.change)))

  file_old : (target n f : ℕ) → ((b : File) × (file_at s n f ≡ Some b)) ⊎ ((n ≡ target) × (s.next.file ≤ f)) → ((b : File) × (file_at s n f ≡ Some b)) ⊎ (s.next.file ≤ f)
  file_old target n f (inl was) = inl was
  file_old target n f (inr is) = inr is.1

  file_below : (t : State) (n f : ℕ) (a : File) → IsSound t → file_at t n f ≡ Some a → f < t.next.file
  file_below t n f a sound e =
      let o = object_there (map.get t.objects n) f a e in
      ((sound.objects n o.0 o.1).files f a (file_of_object o.0 f a o.1 e)).number_given.below

  pub given_once : IsSound s → (d : Decision) → IsFitDecision s content d → room_for s.next (numbers_for d) ≡ true → AreGivenOnce s (effect_of s content d)
  given_once sound d fit room =
      let t = effect_of s content d in
      let after = decision_sound s content sound d fit room in
      record {
        objects = λ n o e. new_or_old (λ (old : Object). map.get s.objects n ≡ Some old) s.next.object t.next.object n (after.objects n o e).number_given.below
            (object_old t.next.change n o (kept_or_changed d n o e));
        files = λ n f file e. new_or_old (λ (old : File). file_at s n f ≡ Some old) s.next.file t.next.file f (file_below t n f file after e)
            (file_old _ n f ((objects_by s content sound d fit).places n f file e));
        uploads = λ n u e. new_or_old (λ (old : Upload). map.get s.uploads n ≡ Some old) s.next.upload t.next.upload n (after.uploads n u e).number_given.below (old_upload d n u e);
        tags = λ n o e. own_tag t.next.change n o (kept_or_changed d n o e);
      }
