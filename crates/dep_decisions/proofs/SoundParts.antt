-- What becomes of objects and uploads, and when the whole stays sound.
use Rattle.std.proofs.Common.{◌≡◌, ◌≢◌, ◌∙◌, ◌⊎◌, inl, inr, ℕ, ◌<◌, ◌≤◌, List, Option, Some, None, option_and_then, refl, sym, ap, subst, arith, le_trans}
use Rattle.std.specs.FinMap as map
use Rattle.std.specs.FinSet as set
use Rattle.dep_types.specs.Maps.{Numbered}
use Rattle.dep_types.specs.State.{State, Object, File, Upload, file_at}
use Rattle.dep_types.specs.Limits.{greatest_moment}
use Rattle.dep_types.specs.Sound.{IsSound, IsSoundObject, IsSoundUpload, IsGiven}
use Rattle.dep_types.proofs.Kept.{found, get-insert_other}
use Rattle.dep_types.proofs.Later.{Later, object_later, upload_later, given_later}
use Rattle.dep_decisions.specs.Effects.{at, without}
use Rattle.dep_decisions.proofs.Bounds.{AreBounded}
use Rattle.dep_decisions.proofs.FoundInMaps.{at-some, at-none, left-was, without-was, without-none}

pub file_of_object : {o : Option Object} (x : Object) (f : ℕ) (a : File) → o ≡ Some x → option_and_then (λ (y : Object). map.get y.files f) o ≡ Some a → map.get x.files f ≡ Some a
file_of_object x f a e is = ap (option_and_then (λ (y : Object). map.get y.files f)) (sym e) ∙ is

pub object_there : (o : Option Object) (f : ℕ) (a : File) → option_and_then (λ (y : Object). map.get y.files f) o ≡ Some a → (x : Object) × (o ≡ Some x)
object_there (Some x) f a e = (x, refl)
object_there None f a e = absurd (cc)

-- the file is there already, or has a number that no file had
abbrev pub IsInPlace : State → ℕ → ℕ → Type 0
IsInPlace s n f = ((b : File) × (file_at s n f ≡ Some b)) ⊎ (s.next.file ≤ f)

module _ (s t : State) where
  -- the objects of t: sound, and new files at this object alone
  pub record AreObjects (target : ℕ) : Type 0 where
    pub sound : (n : ℕ) (o : Object) → map.get t.objects n ≡ Some o → IsSoundObject t n o
    pub places : (n f : ℕ) (a : File) → file_at t n f ≡ Some a → ((b : File) × (file_at s n f ≡ Some b)) ⊎ ((n ≡ target) × (s.next.file ≤ f))

  -- the uploads of t: sound, and none at a number that timed out
  pub record AreUploads : Type 0 where
    pub sound : (n : ℕ) (u : Upload) → map.get t.uploads n ≡ Some u → IsSoundUpload t n u
    pub apart : (n : ℕ) → IsGiven s.next.upload n → map.get s.uploads n ≡ None → map.get t.uploads n ≡ None

module _ (s t : State) (sound : IsSound s) (later : Later s t) where
  file_below : (n f : ℕ) (a : File) → file_at s n f ≡ Some a → f < s.next.file
  file_below n f a e =
      let o = object_there (map.get s.objects n) f a e in
      ((sound.objects n o.0 o.1).files f a (file_of_object o.0 f a o.1 e)).number_given.below

  not_below : (f n : ℕ) → n ≤ f → f < n → ⊥
  not_below f n e h = omega arith

  one_place : (target n m f : ℕ) → ((b : File) × (file_at s n f ≡ Some b)) ⊎ ((n ≡ target) × (s.next.file ≤ f))
      → ((b : File) × (file_at s m f ≡ Some b)) ⊎ ((m ≡ target) × (s.next.file ≤ f)) → n ≡ m
  one_place target n m f (inl x) (inl y) = sound.one_place n m f x.0 y.0 x.1 y.1
  one_place target n m f (inl x) (inr y) = absurd (not_below f s.next.file y.1 (file_below n f x.0 x.1))
  one_place target n m f (inr x) (inl y) = absurd (not_below f s.next.file x.1 (file_below m f y.0 y.1))
  one_place target n m f (inr x) (inr y) = x.0 ∙ sym y.0

  -- sound as a whole
  pub stays_sound : (target : ℕ) → AreBounded t.next → t.clock ≡ s.clock → t.timed_out ≡ s.timed_out → AreObjects s t target → AreUploads s t → IsSound t
  stays_sound target bounded clock timed_out objects uploads = record {
    clock = subst (λ (c : ℕ). c ≤ greatest_moment) (sym clock) sound.clock;
    next_object = le_trans sound.next_object later.object;
    next_file = le_trans sound.next_file later.file;
    next_upload = le_trans sound.next_upload later.upload;
    next_change = le_trans sound.next_change later.change;
    object_bound = bounded.object;
    file_bound = bounded.file;
    upload_bound = bounded.upload;
    change_bound = bounded.change;
    objects = objects.sound;
    one_place = λ n m f a b x y. one_place target n m f (objects.places n f a x) (objects.places m f b y);
    uploads = uploads.sound;
    timed_out = λ n e.
        let was = sound.timed_out n (ap (λ m. set.contains m n) (sym timed_out) ∙ e) in
        (given_later _ _ n later.upload was.0, uploads.apart n was.0 was.1);
  }

  -- ---- objects

  pub objects_same : (target : ℕ) → t.objects ≡ s.objects → AreObjects s t target
  objects_same target same = record {
    sound = λ n o e. object_later s t later n o (sound.objects n o (ap (λ m. map.get m n) (sym same) ∙ e));
    places = λ n f a e. inl (a, ap (λ (m : Numbered Object). option_and_then (λ (o : Object). map.get o.files f) (map.get m n)) (sym same) ∙ e);
  }

  pub objects_left : (target k : ℕ) → t.objects ≡ map.remove s.objects k → AreObjects s t target
  objects_left target k same =
      let was : (n : ℕ) (o : Object) → map.get t.objects n ≡ Some o → map.get s.objects n ≡ Some o = λ n o e. left-was s.objects k n o (ap (λ m. map.get m n) (sym same) ∙ e) in
      record {
        sound = λ n o e. object_later s t later n o (sound.objects n o (was n o e));
        places = λ n f a e.
            let there = object_there (map.get t.objects n) f a e in
            inl (a, ap (option_and_then (λ (o : Object). map.get o.files f)) (was n there.0 there.1) ∙ file_of_object there.0 f a there.1 e);
      }

  module _ (k : ℕ) (x : Object) (same : t.objects ≡ map.insert s.objects k x) (new : IsSoundObject t k x) (placed : (f : ℕ) (a : File) → map.get x.files f ≡ Some a → IsInPlace s k f) where
    is_old_or_new : (n : ℕ) (o : Object) → map.get t.objects n ≡ Some o → ((n ≡ k) × (o ≡ x)) ⊎ (map.get s.objects n ≡ Some o)
    is_old_or_new n o e = found s.objects k x n o (ap (λ m. map.get m n) (sym same) ∙ e)

    sound_one : (n : ℕ) (o : Object) → ((n ≡ k) × (o ≡ x)) ⊎ (map.get s.objects n ≡ Some o) → IsSoundObject t n o
    sound_one n o (inl is) = subst (λ (q : ℕ). IsSoundObject t q o) (sym is.0) (subst (λ (y : Object). IsSoundObject t k y) (sym is.1) new)
    sound_one n o (inr was) = object_later s t later n o (sound.objects n o was)

    place_new : (n f : ℕ) → n ≡ k → IsInPlace s k f → ((b : File) × (file_at s n f ≡ Some b)) ⊎ ((n ≡ k) × (s.next.file ≤ f))
    place_new n f here (inl was) = inl (was.0, ap (λ q. file_at s q f) here ∙ was.1)
    place_new n f here (inr more) = inr (here, more)

    place_one : (n f : ℕ) (a : File) (o : Object) → map.get o.files f ≡ Some a → ((n ≡ k) × (o ≡ x)) ⊎ (map.get s.objects n ≡ Some o)
        → ((b : File) × (file_at s n f ≡ Some b)) ⊎ ((n ≡ k) × (s.next.file ≤ f))
    place_one n f a o there (inl is) = place_new n f is.0 (placed f a (ap (λ (y : Object). map.get y.files f) (sym is.1) ∙ there))
    place_one n f a o there (inr was) = inl (a, ap (option_and_then (λ (y : Object). map.get y.files f)) was ∙ there)

    pub objects_put : AreObjects s t k
    objects_put = record {
      sound = λ n o e. sound_one n o (is_old_or_new n o e);
      places = λ n f a e.
          let there = object_there (map.get t.objects n) f a e in
          place_one n f a there.0 (file_of_object there.0 f a there.1 e) (is_old_or_new n there.0 there.1);
    }

  -- an object is changed, if there is one
  pub objects_at : (k : ℕ) (change : Object → Object) → t.objects ≡ at s.objects k change
      → ((o : Object) → map.get s.objects k ≡ Some o → IsSoundObject t k (change o) × ((f : ℕ) (a : File) → map.get (change o).files f ≡ Some a → IsInPlace s k f))
      → AreObjects s t k
  objects_at k change same each = elim (map.get s.objects k) as (λ o. map.get s.objects k ≡ o → AreObjects s t k) [
    | Some o ↦ λ e. objects_put k (change o) (same ∙ at-some s.objects k change o e) (each o e).0 (each o e).1
    | None ↦ λ e. objects_same k (same ∙ at-none s.objects k change e)
  ] refl

  -- a file of the object is in its place
  pub in_place : (n : ℕ) (o : Object) → map.get s.objects n ≡ Some o → (f : ℕ) (a : File) → map.get o.files f ≡ Some a → IsInPlace s n f
  in_place n o there f a e = inl (a, ap (option_and_then (λ (y : Object). map.get y.files f)) there ∙ e)

  -- ---- uploads

  pub uploads_left : (us : List ℕ) → t.uploads ≡ without s.uploads us → AreUploads s t
  uploads_left us same = record {
    sound = λ n u e. upload_later s t later n u (sound.uploads n u (without-was s.uploads us n u (ap (λ m. map.get m n) (sym same) ∙ e)));
    apart = λ n given none. ap (λ m. map.get m n) same ∙ without-none s.uploads us n none;
  }

  module _ (k : ℕ) (x : Upload) (same : t.uploads ≡ map.insert s.uploads k x) (new : IsSoundUpload t k x) (other : (n : ℕ) → IsGiven s.next.upload n → map.get s.uploads n ≡ None → n ≢ k) where
    sound_upload : (n : ℕ) (u : Upload) → ((n ≡ k) × (u ≡ x)) ⊎ (map.get s.uploads n ≡ Some u) → IsSoundUpload t n u
    sound_upload n u (inl is) = subst (λ (q : ℕ). IsSoundUpload t q u) (sym is.0) (subst (λ (y : Upload). IsSoundUpload t k y) (sym is.1) new)
    sound_upload n u (inr was) = upload_later s t later n u (sound.uploads n u was)

    pub uploads_put : AreUploads s t
    uploads_put = record {
      sound = λ n u e. sound_upload n u (found s.uploads k x n u (ap (λ m. map.get m n) (sym same) ∙ e));
      apart = λ n given none. ap (λ m. map.get m n) same ∙ get-insert_other s.uploads k x n (other n given none) ∙ none;
    }
