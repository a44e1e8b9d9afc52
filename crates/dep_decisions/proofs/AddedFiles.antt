-- New files take the next numbers in order, and are sound.
use Rattle.std.proofs.Common.{◌≡◌, ◌⊎◌, inl, inr, ℕ, ◌+◌, ◌<◌, ◌≤◌, List, [], ◌∷◌, length, Some, IsTrue, refl, sym, subst, arith}
use Rattle.std.specs.FinMap as map
use Rattle.dep_types.specs.Maps.{Numbered}
use Rattle.dep_types.specs.State.{State, File}
use Rattle.dep_types.specs.Names.{is_good_name, is_media}
use Rattle.dep_types.specs.Sound.{IsSound, IsSoundFile, IsGiven}
use Rattle.dep_types.proofs.Kept.{found}
use Rattle.dep_types.proofs.Later.{Later, file_later}
use Rattle.dep_decisions.specs.Effects.{added_from, files_added, file_from}
use Rattle.dep_decisions.specs.Fit.{IsFitFile, AreFitFiles}
use Rattle.dep_decisions.specs.declared.decision.NewFile.{NewFile}

-- the file was made by this change
pub record IsMade (s : State) (file : File) : Type 0 where
  pub tag : file.tag ≡ s.next.change
  pub deposited : file.deposited ≡ s.clock
  pub name : IsTrue (is_good_name file.name)
  pub media : IsTrue (is_media file.media)

pub made : (s : State) (content : List ℕ) (new : NewFile) → IsFitFile new → IsMade s (file_from s content new)
made s content new fit = record { tag = refl; deposited = refl; name = fit.0; media = fit.1 }

-- what is found once files were added from a number on: an old file, or a new one from that number on
abbrev pub IsAdded : State → ℕ → ℕ → Numbered File → ℕ → File → Type 0
IsAdded s number count old q file = (map.get old q ≡ Some file) ⊎ ((number ≤ q) × (q < number + count) × IsMade s file)

module _ (s : State) (content : List ℕ) where
  first_added : (number q : ℕ) (new : NewFile) (more : List NewFile) (old : Numbered File) (file : File) → IsFitFile new
      → ((q ≡ number) × (file ≡ file_from s content new)) ⊎ (map.get old q ≡ Some file) → IsAdded s number (length (new ∷ more)) old q file
  first_added number q new more old file fit (inl here) = inr (omega (arith, here.0), omega (arith, here.0), subst (IsMade s) (sym here.1) (made s content new fit))
  first_added number q new more old file fit (inr was) = inl was

  later_added : (number q : ℕ) (new : NewFile) (more : List NewFile) (old : Numbered File) (file : File) → IsFitFile new
      → IsAdded s (number + 1) (length more) (map.insert old number (file_from s content new)) q file → IsAdded s number (length (new ∷ more)) old q file
  later_added number q new more old file fit (inl e) = first_added number q new more old file fit (found old number (file_from s content new) q file e)
  later_added number q new more old file fit (inr is) = let low = is.0 in let high = is.1 in inr (omega (arith, low), omega (arith, high), is.2)

  pub added-found : (number : ℕ) (new : List NewFile) (old : Numbered File) (q : ℕ) (file : File) → AreFitFiles new
      → map.get (added_from number s content new old) q ≡ Some file → IsAdded s number (length new) old q file
  unfolding added_from
  added-found number [] old q file fit e = inl e
  added-found number (new ∷ more) old q file fit e =
      later_added number q new more old file fit.0 (added-found (number + 1) more (map.insert old number (file_from s content new)) q file fit.1 e)

  module _ (t : State) (sound : IsSound s) (later : Later s t) (given : IsGiven t.next.change s.next.change) where
    pub made-sound : (f : ℕ) (file : File) → IsGiven t.next.file f → IsMade s file → IsSoundFile t f file
    made-sound f file number is = record {
      number_given = number;
      tag_given = subst (λ (n : ℕ). IsGiven t.next.change n) (sym is.tag) given;
      past = subst (λ (n : ℕ). n ≤ t.clock) (sym is.deposited) later.clock;
      name = is.name;
      media = is.media;
    }

    between : (first f count next : ℕ) → 1 ≤ first → first ≤ f → f < first + count → next ≡ first + count → IsGiven next f
    between first f count next least low high is = record { least = omega (arith, least, low); below = omega (arith, high, is) }

    one_added : (f : ℕ) (file : File) (count : ℕ) (old : Numbered File) → t.next.file ≡ s.next.file + count
        → ((g : ℕ) (a : File) → map.get old g ≡ Some a → IsSoundFile s g a) → IsAdded s s.next.file count old f file → IsSoundFile t f file
    one_added f file count old next olds (inl was) = file_later s t later f file (olds f file was)
    one_added f file count old next olds (inr is) = made-sound f file (between s.next.file f count t.next.file sound.next_file is.0 is.1 next) is.2

    -- the files of an object with these new ones are sound
    pub added-sound : (new : List NewFile) (old : Numbered File) → AreFitFiles new → t.next.file ≡ s.next.file + length new
        → ((g : ℕ) (a : File) → map.get old g ≡ Some a → IsSoundFile s g a) → (f : ℕ) (file : File) → map.get (files_added s content new old) f ≡ Some file → IsSoundFile t f file
    added-sound new old fit next olds f file e = one_added f file (length new) old next olds (added-found s.next.file new old f file fit e)

  was_or_new : (number count : ℕ) (old : Numbered File) (f : ℕ) (file : File) → IsAdded s number count old f file → (map.get old f ≡ Some file) ⊎ (number ≤ f)
  was_or_new number count old f file (inl was) = inl was
  was_or_new number count old f file (inr is) = inr is.0

  -- and each is an old one, or has a new number
  pub added-place : (new : List NewFile) (old : Numbered File) → AreFitFiles new → (f : ℕ) (file : File) → map.get (files_added s content new old) f ≡ Some file
      → (map.get old f ≡ Some file) ⊎ (s.next.file ≤ f)
  added-place new old fit f file e = was_or_new s.next.file (length new) old f file (added-found s.next.file new old f file fit e)
