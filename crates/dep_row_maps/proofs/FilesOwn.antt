-- What stands under the number of each file, once the files of an object are others.
use Rattle.std.proofs.Common.{◌≡◌, ◌≢◌, ◌⊎◌, inl, inr, ℕ, Option, Some, None, refl, sym, ap, subst, ◌∙◌, nat_cmp, arith}
use Rattle.std.specs.Option.{option_map_or}
use Rattle.std.specs.FinMap as finmap
use Rattle.dep_types.specs.Maps.{Numbered}
use Rattle.dep_types.specs.State.{Object, File}
use Rattle.dep_tables.specs.Rows.{owner_kind, owner_number}
use Rattle.dep_tables.specs.declared.owner.BlockOwner.{BlockOwner}
use Rattle.dep_tables.specs.declared.owner.BlockOwner.TheVariants as owner
use Rattle.dep_row_maps.specs.TablesAre.{AreFilesOwn, files_at}
use Rattle.dep_row_maps.proofs.Files.{same_number}
use Rattle.dep_row_maps.proofs.Lens.{get_here, get_there, get_gone, get_left, under_here, under_there}

pub other_file : (a b : ℕ) → a ≢ b → ◌≢◌ {A = BlockOwner} (owner.File a) (owner.File b)
other_file a b apart e = apart (ap owner_number e)

pub other_upload : (a b : ℕ) → a ≢ b → ◌≢◌ {A = BlockOwner} (owner.Upload a) (owner.Upload b)
other_upload a b apart e = apart (ap owner_number e)

pub no_upload : (u f : ℕ) → ◌≢◌ {A = BlockOwner} (owner.Upload u) (owner.File f)
no_upload u f e = let kinds : ◌≡◌ {A = ℕ} 1 0 = ap owner_kind e in absurd (omega arith)

pub no_file : (f u : ℕ) → ◌≢◌ {A = BlockOwner} (owner.File f) (owner.Upload u)
no_file f u e = let kinds : ◌≡◌ {A = ℕ} 0 1 = ap owner_kind e in absurd (omega arith)

pub none_of : {X : Type 0} (x : Option X) → ((y : X) → x ≡ Some y → ⊥) → x ≡ None
none_of None h = refl
none_of (Some y) h = absurd (h y refl)

-- ---- the files of each object

abbrev pub files_in : Object → Numbered File
files_in o = o.files

pub files_there : (objects : Numbered Object) (n : ℕ) (o : Object) → finmap.get objects n ≡ Some o → files_at objects n ≡ o.files
files_there objects n o there = ap (λ x. option_map_or files_in x finmap.empty) there

module _ (objects : Numbered Object) (n : ℕ) (o : Object) (fs : Numbered File) where
  pub files_now : files_at (finmap.insert objects n (record o { files = fs })) n ≡ fs
  files_now = under_here files_in finmap.empty same_number objects n (record o { files = fs })

  pub files_else : (q : ℕ) → q ≢ n → files_at (finmap.insert objects n (record o { files = fs })) q ≡ files_at objects q
  files_else = under_there files_in finmap.empty same_number objects n (record o { files = fs })

module _ {X : Type 0} (Has : File → X → Type 0) (nothing : X) where
  -- the files of each object are the same
  pub own-moved : (objects now : Numbered Object) (has : BlockOwner → X) → ((q : ℕ) → files_at now q ≡ files_at objects q) → AreFilesOwn Has nothing objects has → AreFilesOwn Has nothing now has
  own-moved objects now has same h = record {
    of_files = λ n f file there. h.of_files n f file (ap (λ fs. finmap.get fs f) (sym (same n)) ∙ there);
    of_none = λ f none. h.of_none f (λ n. ap (λ fs. finmap.get fs f) (sym (same n)) ∙ none n);
  }

  -- what each file has is the same
  pub own-alike : (objects : Numbered Object) (was now : BlockOwner → X) → ((f : ℕ) → now (owner.File f) ≡ was (owner.File f)) → AreFilesOwn Has nothing objects was → AreFilesOwn Has nothing objects now
  own-alike objects was now same h = record {
    of_files = λ n f file there. subst (Has file) (sym (same f)) (h.of_files n f file there);
    of_none = λ f none. same f ∙ h.of_none f none;
  }

  -- there is no object
  pub own-empty : AreFilesOwn Has nothing finmap.empty (λ o. nothing)
  own-empty = record {
    of_files = λ n f file there. absurd (let none = ap (λ x. finmap.get (option_map_or files_in x finmap.empty) f) (finmap.get-empty {X = Object} nat_cmp n) ∙ finmap.get-empty {X = File} nat_cmp f in let both : Some file ≡ None = sym there ∙ none in cc);
    of_none = λ f none. refl;
  }

  -- the files of one object are others
  module _ (objects : Numbered Object) (n : ℕ) (o : Object) (there : finmap.get objects n ≡ Some o) (fs : Numbered File) (was now : BlockOwner → X) where
    abbrev new : Numbered Object
    new = finmap.insert objects n (record o { files = fs })

    -- no other object has a file of this number
    abbrev IsFree : ℕ → Type 0
    IsFree g = (m : ℕ) → m ≢ n → finmap.get (files_at objects m) g ≡ None

    -- what becomes of a number: it stays, or its file goes, or one comes
    pub data Turns (g : ℕ) : Type 0 where
      stays : finmap.get fs g ≡ finmap.get o.files g → now (owner.File g) ≡ was (owner.File g) → Turns g
      goes : finmap.get fs g ≡ None → now (owner.File g) ≡ nothing → IsFree g → Turns g
      comes : (file : File) → finmap.get fs g ≡ Some file → Has file (now (owner.File g)) → IsFree g → Turns g

    in_now : (m g : ℕ) → m ≡ n → finmap.get (files_at new m) g ≡ finmap.get fs g
    in_now m g is = ap (λ k. finmap.get (files_at new k) g) is ∙ ap (λ ys. finmap.get ys g) (files_now objects n o fs)

    in_was : (m g : ℕ) → m ≡ n → finmap.get (files_at objects m) g ≡ finmap.get o.files g
    in_was m g is = ap (λ k. finmap.get (files_at objects k) g) is ∙ ap (λ ys. finmap.get ys g) (files_there objects n o there)

    in_other : (m g : ℕ) → m ≢ n → finmap.get (files_at new m) g ≡ finmap.get (files_at objects m) g
    in_other m g apart = ap (λ ys. finmap.get ys g) (files_else objects n o fs m apart)

    alike : (m g : ℕ) → finmap.get fs g ≡ finmap.get o.files g → (m ≡ n) ⊎ (m ≢ n) → finmap.get (files_at objects m) g ≡ finmap.get (files_at new m) g
    alike m g same (inl is) = in_was m g is ∙ sym same ∙ sym (in_now m g is)
    alike m g same (inr apart) = sym (in_other m g apart)

    pub own-changed : ((g : ℕ) → Turns g) → AreFilesOwn Has nothing objects was → AreFilesOwn Has nothing new now
    own-changed each h = record {
      of_files = λ m g x at. found m g x at (same_number m n) (each g);
      of_none = λ g none. missing g none (each g);
    }
      where
        found : (m g : ℕ) (x : File) → finmap.get (files_at new m) g ≡ Some x → (m ≡ n) ⊎ (m ≢ n) → Turns g → Has x (now (owner.File g))
        found m g x at d (stays same its) = subst (Has x) (sym its) (h.of_files m g x (alike m g same d ∙ at))
        found m g x at (inl is) (goes gone its free) = absurd (let none = in_now m g is ∙ gone in cc)
        found m g x at (inr apart) (goes gone its free) = absurd (let none = in_other m g apart ∙ free m apart in cc)
        found m g x at (inl is) (comes file come its free) =
            let both : Some x ≡ Some file = sym at ∙ in_now m g is ∙ come in
            let it : x ≡ file = cc in
            subst (λ y. Has y (now (owner.File g))) (sym it) its
        found m g x at (inr apart) (comes file come its free) = absurd (let none = in_other m g apart ∙ free m apart in cc)

        missing : (g : ℕ) → ((m : ℕ) → finmap.get (files_at new m) g ≡ None) → Turns g → now (owner.File g) ≡ nothing
        missing g none (stays same its) = its ∙ h.of_none g (λ m. alike m g same (same_number m n) ∙ none m)
        missing g none (goes gone its free) = its
        missing g none (comes file come its free) = absurd (let some = in_now n g refl ∙ come in let nowhere = none n in cc)

  module _ (objects : Numbered Object) (n : ℕ) (o : Object) (there : finmap.get objects n ≡ Some o) (was now : BlockOwner → X) where
    -- a file is put in
    pub own-put : (f : ℕ) (file : File) → ((m : ℕ) → m ≢ n → finmap.get (files_at objects m) f ≡ None) → Has file (now (owner.File f)) → ((g : ℕ) → g ≢ f → now (owner.File g) ≡ was (owner.File g))
        → AreFilesOwn Has nothing objects was → AreFilesOwn Has nothing (finmap.insert objects n (record o { files = finmap.insert o.files f file })) now
    own-put f file free its others = own-changed objects n o there (finmap.insert o.files f file) was now (λ g. each g (same_number g f))
      where
        each : (g : ℕ) → (g ≡ f) ⊎ (g ≢ f) → Turns objects n o there (finmap.insert o.files f file) was now g
        each g (inl is) = subst (Turns objects n o there (finmap.insert o.files f file) was now) (sym is) (comes file (get_here o.files f file) its free)
        each g (inr apart) = stays (get_there o.files f file g apart) (others g apart)

    -- a file is taken out
    pub own-removed : (f : ℕ) → ((m : ℕ) → m ≢ n → finmap.get (files_at objects m) f ≡ None) → now (owner.File f) ≡ nothing → ((g : ℕ) → g ≢ f → now (owner.File g) ≡ was (owner.File g))
        → AreFilesOwn Has nothing objects was → AreFilesOwn Has nothing (finmap.insert objects n (record o { files = finmap.remove o.files f })) now
    own-removed f free gone others = own-changed objects n o there (finmap.remove o.files f) was now (λ g. each g (same_number g f))
      where
        each : (g : ℕ) → (g ≡ f) ⊎ (g ≢ f) → Turns objects n o there (finmap.remove o.files f) was now g
        each g (inl is) = subst (Turns objects n o there (finmap.remove o.files f) was now) (sym is) (goes (get_gone o.files f) gone free)
        each g (inr apart) = stays (get_left o.files f g apart) (others g apart)

    -- all files are taken out
    pub own-dropped : ((m f : ℕ) (a b : File) → finmap.get (files_at objects n) f ≡ Some a → finmap.get (files_at objects m) f ≡ Some b → n ≡ m) → ((f : ℕ) (file : File) → finmap.get o.files f ≡ Some file → now (owner.File f) ≡ nothing)
        → ((f : ℕ) → finmap.get o.files f ≡ None → now (owner.File f) ≡ was (owner.File f)) → AreFilesOwn Has nothing objects was → AreFilesOwn Has nothing (finmap.insert objects n (record o { files = finmap.empty })) now
    own-dropped one gone kept = own-changed objects n o there finmap.empty was now (λ g. each g (finmap.get o.files g) refl)
      where
        each : (g : ℕ) (x : Option File) → finmap.get o.files g ≡ x → Turns objects n o there finmap.empty was now g
        each g None e = stays (finmap.get-empty nat_cmp g ∙ sym e) (kept g e)
        each g (Some file) e = goes (finmap.get-empty nat_cmp g) (gone g file e) (λ m apart. none_of (finmap.get (files_at objects m) g) (λ y at. apart (sym (one m g file y (ap (λ fs. finmap.get fs g) (files_there objects n o there) ∙ e) at))))
