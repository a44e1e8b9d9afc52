-- The number of the file that can stand at a path, and the file there among those of an object.
use Rattle.std.proofs.Common.{◌≡◌, ℕ, ◌<◌, ◌==◌, Bool, true, false, not, cond, List, [], ◌∷◌, ◌++◌, take, length, Option, Some, None, All, bytes_eq, nat_cmp, is_eq, Less, Equal, Greater, refl, sym, ap, ◌∙◌, arith, lt-ltb}
use Rattle.std.specs.Prelude.{decimal, find, nat_le, if◌then◌else◌}
use Rattle.std.specs.Option.{option_and_then}
use Rattle.std.specs.Char.{is_ascii_digit}
use Rattle.std.specs.List.{before_first, list_all, list_any}
use Rattle.std.specs.Char.{digit_value}
use Rattle.std.specs.Str.Parse.{AllDigits, digits_value}
use Rattle.std.specs.Cmp.{nat_cmp_total}
use Rattle.std.specs.FinMap as finmap
use Rattle.std.specs.FinMap.Entries as entries
use Rattle.std.proofs.lemmas.Bool.{le-leb}
use Rattle.std.proofs.lemmas.Fmt.{decimal_is_IsNumeral}
use Rattle.std.proofs.lemmas.List.Elements.{All-cons, All-head, All-nil, All-tail, All-weaker}
use Rattle.std.proofs.lemmas.Slice.Eq.{bytes_eq-Decides}
use Rattle.std.proofs.lemmas.Str.Parse.{digit_from_value}
use Rattle.dep_octets.specs.Octets.{is_digits, value_of}
use Rattle.dep_octets.specs.declared.numbers.Number.TheVariants.{NotDigits, Above, Value}
use Rattle.dep_types.specs.BagPaths.{payload_path}
use Rattle.dep_types.specs.Limits.{IsStorable}
use Rattle.dep_types.specs.Sound.{IsSound}
use Rattle.dep_types.specs.State.{State, Object, File}
use Rattle.dep_bag.specs.Numbered.{file_number, greatest_stored, number_written}
use Rattle.dep_bag.proofs.Keys.{entries-held}
use Rattle.dep_bag.proofs.Lines.{or-parts, prefix_first, take_front}
use Rattle.dep_bag.proofs.PayloadPaths.{decimal-none, shape}

-- ---- what a path of a payload tells

all_not : {X : Type 0} (p : X → Bool) (xs : List X) → list_any p xs ≡ false → list_all (λ x. not (p x)) xs ≡ true
all_not p [] none = refl
all_not p (x ∷ xs) none = let parts = or-parts (p x) (list_any p xs) none in rw (parts.0, all_not p xs parts.1) refl

before : {X : Type 0} (p : X → Bool) (xs : List X) (y : X) (ys : List X) → list_any p xs ≡ false → p y ≡ true → before_first p (xs ++ y ∷ ys) ≡ xs
before p xs y ys none passes =
    ap (λ n. take n (xs ++ y ∷ ys)) (prefix_first (λ x. not (p x)) xs y ys (all_not p xs none) (ap not passes)) ∙ take_front xs (y ∷ ys)

-- the digits of a number are digits
digit : (c : ℕ) → digit_value c < 10 → is_ascii_digit c ≡ true
digit c small =
    let range = digit_from_value c small in
    rw (le-leb 48 c (omega (arith, range)), le-leb c 57 (omega (arith, range))) refl

all_digits : (cs : List ℕ) → AllDigits 10 cs → list_all is_ascii_digit cs ≡ true
all_digits [] h = refl
all_digits (c ∷ cs) h = rw (digit c h.0, all_digits cs h.1) refl

written : (f : ℕ) → IsStorable f → number_written (decimal f) ≡ Some f
written f small =
    let numeral = decimal_is_IsNumeral f (omega (arith, small)) in
    let digits : is_digits (decimal f) ≡ true = rw (lt-ltb 0 (length (decimal f)) numeral.0.0, all_digits (decimal f) numeral.0.1) refl in
    ap (λ b. value_of (if b then (if nat_le (digits_value 10 (decimal f)) greatest_stored then Value (digits_value 10 (decimal f)) else Above) else NotDigits)) digits
    ∙ ap (λ k. value_of (if nat_le k greatest_stored then Value k else Above)) numeral.1
    ∙ ap (λ b. value_of (if b then Value f else Above)) (le-leb f greatest_stored (omega (arith, small)))

pub payload_numbered : (f : ℕ) (name : List ℕ) → IsStorable f → file_number (payload_path f name) ≡ Some f
payload_numbered f name small =
    ap file_number (shape (decimal f) name)
    ∙ ap number_written (before (λ b. b == 47) (decimal f) 47 name (decimal-none 47 (omega arith) f) refl)
    ∙ written f small

-- ---- the file at a path

both : {X : Type 0} (P Q : X → Type 0) (xs : List X) → All P xs → All Q xs → All (λ x. P x × Q x) xs
both P Q [] p q = All-nil (λ x. P x × Q x)
both P Q (x ∷ xs) p q =
    All-cons (λ x. P x × Q x) x xs (All-head P x xs p, All-head Q x xs q) (both P Q xs (All-tail P x xs p) (All-tail Q x xs q))

abbrev pub represents_at : (path : List ℕ) → ℕ × File → Bool
represents_at path e = bytes_eq path (payload_path e.0 e.1.name)

-- the file of a number, where it stands at the path
abbrev pub numbered : (path : List ℕ) → ℕ → Option File → Option (ℕ × File)
numbered path f it = option_and_then (λ (file : File). if represents_at path (f, file) then Some (f, file) else None) it

abbrev pub HasStorable : ℕ × File → Type 0
HasStorable e = IsStorable e.0

path_is : (path : List ℕ) (e : ℕ × File) → represents_at path e ≡ true → path ≡ payload_path e.0 e.1.name
path_is path e there = (bytes_eq-Decides path (payload_path e.0 e.1.name)).0 there

module _ (path : List ℕ) (f : ℕ) (of : file_number path ≡ Some f) (files : finmap.FinMap nat_cmp File) where
  same_number : (e : ℕ × File) → IsStorable e.0 → represents_at path e ≡ true → e.0 ≡ f
  same_number e small there =
      let both : Some f ≡ Some e.0 = sym of ∙ ap file_number (path_is path e there) ∙ payload_numbered e.0 e.1.name small in
      cc

  abbrev Held : ℕ × File → Type 0
  Held e = (finmap.get files e.0 ≡ Some e.1) × IsStorable e.0

  hit : (es : List (ℕ × File)) → All Held es → (e : ℕ × File) → find (represents_at path) es ≡ Some e → Some e ≡ numbered path f (finmap.get files f)
  hit [] h e found = absurd (cc)
  hit (x ∷ es) h e found = go (represents_at path x) refl found (hit es (All-tail Held x es h) e)
    where
      go : (b : Bool) → represents_at path x ≡ b → cond b (Some x) (find (represents_at path) es) ≡ Some e
          → (find (represents_at path) es ≡ Some e → Some e ≡ numbered path f (finmap.get files f)) → Some e ≡ numbered path f (finmap.get files f)
      go true is at later =
          let held = All-head Held x es h in
          let same : x.0 ≡ f = same_number x held.1 is in
          let got : finmap.get files f ≡ Some x.1 = ap (finmap.get files) (sym same) ∙ held.0 in
          let stays : represents_at path (f, x.1) ≡ true = ap (λ (k : ℕ). represents_at path (k, x.1)) (sym same) ∙ is in
          sym at ∙ ap (λ (k : ℕ). Some (k, x.1)) same
          ∙ sym (ap (numbered path f) got ∙ ap (λ b. if b then Some (f, x.1) else None) stays)
      go false is at later = later at

  miss : (es : List (ℕ × File)) (it : File) → entries.find nat_cmp f es ≡ Some it → find (represents_at path) es ≡ None → represents_at path (f, it) ≡ false
  miss [] it got none = absurd (cc)
  miss (x ∷ es) it got none = go (represents_at path x) refl none (miss es it)
    where
      go : (b : Bool) → represents_at path x ≡ b → cond b (Some x) (find (represents_at path) es) ≡ None
          → (entries.find nat_cmp f es ≡ Some it → find (represents_at path) es ≡ None → represents_at path (f, it) ≡ false) → represents_at path (f, it) ≡ false
      go true is at later = absurd (cc)
      go false is at later =
          elim (nat_cmp f x.0) as (λ t. nat_cmp f x.0 ≡ t → cond (is_eq t) (Some x.1) (entries.find nat_cmp f es) ≡ Some it → represents_at path (f, it) ≡ false) [
            | Less ↦ λ t e. later e at
            | Equal ↦ λ t e.
                let same : f ≡ x.0 = finmap.nat_cmp-IsAntisymmetric f x.0 t in
                let file : x.1 ≡ it = cc in
                ap (λ (k : ℕ). represents_at path (k, it)) same ∙ ap (λ (v : File). represents_at path (x.0, v)) (sym file) ∙ is
            | Greater ↦ λ t e. later e at
          ] refl got

  missed : (it : Option File) → finmap.get files f ≡ it → find (represents_at path) (finmap.entries files) ≡ None → None ≡ numbered path f it
  missed None is none = refl
  missed (Some it) is none =
      sym (ap (λ b. if b then Some (f, it) else None) (miss (finmap.entries files) it (sym (finmap.get-entries files f) ∙ is) none))

  -- what stands at the path is the file of its number, if that stands there
  pub found_by_number : All HasStorable (finmap.entries files) → find (represents_at path) (finmap.entries files) ≡ numbered path f (finmap.get files f)
  found_by_number small = go (find (represents_at path) (finmap.entries files)) refl
    where
      held : All Held (finmap.entries files)
      held = both (λ (e : ℕ × File). finmap.get files e.0 ≡ Some e.1) HasStorable (finmap.entries files) (entries-held nat_cmp_total finmap.nat_cmp-IsAntisymmetric files) small

      go : (o : Option (ℕ × File)) → find (represents_at path) (finmap.entries files) ≡ o → find (represents_at path) (finmap.entries files) ≡ numbered path f (finmap.get files f)
      go None is = is ∙ missed (finmap.get files f) refl is
      go (Some e) is = is ∙ hit (finmap.entries files) held e is

-- nothing of a payload stands at a path that has no number
none_among : (path : List ℕ) → file_number path ≡ None → (es : List (ℕ × File)) → All HasStorable es → find (represents_at path) es ≡ None
none_among path of [] h = refl
none_among path of (e ∷ es) h = at (represents_at path e) refl (none_among path of es (All-tail HasStorable e es h))
  where
    at : (b : Bool) → represents_at path e ≡ b → find (represents_at path) es ≡ None → cond b (Some e) (find (represents_at path) es) ≡ None
    at true is none =
        let both : None ≡ Some e.0 = sym of ∙ ap file_number (path_is path e is) ∙ payload_numbered e.0 e.1.name (All-head HasStorable e es h) in
        absurd (cc)
    at false is none = none

pub none_by_number : (path : List ℕ) → file_number path ≡ None → (files : finmap.FinMap nat_cmp File) → All HasStorable (finmap.entries files)
    → find (represents_at path) (finmap.entries files) ≡ None
none_by_number path of files small = none_among path of (finmap.entries files) small

-- the numbers of an object's files are those that a table can hold
pub files_storable : (s : State) (n : ℕ) (o : Object) → IsSound s → finmap.get s.objects n ≡ Some o → All HasStorable (finmap.entries o.files)
files_storable s n o sound is =
    All-weaker (λ (e : ℕ × File). finmap.get o.files e.0 ≡ Some e.1) HasStorable
    (λ e held. omega (arith, ((sound.objects n o is).files e.0 e.1 held).number_given.below, sound.file_bound))
    (finmap.entries o.files) (entries-held nat_cmp_total finmap.nat_cmp-IsAntisymmetric o.files)
