-- A valid bag tells the digests of each payload file.
use Rattle.std.proofs.Common.{◌≡◌, ℕ, Bool, true, false, cond, List, [], ◌∷◌, map as each, Some, Ok, refl, sym, ap, ◌∙◌, subst, arith}
use Rattle.std.specs.List.{All, Contains, filter}
use Rattle.std.specs.Ordering.{is_eq}
use Rattle.std.specs.declared.cmp.Ordering.TheVariants.{Less, Equal, Greater}
use Rattle.std.specs.FinMap.Entries.{find}
use Rattle.std.specs.FinMap as finmap
use Rattle.std.proofs.lemmas.List.Elements.{All-cons, All-nil, All-map, All-weaker, All-contains, All-contains_itself, Contains-append_right}
use Rattle.std.proofs.lemmas.List.Sorted.{Contains-permutation}
use Rattle.dep_types.specs.Sinks.{PathAndBytes}
use Rattle.dep_manifest.specs.Manifest.{digest_by, encoded_path}
use Rattle.dep_manifest.specs.declared.algorithm.Algorithm.{Algorithm}
use Rattle.dep_bag.specs.Bag.{Bag}
use Rattle.dep_bag.specs.Valid.{ManifestLine, IsValidBag, NamesFile, IsChecksumOf, is_payload, payload_in}
use Rattle.dep_manifest.proofs.Encoding.{encoding_injective}
use Rattle.dep_bag.proofs.Files.{order}

first-in : {X : Type 0} (x : X) (xs : List X) → Contains (x ∷ xs) x
first-in x xs = (0, omega arith, refl)

later-in : {X : Type 0} (x y : X) (xs : List X) → Contains xs y → Contains (x ∷ xs) y
later-in x y xs h = Contains-append_right (x ∷ []) xs y h

same_value : {X : Type 0} (x y : X) → Some x ≡ Some y → x ≡ y
same_value x y e = cc

found-in : (q v : List ℕ) (es : List PathAndBytes) → find order q es ≡ Some v → Contains es (q, v)
found-in q v [] e = absurd (cc)
found-in q v (f ∷ es) e =
    elim (order q f.0) as (λ r. order q f.0 ≡ r → cond (is_eq r) (Some f.1) (find order q es) ≡ Some v → Contains (f ∷ es) (q, v)) [
      | Less ↦ λ p m. later-in f (q, v) es (found-in q v es m)
      | Equal ↦ λ p m.
          let key = finmap.slice_cmp-IsAntisymmetric finmap.nat_cmp-IsAntisymmetric q f.0 p in
          let value = same_value f.1 v m in
          (0, omega arith, λ i. (sym key i, value i))
      | Greater ↦ λ p m. later-in f (q, v) es (found-in q v es m)
    ] refl e

all_kept : {X : Type 0} (p : X → Bool) (xs : List X) → All (λ y. p y ≡ true → Contains (filter p xs) y) xs
all_kept p [] = All-nil (λ y. p y ≡ true → Contains (filter p []) y)
all_kept p (x ∷ xs) =
    All-cons (λ y. p y ≡ true → Contains (filter p (x ∷ xs)) y) x xs
    (λ e. subst (λ b. Contains (cond b (x ∷ filter p xs) (filter p xs)) x) (sym e) (first-in x (filter p xs)))
    (All-weaker (λ y. p y ≡ true → Contains (filter p xs) y) (λ y. p y ≡ true → Contains (filter p (x ∷ xs)) y)
    (λ y was e. elim (p x) as (λ b. Contains (cond b (x ∷ filter p xs) (filter p xs)) y) [ true ↦ later-in x y (filter p xs) (was e) | false ↦ was e ])
    xs (all_kept p xs))

all_mapped : {X Y : Type 0} (f : X → Y) (xs : List X) → All (λ x. Contains (each f xs) (f x)) xs
all_mapped f [] = All-nil (λ x. Contains (each f []) (f x))
all_mapped f (x ∷ xs) =
    All-cons (λ y. Contains (each f (x ∷ xs)) (f y)) x xs (first-in (f x) (each f xs))
    (All-weaker (λ y. Contains (each f xs) (f y)) (λ y. Contains (each f (x ∷ xs)) (f y)) (λ y was. later-in (f x) (f y) (each f xs) was) xs (all_mapped f xs))

all_from : {X Y : Type 0} (f : X → Y) (xs : List X) → All (λ y. (x : X) × Contains xs x × (f x ≡ y)) (each f xs)
all_from f xs = All-map (λ y. (x : _) × Contains xs x × (f x ≡ y)) f xs (All-weaker (Contains xs) (λ z. (x : _) × Contains xs x × (f x ≡ f z)) (λ z h. (z, h, refl)) xs (All-contains_itself xs))

pub reports : (b : Bag) (valid : IsValidBag b) (a : Algorithm) (path bytes : List ℕ) → is_payload path ≡ true → finmap.get b.files path ≡ Some bytes
    → NamesFile (digest_by a) (valid.manifest a).lines path bytes
reports b valid a path bytes below got =
    let manifest = valid.manifest a in
    let entry : PathAndBytes = (path, bytes) in
    let es = finmap.entries b.files in
    let in_map : Contains es entry = found-in path bytes es (sym (finmap.get-entries b.files path) ∙ got) in
    let in_payload : Contains (payload_in b) entry = All-contains (λ y. is_payload y.0 ≡ true → Contains (payload_in b) y) es entry (all_kept (λ f. is_payload f.0) es) in_map below in
    let encode = λ (f : PathAndBytes). encoded_path f.0 in
    let written : Contains (each encode (payload_in b)) (encoded_path path) = All-contains (λ f. Contains (each encode (payload_in b)) (encode f)) (payload_in b) entry (all_mapped encode (payload_in b)) in_payload in
    let in_lines : Contains (each (λ line. line.path) manifest.lines) (encoded_path path) = Contains-permutation (each encode (payload_in b)) (each (λ line. line.path) manifest.lines) (encoded_path path) manifest.each_once written in
    let found = All-contains (λ y. (line : ManifestLine) × Contains manifest.lines line × (line.path ≡ y)) (each (λ line. line.path) manifest.lines) (encoded_path path) (all_from (λ (line : ManifestLine). line.path) manifest.lines) in_lines in
    let check : IsChecksumOf (digest_by a) b found.0 = All-contains (IsChecksumOf (digest_by a) b) manifest.lines found.0 manifest.has.checked found.1 in
    let same : check.path ≡ path = encoding_injective check.path path (sym check.named ∙ found.2) in
    let held : Some check.bytes ≡ Some bytes = sym check.held ∙ ap (finmap.get b.files) same ∙ got in
    record {
      line = found.0;
      among = found.1;
      named = found.2;
      checksum = check.checksum ∙ ap (λ x. Ok ((digest_by a).of x)) (same_value check.bytes bytes held);
    }
