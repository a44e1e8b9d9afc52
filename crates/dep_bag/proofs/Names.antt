-- The paths of a bag have neither LF nor CR.
use Rattle.std.proofs.Common.{◌≡◌, ℕ, ◌<◌, ◌==◌, Bool, true, false, cond, ◌&&◌, List, [], ◌∷◌, ◌++◌, Some, refl, ap, ◌∙◌, arith, codes, append_assoc}
use Rattle.std.specs.Prelude.{decimal, flat_map, IsTrue, not, bytes_eq}
use Rattle.std.specs.Str.{is_utf8}
use Rattle.std.specs.List.{All, list_any, list_all}
use Rattle.std.specs.Cmp.{nat_cmp_total}
use Rattle.std.specs.FinMap as finmap
use Rattle.std.proofs.lemmas.Bool.{eqb-true}
use Rattle.std.proofs.lemmas.List.Elements.{All-head, All-tail, All-map, All-weaker, All-append}
use Rattle.dep_types.specs.State.{State, Object, File}
use Rattle.dep_types.specs.Sound.{IsSound}
use Rattle.dep_types.specs.Names.{is_name_byte, is_good_name, is_short}
use Rattle.dep_types.specs.BagPaths.{payload_path, payload_paths, tag_paths, bag_paths}
use Rattle.dep_manifest.specs.Manifest.{encoded_byte, encoded_path}
use Rattle.dep_bag.specs.Named.{percent_byte, percent_encoded}
use Rattle.dep_bag.specs.Bag.{list_text}
use Rattle.dep_bag.specs.Valid.{lines_of}
use Rattle.dep_bag.proofs.Lines.{or-both, or-parts, and-parts, none-append, split_first, All-none}
use Rattle.dep_bag.proofs.Keys.{entries-held}
use Rattle.dep_bag.proofs.PayloadPaths.{decimal-none}

name_byte-not : (c : ℕ) → is_name_byte c ≡ false → (b : ℕ) → is_name_byte b ≡ true → (b == c) ≡ false
name_byte-not c bad b good = elim (b == c) as (λ t. (b == c) ≡ t → t ≡ false) [
  | true ↦ λ e. let same : is_name_byte b ≡ is_name_byte c = ap is_name_byte (eqb-true b c e) in absurd (cc)
  | false ↦ λ e. refl
] refl

name-without : (c : ℕ) → is_name_byte c ≡ false → (name : List ℕ) → list_all is_name_byte name ≡ true → list_any (λ b. b == c) name ≡ false
name-without c bad [] h = refl
name-without c bad (b ∷ name) h =
    let parts = and-parts (is_name_byte b) (list_all is_name_byte name) h in
    or-both (b == c) (list_any (λ b. b == c) name) (name_byte-not c bad b parts.0) (name-without c bad name parts.1)

middle : (a b c d e : Bool) → (a && b && c && d && e) ≡ true → c ≡ true
middle true true c d e h = elim c as (λ t. (t && d && e) ≡ true → t ≡ true) [ true ↦ λ _. refl | false ↦ λ x. absurd (cc) ] h
middle true false c d e h = absurd (cc)
middle false b c d e h = absurd (cc)

good-bytes : (name : List ℕ) → IsTrue (is_good_name name) → list_all is_name_byte name ≡ true
good-bytes name good = middle (is_short name) (is_utf8 name) (list_all is_name_byte name) (not (bytes_eq name (codes "."))) (not (bytes_eq name (codes ".."))) good

none-parts : (p : ℕ → Bool) (xs ys : List ℕ) → list_any p (xs ++ ys) ≡ false → (list_any p xs ≡ false) × (list_any p ys ≡ false)
none-parts p [] ys h = (refl, h)
none-parts p (x ∷ xs) ys h =
    let parts = or-parts (p x) (list_any p (xs ++ ys)) h in
    let rest = none-parts p xs ys parts.1 in
    (or-both (p x) (list_any p xs) parts.0 rest.0, rest.1)

path-without : (c : ℕ) → c < 47 → is_name_byte c ≡ false → (n : ℕ) (name : List ℕ) → IsTrue (is_good_name name) → list_any (λ b. b == c) (codes "data/" ++ codes "/") ≡ false → list_any (λ b. b == c) (payload_path n name) ≡ false
path-without c small bad n name good lits =
    let p = λ (b : ℕ). b == c in
    let fixed = none-parts p (codes "data/") (codes "/") lits in
    none-append p (codes "data/" ++ decimal n ++ codes "/") name
    (none-append p (codes "data/" ++ decimal n) (codes "/") (none-append p (codes "data/") (decimal n) fixed.0 (decimal-none c (omega arith) n)) fixed.1)
    (name-without c bad name (good-bytes name good))

byte-percent : (b : ℕ) → (b == 10) ≡ false → (b == 13) ≡ false → encoded_byte b ≡ percent_byte b
byte-percent b no_lf no_cr =
    ap (λ t. cond (b == 37) (codes "%25") (cond t (codes "%0A") (cond (b == 13) (codes "%0D") (b ∷ [])))) no_lf
    ∙ ap (λ t. cond (b == 37) (codes "%25") (cond t (codes "%0D") (b ∷ []))) no_cr

encoded-percent : (path : List ℕ) → list_any (λ b. b == 10) path ≡ false → list_any (λ b. b == 13) path ≡ false → encoded_path path ≡ percent_encoded path
encoded-percent [] no_lf no_cr = refl
encoded-percent (b ∷ path) no_lf no_cr =
    let lf = or-parts (b == 10) (list_any (λ b. b == 10) path) no_lf in
    let cr = or-parts (b == 13) (list_any (λ b. b == 13) path) no_cr in
    λ i. byte-percent b lf.0 cr.0 i ++ encoded-percent path lf.1 cr.1 i

pub good_path_encoded : (n : ℕ) (name : List ℕ) → IsTrue (is_good_name name) → encoded_path (payload_path n name) ≡ percent_encoded (payload_path n name)
good_path_encoded n name good =
    encoded-percent (payload_path n name) (path-without 10 (omega arith) refl n name good refl) (path-without 13 (omega arith) refl n name good refl)

regroup : (path rest : List ℕ) → (path ++ codes "\n") ++ rest ≡ path ++ 10 ∷ rest
regroup path rest = simp append_assoc

lines_of-listed : (paths : List (List ℕ)) → All (λ path. list_any (λ b. b == 10) path ≡ false) paths → lines_of (flat_map (λ path. path ++ codes "\n") paths) ≡ paths ++ [] ∷ []
lines_of-listed [] h = refl
lines_of-listed (path ∷ paths) h =
    let P = λ (path : List ℕ). list_any (λ b. b == 10) path ≡ false in
    ap lines_of (regroup path (flat_map (λ path. path ++ codes "\n") paths))
    ∙ split_first (λ b. b == 10) path 10 (flat_map (λ path. path ++ codes "\n") paths) (All-head P path paths h) refl
    ∙ ap (λ l. path ∷ l) (lines_of-listed paths (All-tail P path paths h))

abbrev HasNoLf : List ℕ → Type 0
HasNoLf path = list_any (λ b. b == 10) path ≡ false

payload_names : (s : State) (n : ℕ) (o : Object) → IsSound s → finmap.get s.objects n ≡ Some o → All HasNoLf (payload_paths o)
payload_names s n o sound is =
    All-map HasNoLf (λ (e : ℕ × File). payload_path e.0 e.1.name) (finmap.entries o.files)
    (All-weaker (λ e. finmap.get o.files e.0 ≡ Some e.1) (λ e. HasNoLf (payload_path e.0 e.1.name))
    (λ e got. path-without 10 (omega arith) refl e.0 e.1.name ((sound.objects n o is).files e.0 e.1 got).name refl)
    (finmap.entries o.files) (entries-held nat_cmp_total finmap.nat_cmp-IsAntisymmetric o.files))

tags-no_lf : All HasNoLf tag_paths
tags-no_lf = All-none (list_any (λ b. b == 10)) tag_paths refl

pub list_read_back : (s : State) (n : ℕ) (o : Object) → IsSound s → finmap.get s.objects n ≡ Some o → lines_of (list_text (bag_paths o)) ≡ bag_paths o ++ [] ∷ []
list_read_back s n o sound is = lines_of-listed (bag_paths o) (All-append HasNoLf tag_paths (payload_paths o) tags-no_lf (payload_names s n o sound is))
