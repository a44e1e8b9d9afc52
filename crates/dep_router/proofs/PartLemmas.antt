-- What the parameters of each page took from a path.
use Rattle.std.proofs.Common.{rules, ◌≡◌, ◌∙◌, ◌<◌, ◌≤◌, ◌+◌, ◌-◌, ◌==◌, ℕ, suc, true, false, List, [], ◌∷◌, ◌++◌, length, drop, get_or, Option, Some, None, ltb, leb, codes, refl, sym, ap, subst, arith, length-append, append-nil, append_assoc, option_and_then, option_map}
use Rattle.std.proofs.lemmas.Bool.Decides.{nat_tests}
use Rattle.std.specs.Str.{IsUtf8}
use Rattle.matchit.specs.Rows.{param_token, catch_all_token, RowsOf}
use Rattle.matchit.specs.Seek.{segment, has_slash, first}
use Rattle.matchit.specs.Level.{IsText}
use Rattle.matchit.specs.Params.{walk, wild_from, wild_stop, part_of, after_token, AllText}
use Rattle.std.proofs.lemmas.Str.{IsUtf8-drop, IsUtf8-take, IsCharBoundary-after_ascii, IsCharBoundary-before_ascii}
use Rattle.matchit.specs.Router.{RouteOf}
use Rattle.matchit.specs.declared.params.Params.{Params}
use Rattle.dep_types.specs.Numbers.{number_in}
use Rattle.dep_router.specs.Targets.{segments, resource_of, numbered, object_part, within_part}
use Rattle.dep_router.proofs.SlashLemmas.{split-all, segment-cut, drop-past, take-front}
use Rattle.dep_router.proofs.PathLemmas.{found_route, below_part, object_segments}
use Rattle.dep_router.specs.declared.pages.Page.{Page}
use Rattle.dep_router.specs.declared.pages.Page.TheVariants.{Service, Object, Metadata, FileSet, File, Staging, Upload, BagList, BagFile}
use Rattle.dep_router.specs.Pages.{routes, named_parts, pattern_of, text_of, name_spans, at_object, HasPageForm, NamedParts, resource_by}

-- literal bytes of a pattern, each of which stands in the path
wild-run : (w rest : List ℕ) (len token at : ℕ) → IsText w → at + length w ≤ len → wild_from (w ++ rest) len token at ≡ wild_from rest len (token + length w) (at + length w)
wild-run [] rest len token at i l =
    let a : token + 0 ≡ token = omega arith in
    let b : at + 0 ≡ at = omega arith in
    rw (a, b) refl
wild-run (x ∷ w) rest len token at i l =
    let byte : ltb x param_token ≡ true = let h = i.0 in grind (arith, nat_tests) in
    let more : ltb at len ≡ true = grind (arith, nat_tests) in
    let a : token + suc (length w) ≡ (token + 1) + length w = omega arith in
    let b : at + suc (length w) ≡ (at + 1) + length w = omega arith in
    rw (byte, more, a, b) (wild-run w rest len (token + 1) (at + 1) i.1 (omega arith))

-- the bytes that stand between a front and a rest
part-is : (path front part rest : List ℕ) (start stop : ℕ) → path ≡ front ++ (part ++ rest) → start ≡ length front → stop ≡ length front + length part → part_of path start stop ≡ part
part-is path front part rest start stop e s t =
    let long : length path ≡ length front + (length part + length rest) = ap length e ∙ length-append front (part ++ rest) ∙ ap (λ k. length front + k) (length-append part rest) in
    let a : leb start stop ≡ true = grind (arith, nat_tests) in
    let b : leb stop (length path) ≡ true = grind (arith, nat_tests) in
    let k : stop - start ≡ length part = omega arith in
    let d : drop start path ≡ part ++ rest = ap (λ z. drop start z) e ∙ ap (λ z. drop z (front ++ (part ++ rest))) s ∙ drop-past front (part ++ rest) in
    rw (a, b, k, d) (take-front part rest)

-- a parameter that goes to the end of its route and of the path
abbrev one_name : List (ℕ × ℕ)
one_name = (10, 16) ∷ []

object_text : IsText (codes "/objects/")
object_text = search rules

staging_text : IsText (codes "/staging/")
staging_text = search rules

object_long : (n rest : List ℕ) → length (at_object n rest) ≡ 9 + (length n + length rest)
object_long n rest = length-append (codes "/objects/") (n ++ rest) ∙ ap (λ k. 9 + k) (length-append n rest)

object_wild : (n rest tokens : List ℕ) → wild_from (codes "/objects/" ++ (param_token ∷ tokens)) (length (at_object n rest)) 0 0 ≡ (9, 9)
object_wild n rest tokens =
    let long = object_long n rest in
    wild-run (codes "/objects/") (param_token ∷ tokens) (length (at_object n rest)) 0 0 object_text (omega arith)

-- one name of a walk, from where its parameter is
walk-name : (pattern text path : List ℕ) (name : ℕ × ℕ) (rest : List (ℕ × ℕ)) (token at : ℕ) (w : ℕ × ℕ) (stop : ℕ) → wild_from (drop token pattern) (length path) token at ≡ w → wild_stop pattern w.0 path w.1 ≡ stop
    → walk pattern text path (name ∷ rest) token at ≡ (part_of text name.0 name.1, part_of path w.1 stop) ∷ walk pattern text path rest (after_token w.0) stop
walk-name pattern text path name rest token at w stop e f = rw (e, f) refl

pub walk-object : (n : List ℕ) → walk (pattern_of Object) (text_of Object) (at_object n []) one_name 0 0 ≡ (codes "object", n) ∷ []
walk-object n =
    let path = at_object n [] in
    let long : length path ≡ 9 + (length n + 0) = object_long n [] in
    walk-name (pattern_of Object) (text_of Object) path (10, 16) [] 0 0 (9, 9) (length path) (object_wild n [] []) refl
    ∙ ap (λ z. (codes "object", z) ∷ []) (part-is path (codes "/objects/") n [] 9 (length path) refl refl (omega arith))

pub walk-upload : (n : List ℕ) → walk (pattern_of Upload) (text_of Upload) (codes "/staging/" ++ n) one_name 0 0 ≡ (codes "upload", n) ∷ []
walk-upload n =
    let path = codes "/staging/" ++ n in
    let long : length path ≡ 9 + length n = length-append (codes "/staging/") n in
    let w : wild_from (pattern_of Upload) (length path) 0 0 ≡ (9, 9) = wild-run (codes "/staging/") (param_token ∷ []) (length path) 0 0 staging_text (omega arith) in
    walk-name (pattern_of Upload) (text_of Upload) path (10, 16) [] 0 0 (9, 9) (length path) w refl
    ∙ ap (λ z. (codes "upload", z) ∷ []) (part-is path (codes "/staging/") n [] 9 (length path) (ap (λ z. codes "/staging/" ++ z) (sym (append-nil n))) refl (omega arith))

-- a parameter before a slash
segment_long : (n rest : List ℕ) → has_slash n ≡ false → length (segment (n ++ 47 ∷ rest)) ≡ length n + 1
segment_long n rest h = ap length (segment-cut n rest h) ∙ length-append n (47 ∷ [])

object_stop : (n rest : List ℕ) → has_slash n ≡ false → 9 + length (segment (n ++ 47 ∷ rest)) - 1 ≡ 9 + length n
object_stop n rest h = let e = segment_long n rest h in omega arith

object_part_is : (n rest : List ℕ) → part_of (at_object n rest) 9 (9 + length n) ≡ n
object_part_is n rest = part-is (at_object n rest) (codes "/objects/") n rest 9 (9 + length n) refl refl refl

stop-at : (pattern path : List ℕ) (token at : ℕ) → token + 1 < length pattern → get_or pattern token 0 ≡ param_token
    → wild_stop pattern token path at ≡ at + length (segment (drop at path)) - length (segment (drop (token + 1) pattern))
stop-at pattern path token at l e =
    let a : ltb token (length pattern) ≡ true = grind (arith, nat_tests) in
    let b : ltb (token + 1) (length pattern) ≡ true = grind (arith, nat_tests) in
    let c : (get_or pattern token 0 == param_token) ≡ true = ap (λ z. z == param_token) e in
    rw (a, b, c) refl

-- an object's number before a slash, where the pattern goes on with a slash
object_walk : (n rest tokens text : List ℕ) (names : List (ℕ × ℕ)) → has_slash n ≡ false
    → walk (codes "/objects/" ++ (param_token ∷ 47 ∷ tokens)) text (at_object n (47 ∷ rest)) ((10, 16) ∷ names) 0 0
    ≡ (part_of text 10 16, part_of (at_object n (47 ∷ rest)) 9 (9 + length n)) ∷ walk (codes "/objects/" ++ (param_token ∷ 47 ∷ tokens)) text (at_object n (47 ∷ rest)) names 10 (9 + length n)
object_walk n rest tokens text names h =
    walk-name (codes "/objects/" ++ (param_token ∷ 47 ∷ tokens)) text (at_object n (47 ∷ rest)) (10, 16) names 0 0 (9, 9) (9 + length n)
    (object_wild n (47 ∷ rest) (47 ∷ tokens))
    (stop-at (codes "/objects/" ++ (param_token ∷ 47 ∷ tokens)) (at_object n (47 ∷ rest)) 9 9 (let l = length-append (codes "/objects/") (param_token ∷ 47 ∷ tokens) in omega arith) refl ∙ object_stop n rest h)

pub walk-metadata : (n : List ℕ) → has_slash n ≡ false → walk (pattern_of Metadata) (text_of Metadata) (at_object n (codes "/metadata")) one_name 0 0 ≡ (codes "object", n) ∷ []
walk-metadata n h = object_walk n (codes "metadata") (codes "metadata") (text_of Metadata) [] h ∙ ap (λ z. (codes "object", z) ∷ []) (object_part_is n (codes "/metadata"))

pub walk-files : (n : List ℕ) → has_slash n ≡ false → walk (pattern_of FileSet) (text_of FileSet) (at_object n (codes "/files")) one_name 0 0 ≡ (codes "object", n) ∷ []
walk-files n h = object_walk n (codes "files") (codes "files") (text_of FileSet) [] h ∙ ap (λ z. (codes "object", z) ∷ []) (object_part_is n (codes "/files"))

pub walk-bag : (n : List ℕ) → has_slash n ≡ false → walk (pattern_of BagList) (text_of BagList) (at_object n (codes "/bag")) one_name 0 0 ≡ (codes "object", n) ∷ []
walk-bag n h = object_walk n (codes "bag") (codes "bag") (text_of BagList) [] h ∙ ap (λ z. (codes "object", z) ∷ []) (object_part_is n (codes "/bag"))

-- two parameters
files_text : IsText (codes "/files/")
files_text = search rules

bag_text : IsText (codes "/bag/")
bag_text = search rules

pub whole_front : (n w q : List ℕ) → at_object n (w ++ q) ≡ at_object n w ++ (q ++ [])
whole_front n w q = ap (at_object n) (ap (λ z. w ++ z) (sym (append-nil q))) ∙ ap (λ z. codes "/objects/" ++ z) (sym (append_assoc n w (q ++ [])))

-- an object's number, and behind literal bytes what goes to the end of the path
module _ (n w x text : List ℕ) (token : ℕ) (name : ℕ × ℕ) where
  abbrev pattern : List ℕ
  pattern = codes "/objects/" ++ (param_token ∷ 47 ∷ (w ++ (token ∷ [])))

  abbrev path : List ℕ
  path = at_object n ((47 ∷ w) ++ x)

  walk_two : has_slash n ≡ false → IsText (47 ∷ w) → ((len k at : ℕ) → wild_from (token ∷ []) len k at ≡ (k, at))
      → wild_stop pattern (10 + length (47 ∷ w)) path (9 + length n + length (47 ∷ w)) ≡ length path
      → walk pattern text path ((10, 16) ∷ name ∷ []) 0 0 ≡ (part_of text 10 16, n) ∷ (part_of text name.0 name.1, x) ∷ []
  walk_two h is_text found stop =
      let at = 9 + length n + length (47 ∷ w) in
      let long : length path ≡ 9 + (length n + (length (47 ∷ w) + length x)) = object_long n ((47 ∷ w) ++ x) ∙ ap (λ k. 9 + (length n + k)) (length-append (47 ∷ w) x) in
      let wild : wild_from (drop 10 pattern) (length path) 10 (9 + length n) ≡ (10 + length (47 ∷ w), at) = wild-run (47 ∷ w) (token ∷ []) (length path) 10 (9 + length n) is_text (omega arith) ∙ found _ _ _ in
      let front_long : length (at_object n (47 ∷ w)) ≡ 9 + (length n + length (47 ∷ w)) = object_long n (47 ∷ w) in
      object_walk n (w ++ x) (w ++ (token ∷ [])) text (name ∷ []) h
      ∙ ap (λ z. (part_of text 10 16, z) ∷ walk pattern text path (name ∷ []) 10 (9 + length n)) (object_part_is n ((47 ∷ w) ++ x))
      ∙ ap (λ z. (part_of text 10 16, n) ∷ z)
      (walk-name pattern text path name [] 10 (9 + length n) (10 + length (47 ∷ w), at) (length path) wild stop
      ∙ ap (λ z. (part_of text name.0 name.1, z) ∷ []) (part-is path (at_object n (47 ∷ w)) x [] at (length path) (whole_front n (47 ∷ w) x) (omega arith) (omega arith)))

pub walk-file : (n f : List ℕ) → has_slash n ≡ false → walk (pattern_of File) (text_of File) (at_object n (codes "/files/" ++ f)) (name_spans File) 0 0 ≡ (codes "object", n) ∷ (codes "file", f) ∷ []
walk-file n f h = walk_two n (codes "files/") f (text_of File) param_token (25, 29) h files_text (λ len k at. refl) refl

pub walk-path : (n q : List ℕ) → has_slash n ≡ false → walk (pattern_of BagFile) (text_of BagFile) (at_object n (codes "/bag/" ++ q)) (name_spans BagFile) 0 0 ≡ (codes "object", n) ∷ (codes "path", q) ∷ []
walk-path n q h = walk_two n (codes "bag/") q (text_of BagFile) catch_all_token (24, 28) h bag_text (λ len k at. refl) refl

-- a part of a text between bytes that are ASCII is text
after_front : (w n : List ℕ) (i : ℕ) → length w ≡ i + 1 → get_or w i 0 < 128 → get_or (w ++ n) i 0 ≡ get_or w i 0 → IsUtf8 (w ++ n) → IsUtf8 n
after_front w n i l a e u =
    let long = length-append w n in
    let ascii : get_or (w ++ n) i 0 < 128 = rw e a in
    let k : length w ≡ i + 1 = l in
    subst IsUtf8 (ap (λ z. drop z (w ++ n)) (sym k) ∙ drop-past w n) (IsUtf8-drop (w ++ n) (i + 1) u (IsCharBoundary-after_ascii (w ++ n) i u (omega arith) ascii))

get-past : (n rest : List ℕ) (b : ℕ) → get_or (n ++ b ∷ rest) (length n) 0 ≡ b
get-past [] rest b = refl
get-past (x ∷ n) rest b = get-past n rest b

drop-more : (n rest : List ℕ) → drop (length n + 1) (n ++ 47 ∷ rest) ≡ rest
drop-more [] rest = refl
drop-more (x ∷ n) rest =
    let e : suc (length n) + 1 ≡ suc (length n + 1) = omega arith in
    rw e (drop-more n rest)

before_slash : (n rest : List ℕ) → IsUtf8 (n ++ 47 ∷ rest) → IsUtf8 n
before_slash n rest u =
    let long = length-append n (47 ∷ rest) in
    let e = get-past n rest 47 in
    subst IsUtf8 (take-front n (47 ∷ rest)) (IsUtf8-take (n ++ 47 ∷ rest) (length n) u (IsCharBoundary-before_ascii (n ++ 47 ∷ rest) (length n) (omega arith) (rw e (omega arith))))

object_rest : (n rest : List ℕ) → IsUtf8 (at_object n rest) → IsUtf8 (n ++ rest)
object_rest n rest u = after_front (codes "/objects/") (n ++ rest) 8 refl (omega arith) refl u

rest_text : (n w q : List ℕ) → IsUtf8 (n ++ (w ++ 47 ∷ q)) → IsUtf8 q
rest_text n w q u =
    let e : n ++ (w ++ 47 ∷ q) ≡ (n ++ w) ++ 47 ∷ q = sym (append_assoc n w (47 ∷ q)) in
    let whole = subst IsUtf8 e u in
    let g = get-past (n ++ w) q 47 in
    let long = length-append (n ++ w) (47 ∷ q) in
    let d : drop (length (n ++ w) + 1) ((n ++ w) ++ 47 ∷ q) ≡ q = drop-more (n ++ w) q in
    subst IsUtf8 d (IsUtf8-drop ((n ++ w) ++ 47 ∷ q) (length (n ++ w) + 1) whole (IsCharBoundary-after_ascii ((n ++ w) ++ 47 ∷ q) (length (n ++ w)) whole (omega arith) (rw g (omega arith))))

object_name : IsUtf8 (codes "object")
object_name = search rules

upload_name : IsUtf8 (codes "upload")
upload_name = search rules

file_name : IsUtf8 (codes "file")
file_name = search rules

path_name : IsUtf8 (codes "path")
path_name = search rules

-- what is read at a path of a page: text, and the resource that the path names
abbrev pub Reads : Page → List ℕ → NamedParts → Type 0
Reads page path parts = AllText parts × (resource_by page parts ≡ resource_of (segments path))

abbrev pub walk_of : Page → List ℕ → NamedParts
walk_of page path = walk (pattern_of page) (text_of page) path (name_spans page) 0 0

from_parts : (page : Page) (path same : List ℕ) (parts : NamedParts) → path ≡ same → walk_of page same ≡ parts → Reads page same parts → Reads page path (walk_of page path)
from_parts page path same parts e w h =
    subst (λ z. Reads page z (walk_of page z)) (sym e) (subst (Reads page same) (sym w) h)

map-then : {X Y : Type 0} (o : Option X) (f : X → Y) (g : X → Option Y) → ((k : X) → Some (f k) ≡ g k) → option_map f o ≡ option_and_then g o
map-then None f g h = refl
map-then (Some k) f g h = h k

then-then : {X Y : Type 0} (o : Option X) (f g : X → Option Y) → ((k : X) → f k ≡ g k) → option_and_then f o ≡ option_and_then g o
then-then None f g h = refl
then-then (Some k) f g h = h k

pub object_is : (n : List ℕ) → has_slash n ≡ false → resource_of (segments (at_object n [])) ≡ option_and_then (numbered (codes "objects")) (number_in n)
object_is n h = ap (λ s. resource_of ([] ∷ codes "objects" ∷ s)) (ap segments (append-nil n) ∙ split-all n h)

pub part_is : (n part : List ℕ) → has_slash n ≡ false → segments part ≡ part ∷ [] → resource_of (segments (at_object n (47 ∷ part))) ≡ option_and_then (λ k. object_part k part) (number_in n)
part_is n part h e = ap resource_of (object_segments n part h) ∙ ap (λ s. resource_of ([] ∷ codes "objects" ∷ n ∷ s)) e

pub within_is : (n part text : List ℕ) → has_slash n ≡ false → segments (part ++ 47 ∷ text) ≡ part ∷ segments text
    → resource_of (segments (at_object n (47 ∷ (part ++ 47 ∷ text)))) ≡ option_and_then (λ k. within_part k part text) (number_in n)
within_is n part text h e =
    ap resource_of (object_segments n (part ++ 47 ∷ text) h) ∙ ap (λ s. resource_of ([] ∷ codes "objects" ∷ n ∷ s)) e ∙ below_part n part text

-- a part of an object, by its name
reads_part : (page : Page) (path n part : List ℕ) → path ≡ at_object n (47 ∷ part) → has_slash n ≡ false → segments part ≡ part ∷ [] → walk_of page (at_object n (47 ∷ part)) ≡ (codes "object", n) ∷ []
    → resource_by page ((codes "object", n) ∷ []) ≡ option_and_then (λ k. object_part k part) (number_in n) → IsUtf8 path → Reads page path (walk_of page path)
reads_part page path n part is slash cut walks resource u =
    let text = before_slash n part (object_rest n (47 ∷ part) (subst IsUtf8 is u)) in
    from_parts page path (at_object n (47 ∷ part)) ((codes "object", n) ∷ []) is walks ((object_name, text, tt), resource ∙ sym (part_is n part slash cut))

-- what stands within a part of an object, by its name or its path
reads_within : (page : Page) (path n part last name : List ℕ) → IsUtf8 name → path ≡ at_object n (47 ∷ (part ++ 47 ∷ last)) → has_slash n ≡ false → segments (part ++ 47 ∷ last) ≡ part ∷ segments last
    → walk_of page (at_object n (47 ∷ (part ++ 47 ∷ last))) ≡ (codes "object", n) ∷ (name, last) ∷ []
    → resource_by page ((codes "object", n) ∷ (name, last) ∷ []) ≡ option_and_then (λ k. within_part k part last) (number_in n) → IsUtf8 path → Reads page path (walk_of page path)
reads_within page path n part last name named is slash cut walks resource u =
    let back = object_rest n (47 ∷ (part ++ 47 ∷ last)) (subst IsUtf8 is u) in
    from_parts page path (at_object n (47 ∷ (part ++ 47 ∷ last))) ((codes "object", n) ∷ (name, last) ∷ []) is walks
    ((object_name, before_slash n (part ++ 47 ∷ last) back, (named, rest_text n (47 ∷ part) last back, tt)), resource ∙ sym (within_is n part last slash cut))

pub reads : (page : Page) (path : List ℕ) → HasPageForm page path → IsUtf8 path → Reads page path (walk_of page path)
reads Service path f u = from_parts Service path (codes "/service") [] f refl (tt, refl)
reads Staging path f u = from_parts Staging path (codes "/staging") [] f refl (tt, refl)
reads Upload path f u =
    let n = f.0 in
    let text : IsUtf8 n = after_front (codes "/staging/") n 8 refl (omega arith) refl (subst IsUtf8 f.1 u) in
    let is : resource_of (segments (codes "/staging/" ++ n)) ≡ option_and_then (numbered (codes "staging")) (number_in n) =
    ap (λ s. resource_of ([] ∷ codes "staging" ∷ s)) (split-all n f.2.0) in
    from_parts Upload path (codes "/staging/" ++ n) ((codes "upload", n) ∷ []) f.1 (walk-upload n)
    ((upload_name, text, tt), map-then (number_in n) _ (numbered (codes "staging")) (λ k. refl) ∙ sym is)
reads Object path f u =
    let n = f.0 in
    let text : IsUtf8 n = subst IsUtf8 (append-nil n) (object_rest n [] (subst IsUtf8 f.1 u)) in
    from_parts Object path (at_object n []) ((codes "object", n) ∷ []) f.1 (walk-object n)
    ((object_name, text, tt), then-then (number_in n) _ (numbered (codes "objects")) (λ k. refl) ∙ sym (object_is n f.2.0))
reads Metadata path f u =
    reads_part Metadata path f.0 (codes "metadata") f.1 f.2.0 refl (walk-metadata f.0 f.2.0) (then-then (number_in f.0) _ (λ k. object_part k (codes "metadata")) (λ k. refl)) u
reads FileSet path f u = reads_part FileSet path f.0 (codes "files") f.1 f.2.0 refl (walk-files f.0 f.2.0) (then-then (number_in f.0) _ (λ k. object_part k (codes "files")) (λ k. refl)) u
reads BagList path f u = reads_part BagList path f.0 (codes "bag") f.1 f.2.0 refl (walk-bag f.0 f.2.0) (then-then (number_in f.0) _ (λ k. object_part k (codes "bag")) (λ k. refl)) u
reads File path f u =
    reads_within File path f.0 (codes "files") f.1 (codes "file") file_name f.2 f.3.0 refl (walk-file f.0 f.1 f.3.0) (then-then (number_in f.0) _ (λ k. within_part k (codes "files") f.1) (λ k. refl)) u
reads BagFile path f u =
    reads_within BagFile path f.0 (codes "bag") f.1 (codes "path") path_name f.2 f.3.0 refl (walk-path f.0 f.1 f.3.0) (then-then (number_in f.0) _ (λ k. within_part k (codes "bag") f.1) (λ k. refl)) u

pub is_text : (l : List ℕ) → ((i : ℕ) → get_or l i 0 < 256) → IsText l
is_text [] h = tt
is_text (b ∷ l) h = (h 0, is_text l (λ i. h (suc i)))

abbrev pub entry_of : Params → Page → RouteOf Page
entry_of params value = record { pattern = params.pattern.now; text = params.text.now; names = params.names.now; value = value }

-- what `at` found is read as the path names it
pub found_reads : (router : RowsOf (RouteOf Page)) (path : List ℕ) (params : Params) (value : Page) → IsText path → IsUtf8 path → router ≡ routes
    → first router path ≡ Some (entry_of params value) → params.path.now ≡ path → Reads value path (named_parts params)
found_reads router path params value i u made found same =
    let f = found_route path (entry_of params value) i (ap (λ r. first r path) (sym made) ∙ found) in
    let h : Reads value path (walk params.pattern.now params.text.now path params.names.now 0 0) =
    subst (λ (r : RouteOf Page). Reads r.value path (walk r.pattern r.text path r.names 0 0)) (sym f.1) (reads f.0 path f.2 u) in
    subst (λ z. Reads value path (walk params.pattern.now params.text.now z params.names.now 0 0)) (sym same) h
