-- The paths of the tag files.
use Rattle.std.proofs.Common.{◌≡◌, ◌≤◌, ◌<◌, ◌+◌, ◌∙◌, ◌||◌, Bool, true, false, cond, ℕ, List, [], ◌∷◌, ◌++◌, length, map, take, get_or, Some, None, refl, sym, ap, arith, append_assoc, codes, bytes_eq, is_some, Bor}
use Rattle.std.specs.Prelude.{Option, option_map}
use Rattle.std.specs.List.{list_any}
use Rattle.std.proofs.lemmas.List.{get_or-map, length-map, map-append, take_more}
use Rattle.std.proofs.lemmas.List.Folds.{list_any-append}
use Rattle.dep_types.specs.BagPaths.{tag_paths}
use Rattle.dep_types.specs.declared.rows.FileRow.{FileRow}
use Rattle.dep_manifest.specs.Reported.{row_path}
use Rattle.dep_bag.specs.Parts.{part_at, stored_part, tag_file_at}
use Rattle.dep_bag.specs.declared.part.BagPart.{BagPart}
use Rattle.dep_bag.specs.declared.part.TagFile.{TagFile}

-- the first of them were added
pub record AreAdded (texts : List (Bor (List ℕ))) (n : ℕ) (old new : List (List ℕ)) : Type 0 where
  pub texts_are : map (λ t. t.now) texts ≡ tag_paths
  pub added : new ≡ old ++ take n tag_paths

pub one_added : (texts : List (Bor (List ℕ))) (n : ℕ) (text : Bor (List ℕ)) (old mid new : List (List ℕ)) → n < 7 → AreAdded texts n old mid
    → new ≡ mid ++ (get_or texts n text).now ∷ [] → AreAdded texts (n + 1) old new
one_added texts n text old mid new below are is =
    let count = simp length-map at (ap length are.texts_are) in
    let path : (get_or texts n text).now ≡ get_or tag_paths n [] = sym (get_or-map (λ t. t.now) texts n text [] (omega arith)) ∙ ap (λ ts. get_or ts n []) are.texts_are in
    record {
      texts_are = are.texts_are;
      added = is ∙ (ap (λ l. l ++ (get_or texts n text).now ∷ []) are.added ∙ (append_assoc old (take n tag_paths) ((get_or texts n text).now ∷ [])
          ∙ (ap (λ p. old ++ (take n tag_paths ++ p ∷ [])) path ∙ ap (λ l. old ++ l) (sym (take_more tag_paths n [] below)))));
    }

pub all_added : (texts : List (Bor (List ℕ))) (n : ℕ) (old new : List (List ℕ)) → n ≤ 7 → 7 ≤ n → AreAdded texts n old new → new ≡ old ++ tag_paths
all_added texts n old new within ended are = let is : n ≡ 7 = omega arith in are.added ∙ ap (λ k. old ++ take k tag_paths) is

-- behind them the path of one more file was added
pub payload_path_added : (rows : List FileRow) (i : ℕ) (row : FileRow) (before after : List (List ℕ)) → i < length rows → row ≡ get_or rows i row
    → before ≡ tag_paths ++ map row_path (take i rows) → after ≡ before ++ row_path row ∷ [] → after ≡ tag_paths ++ map row_path (take (i + 1) rows)
payload_path_added rows i row before after inside is so_far grown =
    grown
    ∙ ap (λ l. l ++ row_path row ∷ []) so_far
    ∙ append_assoc tag_paths (map row_path (take i rows)) (row_path row ∷ [])
    ∙ ap (λ (r : FileRow). tag_paths ++ (map row_path (take i rows) ++ row_path r ∷ [])) is
    ∙ ap (λ l. tag_paths ++ l) (sym (map-append row_path (take i rows) (get_or rows i row ∷ [])) ∙ ap (map row_path) (sym (take_more rows i row inside)))

tag_here : (b : Bool) (file : TagFile) (files : Option TagFile) (more : Bool) → is_some files ≡ more → is_some (cond b (Some file) files) ≡ (b || more)
tag_here true file files more rest = refl
tag_here false file files more rest = rest

-- a path among them is that of a tag file
pub tag_path_is : (path : List ℕ) → is_some (tag_file_at path) ≡ list_any (bytes_eq path) tag_paths
tag_path_is path =
    tag_here (bytes_eq path (codes "bagit.txt")) _ _ _ (tag_here (bytes_eq path (codes "bag-info.txt")) _ _ _
    (tag_here (bytes_eq path (codes "manifest-sha256.txt")) _ _ _ (tag_here (bytes_eq path (codes "manifest-sha512.txt")) _ _ _
    (tag_here (bytes_eq path (codes "metadata/sword.json")) _ _ _ (tag_here (bytes_eq path (codes "tagmanifest-sha256.txt")) _ _ _
    (tag_here (bytes_eq path (codes "tagmanifest-sha512.txt")) _ None false refl))))))

stored_here : (b : Bool) (part : List ℕ × BagPart) (parts : Option (List ℕ × BagPart)) (more : Bool) → is_some (option_map (λ p. p.1) parts) ≡ more
    → is_some (option_map (λ p. p.1) (cond b (Some part) parts)) ≡ (b || more)
stored_here true part parts more rest = refl
stored_here false part parts more rest = rest

-- and so is one among those of the payload
pub stored_path_is : (path : List ℕ) (rows : List FileRow) → is_some (part_at path (map stored_part rows)) ≡ list_any (bytes_eq path) (map row_path rows)
stored_path_is path [] = refl
stored_path_is path (row ∷ rows) = stored_here (bytes_eq path (row_path row)) (stored_part row) _ _ (stored_path_is path rows)

pub bag_path_is : (path : List ℕ) (rows : List FileRow)
    → (is_some (tag_file_at path) || is_some (part_at path (map stored_part rows))) ≡ list_any (bytes_eq path) (tag_paths ++ map row_path rows)
bag_path_is path rows =
    ap (λ b. b || is_some (part_at path (map stored_part rows))) (tag_path_is path)
    ∙ (ap (λ b. list_any (bytes_eq path) tag_paths || b) (stored_path_is path rows) ∙ sym (list_any-append (bytes_eq path) tag_paths (map row_path rows)))
