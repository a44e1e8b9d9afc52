-- What stands at the paths of a bag.
use Rattle.std.proofs.Common.{◌≡◌, ℕ, Bool, true, false, codes, cond, List, [], ◌∷◌, ◌++◌, Option, Some, None, refl, sym, ap, ◌∙◌, map as each, All}
use Rattle.std.specs.Prelude.{find, bytes_eq, option_map}
use Rattle.std.specs.Cmp.{nat_cmp_total}
use Rattle.std.specs.FinMap as finmap
use Rattle.std.proofs.lemmas.List.Elements.{All-head, All-tail}
use Rattle.std.proofs.lemmas.Slice.Eq.{bytes_eq-Decides}
use Rattle.dep_types.specs.State.{Object, File}
use Rattle.dep_types.specs.Rows.{file_row, object_view}
use Rattle.dep_types.specs.declared.rows.ObjectView.{ObjectView}
use Rattle.dep_types.specs.Sinks.{PathAndBytes}
use Rattle.dep_docs_out.specs.Documents.{bag_metadata_document}
use Rattle.dep_manifest.specs.Manifest.{digest_by, manifest_of}
use Rattle.dep_manifest.specs.declared.algorithm.Algorithm.{Algorithm}
use Rattle.dep_manifest.specs.declared.algorithm.Algorithm.TheVariants.{Sha256, Sha512}
use Rattle.dep_bag.specs.Parts.{tag_file_at, reported_parts, reported_part, text_part, stored_part}
use Rattle.dep_bag.specs.declared.part.BagPart.{BagPart}
use Rattle.dep_bag.specs.declared.part.BagPart.TheVariants.{Bytes, Stored}
use Rattle.dep_bag.specs.declared.part.TagFile.{TagFile}
use Rattle.dep_bag.specs.declared.part.TagFile.TheVariants as tag
use Rattle.dep_bag.proofs.Keys.{entries-held}
use Rattle.dep_bag.specs.Bag.{tag_files, bag_files, listed_files, payload}
use Rattle.dep_bag.proofs.Files.{payload_entry}
use Rattle.dep_bag.proofs.TagFileParts.{part_of as at_tag_file, by_tag_file}
use Rattle.dep_bag.proofs.ReportedBag.{same_tag_files}
use Rattle.dep_answers.specs.Answers.{Document, PlainText, ReplyContent, bytes_of, file_reply}
use Rattle.dep_answers.specs.Bags.{BagEntry, bag_entries, tags_shown, payload_shown, shown_in_bag}
use Rattle.dep_answers.specs.Reporting.{IsTagView, tag_view, view_by}
use Rattle.dep_answers.specs.Reported.{content_of, form_at}

-- a path, and what is shown there, if it is known
abbrev Known : Type 0
Known = List ℕ × Option ReplyContent

abbrev reported_entry : ℕ → Object → List ℕ × BagPart → Known
reported_entry n o (path, Bytes text) = (path, Some (content_of (form_at path) text))
reported_entry n o (path, Stored f) = (path, option_map (file_reply n f) (finmap.get o.files f))

abbrev held_entry : BagEntry → Known
held_entry place = (place.0, Some place.1)

-- ---- what a view tells is the bag

payload_reported : (n : ℕ) (o : Object) (es : List (ℕ × File)) → All (λ e. finmap.get o.files e.0 ≡ Some e.1) es
    → each (reported_entry n o) (each stored_part (each (λ e. file_row n e.0 e.1) es)) ≡ each held_entry (each (payload_shown n) es)
payload_reported n o [] h = refl
payload_reported n o (e ∷ es) h = λ i.
    ((payload_shown n e).0, option_map (file_reply n e.0) (All-head (λ e. finmap.get o.files e.0 ≡ Some e.1) e es h i))
    ∷ payload_reported n o es (All-tail (λ e. finmap.get o.files e.0 ≡ Some e.1) e es h) i

entries_reported : (n : ℕ) (o : Object) → each (reported_entry n o) (reported_parts (object_view n o)) ≡ each held_entry (bag_entries n o)
entries_reported n o =
    let held = entries-held nat_cmp_total finmap.nat_cmp-IsAntisymmetric o.files in
    ap (λ (texts : List PathAndBytes). each (reported_entry n o) (each text_part texts ++ each stored_part (object_view n o).files)) (same_tag_files n o)
    ∙ ap (λ (l : List Known). each held_entry (tags_shown o) ++ l) (payload_reported n o (finmap.entries o.files) held)

-- the files of the bag
pub shown_files : (n : ℕ) (o : Object) → each (λ (p : BagEntry). (p.0, bytes_of p.1)) (bag_entries n o) ≡ bag_files o
unfolding bag_files
shown_files n o = ap (λ (l : List PathAndBytes). tag_files o ++ l) (same_payload (finmap.entries o.files))
  where
    same_payload : (es : List (ℕ × File)) → each (λ (p : BagEntry). (p.0, bytes_of p.1)) (each (payload_shown n) es) ≡ each payload_entry es
    same_payload [] = refl
    same_payload (e ∷ es) = ap (λ (l : List PathAndBytes). payload_entry e ∷ l) (same_payload es)

-- ---- what is read of an object shows what all of it does

module _ (n : ℕ) (o : Object) (path : List ℕ) where
  pub same_part : reported_part (tag_view path n o false) path ≡ reported_part (object_view n o) path
  same_part = sym (by_tag_file (tag_view path n o false) path) ∙ (go (tag_file_at path) ∙ by_tag_file (object_view n o) path)
    where
      go : (file : Option TagFile) → at_tag_file (view_by n o file false) path file ≡ at_tag_file (object_view n o) path file
      go (Some tag.Declaration) = refl
      go (Some tag.Information) = refl
      go (Some (tag.Manifest Sha256)) = refl
      go (Some (tag.Manifest Sha512)) = refl
      go (Some tag.Metadata) = refl
      go (Some (tag.TagManifest a)) = refl
      go None = refl

-- ---- what is found

either_way : {X Y : Type 0} (g : X → Y) (b : Bool) (x : X) (o : Option Y) (r : Option X) → o ≡ option_map g r
    → cond b (Some (g x)) o ≡ option_map g (cond b (Some x) r)
either_way g true x o r e = refl
either_way g false x o r e = e

-- a function that keeps the paths can be put before or behind a search
pub found_through : {X Y : Type 0} (path : List ℕ) (of : X → List ℕ) (to : Y → List ℕ) (g : X → Y) → ((x : X) → to (g x) ≡ of x)
    → (xs : List X) → find (λ y. bytes_eq path (to y)) (each g xs) ≡ option_map g (find (λ x. bytes_eq path (of x)) xs)
found_through path of to g same [] = refl
found_through path of to g same (x ∷ xs) =
    ap (λ p. cond (bytes_eq path p) (Some (g x)) (find (λ y. bytes_eq path (to y)) (each g xs))) (same x)
    ∙ either_way g (bytes_eq path (of x)) x _ (find (λ x. bytes_eq path (of x)) xs) (found_through path of to g same xs)

same_some : {X : Type 0} (x y : X) → Some x ≡ Some y → x ≡ y
same_some x y e = cc

found_there : {X : Type 0} (test : X → Bool) (xs : List X) (x : X) → find test xs ≡ Some x → test x ≡ true
found_there test [] x e = cc
found_there test (y ∷ ys) x e = go (test y) refl e (found_there test ys x)
  where
    go : (b : Bool) → test y ≡ b → cond b (Some y) (find test ys) ≡ Some x → (find test ys ≡ Some x → test x ≡ true) → test x ≡ true
    go true is e later = ap test (sym (same_some y x e)) ∙ is
    go false is e later = later e

-- ---- at one path

module _ (n : ℕ) (o : Object) (path : List ℕ) where
  abbrev part : Option (List ℕ × BagPart)
  part = find (λ p. bytes_eq path p.0) (reported_parts (object_view n o))

  abbrev place : Option BagEntry
  place = find (λ p. bytes_eq path p.0) (bag_entries n o)

  same_path : (p : List ℕ × BagPart) → (reported_entry n o p).0 ≡ p.0
  same_path (q, Bytes text) = refl
  same_path (q, Stored f) = refl

  both_found : option_map (reported_entry n o) part ≡ option_map held_entry place
  both_found =
      sym (found_through path (λ (p : List ℕ × BagPart). p.0) (λ (k : Known). k.0) (reported_entry n o) same_path (reported_parts (object_view n o)))
      ∙ ap (find (λ (k : Known). bytes_eq path k.0)) (entries_reported n o)
      ∙ found_through path (λ (p : BagEntry). p.0) (λ (k : Known). k.0) held_entry (λ p. refl) (bag_entries n o)

  right_path : (p : List ℕ × BagPart) → part ≡ Some p → p.0 ≡ path
  right_path p e =
      let there : bytes_eq path p.0 ≡ true = found_there (λ (p : List ℕ × BagPart). bytes_eq path p.0) (reported_parts (object_view n o)) p e in
      sym ((bytes_eq-Decides path p.0).0 there)

same_text : (a b : List ℕ) → Some (Bytes a) ≡ Some (Bytes b) → a ≡ b
same_text a b e = cc

same_stored : (f g : ℕ) → Some (Stored f) ≡ Some (Stored g) → f ≡ g
same_stored f g e = cc

by_bytes : (n : ℕ) (o : Object) (path : List ℕ) (p : Option (List ℕ × BagPart)) (q : Option BagEntry)
    → option_map (reported_entry n o) p ≡ option_map held_entry q → ((x : List ℕ × BagPart) → p ≡ Some x → x.0 ≡ path)
    → (text : List ℕ) → Some (Bytes text) ≡ option_map (λ x. x.1) p
    → option_map (λ x. x.1) q ≡ Some (content_of (form_at path) text)
by_bytes n o path None q e right text is = absurd (cc)
by_bytes n o path (Some (r, Bytes t)) None e right text is = absurd (cc)
by_bytes n o path (Some (r, Bytes t)) (Some place) e right text is =
    let known : Some (content_of (form_at r) t) ≡ Some place.1 = ap (λ (k : Known). k.1) (same_some (r, Some (content_of (form_at r) t)) (held_entry place) e) in
    sym known ∙ (λ i. Some (content_of (form_at (right (r, Bytes t) refl i)) (same_text t text (sym is) i)))
by_bytes n o path (Some (r, Stored f)) q e right text is = absurd (cc is)

-- a content that is known is that of a file
known_file : (n f : ℕ) (m : Option File) (c : ReplyContent) → option_map (file_reply n f) m ≡ Some c
    → (it : File) × ((m ≡ Some it) × (Some c ≡ Some (file_reply n f it)))
known_file n f None c e = absurd (cc)
known_file n f (Some it) c e = (it, (refl, sym e))

by_stored : (n : ℕ) (o : Object) (p : Option (List ℕ × BagPart)) (q : Option BagEntry) → option_map (reported_entry n o) p ≡ option_map held_entry q
    → (f : ℕ) → Some (Stored f) ≡ option_map (λ x. x.1) p
    → (it : File) × ((finmap.get o.files f ≡ Some it) × (option_map (λ x. x.1) q ≡ Some (file_reply n f it)))
by_stored n o None q e f is = absurd (cc)
by_stored n o (Some (r, Bytes t)) q e f is = absurd (cc is)
by_stored n o (Some (r, Stored g)) None e f is = absurd (cc)
by_stored n o (Some (r, Stored g)) (Some place) e f is =
    let known : option_map (file_reply n g) (finmap.get o.files g) ≡ Some place.1 =
    ap (λ (k : Known). k.1) (same_some (r, option_map (file_reply n g) (finmap.get o.files g)) (held_entry place) e) in
    let file = known_file n g (finmap.get o.files g) place.1 known in
    let same = same_stored f g is in
    (file.0, (ap (finmap.get o.files) same ∙ file.1.0, file.1.1 ∙ ap (λ (k : ℕ). Some (file_reply n k file.0)) (sym same)))

by_none : (n : ℕ) (o : Object) (p : Option (List ℕ × BagPart)) (q : Option BagEntry) → option_map (reported_entry n o) p ≡ option_map held_entry q
    → None ≡ option_map (λ x. x.1) p → option_map (λ x. x.1) q ≡ None
by_none n o None None e is = refl
by_none n o None (Some place) e is = absurd (cc)
by_none n o (Some x) q e is = absurd (cc)

-- what is read shows what all of the object does
part_of : (n : ℕ) (o : Object) (path : List ℕ) (view : ObjectView) → IsTagView path view false n o → reported_part view path ≡ reported_part (object_view n o) path
part_of n o path view e = ap (λ (v : ObjectView). reported_part v path) e ∙ same_part n o path

-- a text of the bag
pub text_shown : (n : ℕ) (o : Object) (view : ObjectView) (path text : List ℕ) → IsTagView path view false n o
    → Some (Bytes text) ≡ reported_part view path → shown_in_bag n o path ≡ Some (content_of (form_at path) text)
text_shown n o view path text e is =
    by_bytes n o path (part n o path) (place n o path) (both_found n o path) (right_path n o path) text
    (is ∙ part_of n o path view e)

-- the content of a file of the object
pub file_shown : (n : ℕ) (o : Object) (view : ObjectView) (path : List ℕ) (f : ℕ) → IsTagView path view false n o
    → Some (Stored f) ≡ reported_part view path
    → (it : File) × ((finmap.get o.files f ≡ Some it) × (shown_in_bag n o path ≡ Some (file_reply n f it)))
file_shown n o view path f e is =
    by_stored n o (part n o path) (place n o path) (both_found n o path) f (is ∙ part_of n o path view e)

pub nothing_shown : (n : ℕ) (o : Object) (view : ObjectView) (path : List ℕ) → IsTagView path view false n o
    → None ≡ reported_part view path → shown_in_bag n o path ≡ None
nothing_shown n o view path e is =
    by_none n o (part n o path) (place n o path) (both_found n o path) (is ∙ part_of n o path view e)

-- ---- the tag files by their kinds

-- where each tag file stands
abbrev place_of : TagFile → List ℕ
place_of tag.Declaration = codes "bagit.txt"
place_of tag.Information = codes "bag-info.txt"
place_of (tag.Manifest Sha256) = codes "manifest-sha256.txt"
place_of (tag.Manifest Sha512) = codes "manifest-sha512.txt"
place_of tag.Metadata = codes "metadata/sword.json"
place_of (tag.TagManifest Sha256) = codes "tagmanifest-sha256.txt"
place_of (tag.TagManifest Sha512) = codes "tagmanifest-sha512.txt"

module _ (path : List ℕ) where
  abbrev ArePlaced : Option TagFile → Type 0
  ArePlaced files = (file : TagFile) → files ≡ Some file → path ≡ place_of file

  placed : (it : TagFile) (files : Option TagFile) → ArePlaced files → ArePlaced (cond (bytes_eq path (place_of it)) (Some it) files)
  placed it files rest file is = go (bytes_eq path (place_of it)) refl is
    where
      go : (b : Bool) → bytes_eq path (place_of it) ≡ b → cond b (Some it) files ≡ Some file → path ≡ place_of file
      go true here is = (bytes_eq-Decides path (place_of it)).0 here ∙ ap place_of (same_some it file is)
      go false here is = rest file is

  pub its_place : ArePlaced (tag_file_at path)
  its_place =
      placed tag.Declaration _ (placed tag.Information _ (placed (tag.Manifest Sha256) _ (placed (tag.Manifest Sha512) _
      (placed tag.Metadata _ (placed (tag.TagManifest Sha256) _ (placed (tag.TagManifest Sha512) None (λ file is. absurd (cc))))))))

  module _ (n : ℕ) (o : Object) where
    pub manifest_shown : (a : Algorithm) → tag_file_at path ≡ Some (tag.Manifest a) → shown_in_bag n o path ≡ Some (PlainText (manifest_of (digest_by a) (payload o)))
    manifest_shown Sha256 is = ap (shown_in_bag n o) (its_place (tag.Manifest Sha256) is)
    manifest_shown Sha512 is = ap (shown_in_bag n o) (its_place (tag.Manifest Sha512) is)

    pub tag_manifest_shown : (a : Algorithm) → tag_file_at path ≡ Some (tag.TagManifest a) → shown_in_bag n o path ≡ Some (PlainText (manifest_of (digest_by a) (listed_files o)))
    tag_manifest_shown Sha256 is = ap (shown_in_bag n o) (its_place (tag.TagManifest Sha256) is)
    tag_manifest_shown Sha512 is = ap (shown_in_bag n o) (its_place (tag.TagManifest Sha512) is)

    pub metadata_shown : tag_file_at path ≡ Some tag.Metadata → shown_in_bag n o path ≡ Some (Document (bag_metadata_document o.metadata))
    metadata_shown is = ap (shown_in_bag n o) (its_place tag.Metadata is)
