-- Manifests of a bag by what is known of their lengths, and the tag files that an object's row shows.
use Rattle.std.proofs.Common.{◌≡◌, ℕ, Bool, true, false, List, [], ◌∷◌, Option, Some, None, map, refl, sym, ap, ◌∙◌}
use Rattle.std.specs.FinMap as finmap
use Rattle.dep_types.specs.BagPaths.{payload_path}
use Rattle.dep_types.specs.Rows.{file_row, object_view}
use Rattle.dep_types.specs.Sinks.{PathAndBytes}
use Rattle.dep_types.specs.State.{State, Object, File}
use Rattle.dep_types.specs.declared.rows.ObjectView.{ObjectView}
use Rattle.dep_manifest.specs.Lengths.{OfLength}
use Rattle.dep_manifest.specs.Manifest.{digest_by, manifest_of}
use Rattle.dep_manifest.specs.Reported.{row_path, reported_listed}
use Rattle.dep_manifest.specs.declared.algorithm.Algorithm.{Algorithm}
use Rattle.dep_manifest.specs.declared.algorithm.Algorithm.TheVariants.{Sha256, Sha512}
use Rattle.dep_bag.specs.Bag.{listed_files, payload}
use Rattle.dep_bag.specs.Parts.{tag_file_at}
use Rattle.dep_bag.specs.declared.part.TagFile.{TagFile}
use Rattle.dep_bag.specs.declared.part.TagFile.TheVariants as tag
use Rattle.dep_answers.specs.Answers.{PlainText, ReplyContent, answer}
use Rattle.dep_answers.specs.Bags.{shown_in_bag}
use Rattle.dep_answers.specs.Performing.{Says}
use Rattle.dep_answers.specs.ReadSets.{tag_read_set}
use Rattle.dep_answers.specs.Reporting.{IsShownByRow, IsTagView, SaysLength, measured_by, view_by}
use Rattle.dep_answers.specs.declared.performed.Delivery.{Delivery}
use Rattle.dep_answers.specs.declared.performed.Performed.{Performed}
use Rattle.dep_answers.specs.declared.read_set.ReadSet.TheVariants as read_set
use Rattle.dep_answers.proofs.BagLemmas.{manifest_shown, tag_manifest_shown}
use Rattle.dep_answers.proofs.ShownReplies.{says_as}

-- each view has the rows of all files
same_files : (n : ℕ) (o : Object) (file : Option TagFile) (b : Bool) → (view_by n o file b).files ≡ (object_view n o).files
same_files n o (Some tag.Declaration) b = refl
same_files n o (Some tag.Information) b = refl
same_files n o (Some (tag.Manifest Sha256)) b = refl
same_files n o (Some (tag.Manifest Sha512)) true = refl
same_files n o (Some (tag.Manifest Sha512)) false = refl
same_files n o (Some tag.Metadata) b = refl
same_files n o (Some (tag.TagManifest a)) b = refl
same_files n o None b = refl

payload_rows : (n : ℕ) (es : List (ℕ × File))
    → map (λ (file : PathAndBytes). file.0) (map (λ (e : ℕ × File). (payload_path e.0 e.1.name, e.1.content)) es) ≡ map row_path (map (λ (e : ℕ × File). file_row n e.0 e.1) es)
payload_rows n [] = refl
payload_rows n (e ∷ es) = ap (λ (l : List (List ℕ)). payload_path e.0 e.1.name ∷ l) (payload_rows n es)

module _ (s : State) (n : ℕ) (o : Object) (path : List ℕ) (delivery : Delivery) (said : Option Performed) (a : Algorithm) where
  abbrev SaysPath : Type 0
  SaysPath = Says s (answer 200 (shown_in_bag n o path) None None) delivery said

  shown_as : (text : List ℕ) → shown_in_bag n o path ≡ Some (PlainText text) → Says s (answer 200 (Some (PlainText text)) None None) delivery said → SaysPath
  shown_as text is says =
      says_as s (answer 200 (Some (PlainText text)) None None) (answer 200 (shown_in_bag n o path) None None) delivery said
      (ap (λ (x : Option ReplyContent). answer 200 x None None) (sym is)) says

  pub manifest_measured : (view : ObjectView) → tag_file_at path ≡ Some (tag.Manifest a) → delivery.is_head_only ≡ true → IsTagView path view delivery.is_head_only n o
      → OfLength a (map row_path view.files) (λ size. SaysLength size delivery said) → SaysPath
  manifest_measured view at head_only is says =
      let rows : map (λ (file : PathAndBytes). file.0) (payload o) ≡ map row_path view.files =
      payload_rows n (finmap.entries o.files)
      ∙ ap (map row_path) (sym (ap (λ (v : ObjectView). v.files) is ∙ same_files n o (tag_file_at path) delivery.is_head_only)) in
      let text = manifest_of (digest_by a) (payload o) in
      shown_as text (manifest_shown path n o a at) (says (payload o) rows head_only s text refl)

  pub tag_manifest_measured : (size : ℕ) → tag_file_at path ≡ Some (tag.TagManifest a) → IsShownByRow path delivery.is_head_only n o
      → ((view : ObjectView) → OfLength a (map (λ file. file.0) (reported_listed view)) (λ length. size ≡ length)) → SaysLength size delivery said → SaysPath
  tag_manifest_measured size at by reported says =
      let text = manifest_of (digest_by a) (listed_files o) in
      shown_as text (tag_manifest_shown path n o a at)
      (says (head_only delivery.is_head_only (ap (λ (file : Option TagFile). tag_read_set n file delivery.is_head_only) (sym at) ∙ by)) s text (sym (reported (object_view n o) (listed_files o) refl)))
    where
      head_only : (b : Bool) → tag_read_set n (Some (tag.TagManifest a)) b ≡ read_set.ObjectRow n → b ≡ true
      head_only true e = refl
      head_only false e = absurd (cc)

-- what a bare reply says the length of is a manifest of the payload
pub measured_there : (file : Option TagFile) (b : Bool) (a : Algorithm) → Some a ≡ measured_by file b → (file ≡ Some (tag.Manifest a)) × (b ≡ true)
measured_there (Some tag.Declaration) b a e = absurd (cc)
measured_there (Some tag.Information) b a e = absurd (cc)
measured_there (Some (tag.Manifest k)) true a e = let same : k ≡ a = cc in (ap (λ (x : Algorithm). Some (tag.Manifest x)) same, refl)
measured_there (Some (tag.Manifest k)) false a e = absurd (cc)
measured_there (Some tag.Metadata) b a e = absurd (cc)
measured_there (Some (tag.TagManifest k)) b a e = absurd (cc)
measured_there None b a e = absurd (cc)

-- all else is made of the same, in a bare reply too
pub same_view : (n : ℕ) (o : Object) (file : Option TagFile) (b : Bool) → None ≡ measured_by file b → view_by n o file b ≡ view_by n o file false
same_view n o (Some tag.Declaration) b none = refl
same_view n o (Some tag.Information) b none = refl
same_view n o (Some (tag.Manifest Sha256)) b none = refl
same_view n o (Some (tag.Manifest Sha512)) true none = absurd (cc)
same_view n o (Some (tag.Manifest Sha512)) false none = refl
same_view n o (Some tag.Metadata) b none = refl
same_view n o (Some (tag.TagManifest a)) b none = refl
same_view n o None b none = refl
