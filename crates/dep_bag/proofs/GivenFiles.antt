-- Files that are given one after another, of which the bytes are known.
use Rattle.std.proofs.Common.{◌≡◌, ℕ, List, [], ◌∷◌, ◌++◌, Ok, Err, codes, sym, ap, ◌∙◌, append_assoc, append-nil, subst, drop}
use Rattle.std.specs.Prelude.{Result, flat_map}
use Rattle.std.specs.Io.KnownBytes.{Appends}
use Rattle.std.specs.Result.{IsErrAnd}
use Rattle.std.proofs.lemmas.Grind.{flat_map-append}
use Rattle.dep_types.specs.Sinks.{PathAndBytes, folder_made, file_given}
use Rattle.dep_types.specs.declared.rows.ObjectView.{ObjectView}
use Rattle.dep_manifest.specs.TagFiles.{bagit_text}
use Rattle.dep_manifest.specs.Reported.{reported_info, reported_listed}
use Rattle.dep_bag.specs.Parts.{reported_tag_manifests}
use Rattle.dep_bag.specs.Giving.{SinkState, IsGivenTo, listed_transcript, manifests_transcript, tag_transcript}
use Rattle.dep_bag.specs.declared.export_fault.ExportFault.{ExportFault}
use Rattle.dep_bag.proofs.GivenParts.{Leaves, leaves_all, leaves_less, part_given, part_fails, part_last}

-- of the whole these files are left
pub record LeavesFiles (before now : SinkState) (whole : List ℕ) (files : List PathAndBytes) : Type 0 where
  pub leaves : Leaves before now whole (flat_map file_given files)

pub all_left : (a : SinkState) (files : List PathAndBytes) → LeavesFiles a a (flat_map file_given files) files
all_left a files = record { leaves = leaves_all a (flat_map file_given files) }

pub behind_folder : (a b : SinkState) (view : ObjectView) → Appends a.taken b.taken (folder_made (codes "data")) → b.failures ≡ a.failures
    → LeavesFiles a b (listed_transcript view) (reported_listed view)
behind_folder a b view adds steady = record {
  leaves = leaves_less a a b (listed_transcript view) (folder_made (codes "data")) (flat_map file_given (reported_listed view)) (leaves_all a (listed_transcript view)) adds steady;
}

pub next_given : {X : Type 0} {x : X} {a b : SinkState} {whole : List ℕ} {f : PathAndBytes} {fs : List PathAndBytes} (c : SinkState) → LeavesFiles a b whole (f ∷ fs)
    → IsGivenTo b c (file_given f) (Ok x) → LeavesFiles a c whole fs
next_given {X} {x} {a} {b} {whole} {f} {fs} c l g = record { leaves = part_given a b c whole (file_given f) (flat_map file_given fs) x l.leaves g }

-- so behind the folder, the declaration and what is told of the bag
pub behind_info : {X Y : Type 0} {x : X} {y : Y} (a b c d : SinkState) (view : ObjectView) → Appends a.taken b.taken (folder_made (codes "data")) → b.failures ≡ a.failures
    → IsGivenTo b c (file_given (codes "bagit.txt", bagit_text)) (Ok x) → IsGivenTo c d (file_given (codes "bag-info.txt", reported_info view)) (Ok y)
    → LeavesFiles a d (listed_transcript view) (drop 2 (reported_listed view))
behind_info a b c d view adds steady one two = next_given d (next_given c (behind_folder a b view adds steady) one) two

pub next_fails : {X Y : Type 0} {a b : SinkState} {whole : List ℕ} {f : PathAndBytes} {fs : List PathAndBytes} (c : SinkState) (r : Result X ExportFault) (e : ExportFault)
    → LeavesFiles a b whole (f ∷ fs) → IsGivenTo {X = Y} b c (file_given f) (Err e) → IsErrAnd r (λ x. x ≡ e) → IsGivenTo a c whole r
next_fails {X} {Y} {a} {b} {whole} {f} {fs} c r e l g err = part_fails a b c whole (file_given f) (flat_map file_given fs) r e l.leaves g err

pub last_given : {X : Type 0} {a b : SinkState} {whole : List ℕ} {f : PathAndBytes} (c : SinkState) (r : Result X ExportFault)
    → LeavesFiles a b whole (f ∷ []) → IsGivenTo b c (file_given f) r → IsGivenTo a c whole r
last_given {X} {a} {b} {whole} {f} c r l g = part_last a b c whole (file_given f) r l.leaves g

-- the tag files, as they are given
both_parts : (view : ObjectView) → tag_transcript view ≡ listed_transcript view ++ manifests_transcript view
both_parts view =
    ap (λ t. folder_made (codes "data") ++ t) (flat_map-append file_given (reported_listed view) (reported_tag_manifests view))
    ∙ sym (append_assoc (folder_made (codes "data")) (flat_map file_given (reported_listed view)) (manifests_transcript view))

pub listed_next : (a : SinkState) (view : ObjectView) → Leaves a a (tag_transcript view) (listed_transcript view ++ manifests_transcript view)
listed_next a view = subst (Leaves a a (tag_transcript view)) (both_parts view) (leaves_all a (tag_transcript view))

pub manifests_next : {X : Type 0} (a b : SinkState) (view : ObjectView) (x : X) → IsGivenTo a b (listed_transcript view) (Ok x)
    → Leaves a b (tag_transcript view) (manifests_transcript view ++ [])
manifests_next a b view x g =
    subst (Leaves a b (tag_transcript view)) (sym (append-nil (manifests_transcript view)))
    (part_given a a b (tag_transcript view) (listed_transcript view) (manifests_transcript view) x (listed_next a view) g)
