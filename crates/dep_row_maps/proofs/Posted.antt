-- Files and segments with their contents in blocks.
use Rattle.std.proofs.Common.{◌≡◌, ℕ, zero, suc, ◌+◌, ◌*◌, ◌≤◌, List, [], length, take, drop, unwrap_or, sym, ap, subst, ◌∙◌, nat_cmp, append-nil, arith}
use Rattle.std.proofs.lemmas.List.{take_all, drop_all}
use Rattle.std.proofs.lemmas.Cmp.{nat_cmp_total}
use Rattle.std.specs.List.{flat_map}
use Rattle.std.specs.FinMap as finmap
use Rattle.dep_row_maps.specs.Stored.{blocks_of, put_blocks}
use Rattle.dep_row_maps.specs.TablesAre.{HasContentInParts, IsCutBy, files_at, joined_parts}
use Rattle.dep_types.specs.Maps.{Numbered}
use Rattle.dep_types.specs.State.{File}
use Rattle.dep_row_maps.proofs.Lens.{get_here, get_there}
use Rattle.dep_row_maps.specs.Laws.{FilePosted, SegmentReceived}
use Rattle.dep_row_maps.proofs.Owners.{with_at}
use Rattle.dep_row_maps.proofs.Files.{free_file, entries-empty}
use Rattle.dep_row_maps.proofs.Blocks.{same_owner}
use Rattle.dep_row_maps.proofs.Contents.{content_put}
use Rattle.dep_row_maps.proofs.Whole.{file_added, segment_added, segments_there}
use Rattle.dep_tables.specs.declared.owner.BlockOwner.TheVariants as owner

one_joined : (k : ℕ) (content : List ℕ) → joined_parts (finmap.insert finmap.empty k content) ≡ content
one_joined k content = ap (flat_map (λ e. e.1)) (finmap.entries-insert nat_cmp_total finmap.empty k content ∙ ap (finmap.put nat_cmp k content) (entries-empty nat_cmp (List ℕ))) ∙ append-nil content

far : (k n : ℕ) → n ≤ suc k * suc n
far k n = let next : suc k * suc n ≡ suc n + k * suc n = omega arith in omega (arith, next)

-- one part is cut by any greater size
one_cut : (content : List ℕ) → IsCutBy (suc (length content)) (finmap.insert finmap.empty 1 content) content
one_cut content zero =
    let none : 0 * suc (length content) ≡ 0 = omega arith in
    ap (λ o. unwrap_or o []) (get_here finmap.empty 1 content) ∙ sym (ap (λ n. take (suc (length content)) (drop n content)) none ∙ take_all (suc (length content)) content (omega arith))
one_cut content (suc k) =
    ap (λ o. unwrap_or o []) (get_there finmap.empty 1 content (suc (suc k)) (λ same. cc same) ∙ finmap.get-empty nat_cmp (suc (suc k)))
    ∙ sym (ap (take (suc (length content))) (drop_all (suc k * suc (length content)) content (far k (length content))) ∙ take_all (suc (length content)) [] (omega arith))

one_content : (file : File) (parts : Numbered (List ℕ)) → parts ≡ finmap.insert finmap.empty 1 file.content → HasContentInParts file parts
one_content file parts is = subst (HasContentInParts file) (sym is) (record {
  joins = one_joined 1 file.content;
  size = suc (length file.content);
  some = omega arith;
  cut = one_cut file.content;
})

pub file_posted : FilePosted
file_posted t s h up blocks_up values_up n o there f file free =
    let none = h.common.files_parts.of_none f (λ m. free_file t.files (files_at s.objects) (files_at s.objects) h.common.files up m f free) in
    let now = with_at same_owner h.common.parts (owner.File f) (finmap.insert (h.common.parts (owner.File f)) 1 file.content) in
    let put = content_put t.blocks h.common.parts now.0 h.common.blocks blocks_up (owner.File f) 1 file.content (ap (λ m. finmap.get m 1) none ∙ finmap.get-empty nat_cmp 1) now.1 now.2 in
    file_added t s h up values_up n o there f file free (put_blocks (owner.File f) 1 0 (blocks_of file.content) t.blocks) now.0 put.0
    (one_content file (now.0 (owner.File f)) (now.1 ∙ ap (λ m. finmap.insert m 1 file.content) none)) now.2

pub segment_received : SegmentReceived
segment_received t s h up blocks_up u it there k bytes none =
    let now = with_at same_owner h.common.parts (owner.Upload u) (finmap.insert (h.common.parts (owner.Upload u)) k bytes) in
    let is = h.common.uploads_parts u ∙ segments_there s.uploads u it there in
    let put = content_put t.blocks h.common.parts now.0 h.common.blocks blocks_up (owner.Upload u) k bytes (ap (λ m. finmap.get m k) is ∙ none) now.1 now.2 in
    segment_added t s h up u it there k bytes none (put_blocks (owner.Upload u) k 0 (blocks_of bytes) t.blocks) now.0 put.0 now.1 now.2
