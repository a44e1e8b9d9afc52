-- What the calls on the files of an object come to.
use Rattle.std.proofs.Common.{◌≡◌, ℕ, ◌+◌, ◌<◌, List, [], ◌∷◌, ◌++◌, length, get_or, take, Option, Some, None, map, refl, sym, ap, subst, ◌∙◌, nat_cmp}
use Rattle.std.specs.Prelude.{option_and_then}
use Rattle.std.specs.Option.{option_map_or}
use Rattle.std.specs.FinMap as finmap
use Rattle.std.proofs.lemmas.List.{map-append, take_more}
use Rattle.sha2.specs.Sha512.{sha512}
use Rattle.dep_types.specs.State.{State, Object, File, file_at}
use Rattle.dep_types.specs.Rows.{file_row}
use Rattle.dep_types.specs.declared.rows.FileRow.{FileRow}
use Rattle.dep_tables.specs.Rowids.{IsOrdered, row_at}
use Rattle.dep_tables.specs.Edits.{LacksFileRow, with_new_file_row, with_new_sha512, without_blocks_of, without_file_rows, without_sha512}
use Rattle.dep_tables.specs.Rows.{is_block_of, is_sha512_of}
use Rattle.dep_tables.specs.Tables.{Tables}
use Rattle.dep_tables.specs.declared.owner.BlockOwner.TheVariants as owner
use Rattle.dep_row_maps.specs.Laws.{with_content, without_contents, without_whole_file}
use Rattle.dep_row_maps.specs.TablesAre.{TablesAre, files_at}
use Rattle.dep_row_maps.proofs.Files.{free_file}
use Rattle.dep_row_maps.proofs.FilesOwn.{files_there}
use Rattle.dep_row_maps.proofs.Whole.{file_removed}
use Rattle.dep_row_maps.proofs.Posted.{file_posted}
use Rattle.dep_row_maps.proofs.FileSets.{file_missed, files_dropped, without_last}
use Rattle.dep_files.specs.Edits.{only_part, with_file, without_file, without_files}

-- the file of an object, by the files that are under its number
pub file_is : (s : State) (n f : ℕ) → finmap.get (files_at s.objects n) f ≡ file_at s n f
file_is s n f = go (finmap.get s.objects n)
  where
    go : (o : Option Object) → finmap.get (option_map_or (λ (x : Object). x.files) o finmap.empty) f ≡ option_and_then (λ (x : Object). finmap.get x.files f) o
    go None = finmap.get-empty nat_cmp f
    go (Some o) = refl

-- ---- a file is put in

-- its number was free, if there is none of its row behind steps that keep the rows of files
pub none_under : (a b : Tables) (s : State) (f : ℕ) → TablesAre a s → IsOrdered a.files → b.files ≡ a.files → LacksFileRow f b → (n : ℕ) → file_at s n f ≡ None
none_under a b s f h up same free n = sym (file_is s n f) ∙ free_file a.files (files_at s.objects) (files_at s.objects) h.common.files up n f (ap (λ rows. row_at rows f) (sym same) ∙ free)

-- the tables with its content and its SHA-512, before its row
abbrev pub with_bytes : (f : ℕ) (value bytes : List ℕ) → Tables → Tables
with_bytes f value bytes t = with_new_sha512 (owner.File f) value (with_content (owner.File f) only_part bytes t)

pub file_put : (a b c : Tables) (s : State) (row : FileRow) (value bytes : List ℕ) (o : Object) (file : File) → TablesAre a s → IsOrdered a.files → IsOrdered a.blocks → IsOrdered a.sha512s → finmap.get s.objects row.object ≡ Some o
    → row ≡ file_row row.object row.file file → value ≡ sha512 file.content → bytes ≡ file.content → b ≡ with_bytes row.file value bytes a → c ≡ with_new_file_row row (with_bytes row.file value bytes a)
    → LacksFileRow row.file b → TablesAre c (with_file s row.object o row.file file)
file_put a b c s row value bytes o file h up blocks_up values_up there is its same so_far all free =
    let put = λ (r : FileRow) (v content : List ℕ). with_new_file_row r (with_bytes row.file v content a) in
    let given : put row value bytes ≡ put (file_row row.object row.file file) (sha512 file.content) file.content = (λ i. put (is i) (its i) (same i)) in
    subst (λ (t : Tables). TablesAre t (with_file s row.object o row.file file)) (sym (all ∙ given))
    (file_posted a s h up blocks_up values_up row.object o there row.file file (ap (λ (t : Tables). row_at t.files row.file) (sym so_far) ∙ free))

-- ---- a file is deleted

module _ (a b : Tables) (s : State) (f : ℕ) (h : TablesAre a s) (up : IsOrdered a.files) (all_gone : b ≡ without_whole_file f a) where
  pub file_gone : (n : ℕ) (o : Object) (it : File) → finmap.get s.objects n ≡ Some o → finmap.get o.files f ≡ Some it → TablesAre b (without_file s n o f)
  file_gone n o it there has = subst (λ (t : Tables). TablesAre t (without_file s n o f)) (sym all_gone) (file_removed a s h up n o there f it has)

  pub file_absent : ((n : ℕ) → file_at s n f ≡ None) → TablesAre b s
  file_absent none = subst (λ (t : Tables). TablesAre t s) (sym all_gone) (file_missed a s h up f (λ n. file_is s n f ∙ none n))

-- ---- all files of an object are deleted

abbrev numbers_in : List FileRow → List ℕ
numbers_in rows = map (λ (r : FileRow). r.file) rows

-- what one more of them has is deleted
pub one_more_gone : (a b c : Tables) (all : List FileRow) (i : ℕ) (r : FileRow) → i < length all → r ≡ get_or all i r → b ≡ without_contents (numbers_in (take i all)) a
    → c ≡ without_sha512 (owner.File r.file) (without_blocks_of (owner.File r.file) b) → c ≡ without_contents (numbers_in (take (i + 1) all)) a
one_more_gone a b c all i r within is so_far gone =
    let fs = numbers_in (take i all) in
    let numbers : numbers_in (take (i + 1) all) ≡ fs ++ r.file ∷ [] =
    ap numbers_in (take_more all i r within) ∙ map-append (λ (x : FileRow). x.file) (take i all) (get_or all i r ∷ []) ∙ ap (λ (x : FileRow). fs ++ x.file ∷ []) (sym is) in
    let last : without_contents (fs ++ r.file ∷ []) a ≡ without_sha512 (owner.File r.file) (without_blocks_of (owner.File r.file) (without_contents fs a)) =
    (λ i. record a { blocks = without_last is_block_of fs r.file a.blocks i; sha512s = without_last is_sha512_of fs r.file a.sha512s i }) in
    gone ∙ ap (λ t. without_sha512 (owner.File r.file) (without_blocks_of (owner.File r.file) t)) so_far ∙ sym (ap (λ ns. without_contents ns a) numbers ∙ last)

numbers_of : (n : ℕ) (es : List (ℕ × File)) → numbers_in (map (λ e. file_row n e.0 e.1) es) ≡ map (λ e. e.0) es
numbers_of n [] = refl
numbers_of n (e ∷ es) = ap (λ ks. e.0 ∷ ks) (numbers_of n es)

pub files_gone : (a b : Tables) (s : State) (n : ℕ) (o : Object) (found : List FileRow) → TablesAre a s → IsOrdered a.files → finmap.get s.objects n ≡ Some o → found ≡ map (λ e. file_row n e.0 e.1) (finmap.entries (files_at s.objects n))
    → b ≡ without_file_rows n (without_contents (numbers_in found) a) → TablesAre b (without_files s n o)
files_gone a b s n o found h up there is gone =
    let numbers : numbers_in found ≡ finmap.keys o.files = ap numbers_in is ∙ numbers_of n (finmap.entries (files_at s.objects n)) ∙ ap finmap.keys (files_there s.objects n o there) in
    subst (λ (t : Tables). TablesAre t (without_files s n o)) (sym (gone ∙ ap (λ fs. without_file_rows n (without_contents fs a)) numbers)) (files_dropped a s h up n o there)
