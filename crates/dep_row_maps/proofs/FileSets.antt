-- All files of an object dropped, and a file replaced.
use Rattle.std.proofs.Common.{◌≡◌, ◌≢◌, ◌⊎◌, inl, inr, ℕ, ℤ, pos, Bool, true, false, not, cond, List, [], ◌∷◌, ◌++◌, Some, None, is_some, filter, refl, sym, ap, ◌∙◌, Ordering, Less, Equal, Greater, is_eq, nat_cmp}
use Rattle.std.specs.Prelude.{find}
use Rattle.std.specs.Ordering.{eq_by_cmp}
use Rattle.std.specs.List.{list_any}
use Rattle.std.proofs.lemmas.Cmp.{nat_cmp_total, tied_itself}
use Rattle.std.specs.FinMap as finmap
use Rattle.sqlite_trees.specs.Tree.{without_rowid, has_rowid}
use Rattle.sqlite_trees.proofs.TreeLemmas.{IsShaped-filter}
use Rattle.sqlite_trees.specs.declared.store.Shape.TheVariants as shape
use Rattle.sqlite_value.specs.Order.{Row}
use Rattle.dep_types.specs.Maps.{Numbered}
use Rattle.dep_types.specs.State.{Object, File}
use Rattle.dep_tables.specs.Rows.{is_block_of, shown_block, is_sha512_of}
use Rattle.dep_tables.specs.declared.owner.BlockOwner.{BlockOwner}
use Rattle.dep_tables.specs.declared.owner.BlockOwner.TheVariants as owner
use Rattle.dep_row_maps.specs.Owned.{OwnedAre}
use Rattle.dep_row_maps.specs.Stored.{block_rows, shown_sha512, sha512_rows, without_rows}
use Rattle.dep_row_maps.specs.TablesAre.{FilesAre, AreFilesOwn, HasContentInParts, HasSha512, metadata_at, files_at}
use Rattle.dep_row_maps.specs.Laws.{FilesDropped, FileMissed, FileReplaced}
use Rattle.dep_row_maps.proofs.Blocks.{one_owner, same_owner, block_rows-empty, blocks-delete}
use Rattle.dep_row_maps.proofs.Files.{files-drop, files-put, files-without, one_object, remove-absent, same_number}
use Rattle.dep_row_maps.proofs.FilesOwn.{own-put, own-dropped, none_of, files_there, files_now, files_else, other_file, no_upload}
use Rattle.dep_row_maps.proofs.Lens.{tied_not}
use Rattle.dep_row_maps.proofs.Owners.{owners-delete, with_at}
use Rattle.dep_row_maps.proofs.Sha512s.{sha512s-delete, with_values, values_of, values_replaced}
use Rattle.dep_row_maps.proofs.Sides.{uploads_side, sides_changed}
use Rattle.dep_row_maps.proofs.Whole.{files_changed, texts_moved, uploads_left}

-- ---- all files of an object go

-- a number is one of these
abbrev is_among : List ℕ → ℕ → Bool
is_among fs f = list_any (eq_by_cmp nat_cmp f) fs

tied : (f : ℕ) → eq_by_cmp nat_cmp f f ≡ true
tied f = ap is_eq (tied_itself nat_cmp_total f)

-- these files have nothing, and each other owner what it had
pub record AreEmptied {X : Type 0} (nothing : X) (fs : List ℕ) (was now : BlockOwner → X) : Type 0 where
  pub gone : (f : ℕ) → is_among fs f ≡ true → now (owner.File f) ≡ nothing
  pub kept : (f : ℕ) → is_among fs f ≡ false → now (owner.File f) ≡ was (owner.File f)
  pub uploads : (u : ℕ) → now (owner.Upload u) ≡ was (owner.Upload u)

-- the rows of one more file are deleted
pub without_last : (is_its : BlockOwner → Row → Bool) (fs : List ℕ) (f : ℕ) (rows : List Row) → without_rows is_its (fs ++ f ∷ []) rows ≡ filter (λ r. not (is_its (owner.File f) r)) (without_rows is_its fs rows)
without_last is_its [] f rows = refl
without_last is_its (x ∷ fs) f rows = without_last is_its fs f (filter (λ r. not (is_its (owner.File x) r)) rows)

module _ {X : Type 0} (nothing : X) (see : Row → Row) (is_its : BlockOwner → Row → Bool) (one : (a b : BlockOwner) (r : Row) → is_its a r ≡ true → is_its b r ≡ true → a ≡ b) (shows : X → List Row) (empty : shows nothing ≡ []) where
  rows_gone : (fs : List ℕ) (rows : List Row) (was : BlockOwner → X) → OwnedAre see is_its rows (λ o. shows (was o)) → (now : BlockOwner → X) × OwnedAre see is_its (without_rows is_its fs rows) (λ o. shows (now o)) × AreEmptied nothing fs was now
  rows_gone [] rows was are = (was, are, record { gone = λ f among. absurd (cc); kept = λ f apart. refl; uploads = λ u. refl })
  rows_gone (x ∷ fs) rows was are =
      let mid = with_at same_owner was (owner.File x) nothing in
      let left = owners-delete see is_its one same_owner rows (λ o. shows (was o)) (λ o. shows (mid.0 o)) are (owner.File x) (ap shows mid.1 ∙ empty) (λ o apart. ap shows (mid.2 o apart)) in
      let rest = rows_gone fs (filter (λ r. not (is_its (owner.File x) r)) rows) mid.0 left in
      let others : (f : ℕ) → f ≢ x → mid.0 (owner.File f) ≡ was (owner.File f) = λ f apart. mid.2 (owner.File f) (other_file f x apart) in (
        rest.0,
        rest.1,
        record {
          gone = λ f among. gone f among (same_number f x) (is_among fs f) refl mid.0 rest.0 mid.1 rest.2;
          kept = λ f apart. kept f apart (same_number f x) mid.0 rest.0 others rest.2;
          uploads = λ u. rest.2.uploads u ∙ mid.2 (owner.Upload u) (no_upload u x);
        },
      )
    where
      gone : (f : ℕ) → is_among (x ∷ fs) f ≡ true → (f ≡ x) ⊎ (f ≢ x) → (b : Bool) → is_among fs f ≡ b → (mid now : BlockOwner → X) → mid (owner.File x) ≡ nothing → AreEmptied nothing fs mid now → now (owner.File f) ≡ nothing
      gone f among d true is mid now none rest = rest.gone f is
      gone f among (inl same) false is mid now none rest = rest.kept f is ∙ ap (λ k. mid (owner.File k)) same ∙ none
      gone f among (inr apart) false is mid now none rest = absurd (let no = tied_not f x apart in cc)

      kept : (f : ℕ) → is_among (x ∷ fs) f ≡ false → (f ≡ x) ⊎ (f ≢ x) → (mid now : BlockOwner → X) → ((k : ℕ) → k ≢ x → mid (owner.File k) ≡ was (owner.File k)) → AreEmptied nothing fs mid now → now (owner.File f) ≡ was (owner.File f)
      kept f out (inl same) mid now others rest = absurd (let yes = ap (eq_by_cmp nat_cmp f) (sym same) ∙ tied f in cc)
      kept f out (inr apart) mid now others rest = let no = tied_not f x apart in let out_of : is_among fs f ≡ false = cc in rest.kept f out_of ∙ others f apart

-- what the files of an object have is gone
own_gone : {X : Type 0} (Has : File → X → Type 0) (nothing : X) (objects : Numbered Object) (n : ℕ) (o : Object) → finmap.get objects n ≡ Some o → (was now : BlockOwner → X)
    → ((m f : ℕ) (a b : File) → finmap.get (files_at objects n) f ≡ Some a → finmap.get (files_at objects m) f ≡ Some b → n ≡ m) → AreEmptied nothing (finmap.keys o.files) was now
    → AreFilesOwn Has nothing objects was → AreFilesOwn Has nothing (finmap.insert objects n (record o { files = finmap.empty })) now
own_gone Has nothing objects n o there was now one emptied = own-dropped Has nothing objects n o there was now one (λ f file at. emptied.gone f (among f ∙ ap is_some at)) (λ f none. emptied.kept f (among f ∙ ap is_some none))
  where
    among : (f : ℕ) → is_among (finmap.keys o.files) f ≡ is_some (finmap.get o.files f)
    among f = sym (finmap.contains_key-keys o.files f)

pub files_dropped : FilesDropped
files_dropped t s h up n o there =
    let new = finmap.insert s.objects n (record o { files = finmap.empty }) in
    let same = files_changed s n o finmap.empty there in
    let parts = rows_gone finmap.empty shown_block is_block_of one_owner block_rows block_rows-empty (finmap.keys o.files) t.blocks h.common.parts h.common.blocks in
    let values = rows_gone None shown_sha512 is_sha512_of one_owner sha512_rows refl (finmap.keys o.files) t.sha512s h.values h.sha512s in
    let one = λ (m f : ℕ) (a b : File). one_object t.files (files_at s.objects) (files_at s.objects) h.common.files up n m f a b in
    with_values _ _ (sides_changed h.common parts.0 parts.1 (record {
      objects = h.common.objects ∙ sym same.0;
      metadata = texts_moved t.metadata (metadata_at s.objects) _ same.1 h.common.metadata;
      files = files-drop t.files (files_at s.objects) (files_at new) h.common.files up n (files_now s.objects n o finmap.empty) (files_else s.objects n o finmap.empty);
      own = own_gone HasContentInParts finmap.empty s.objects n o there h.common.parts parts.0 one parts.2 h.common.files_parts;
    }) (uploads_left t s h parts.0 parts.2.uploads)) (record {
      values = values.0;
      are = values.1;
      files = own_gone HasSha512 None s.objects n o there h.values values.0 one values.2 h.files_sha512s;
      uploads = λ u. values.2.uploads u ∙ h.uploads_sha512s u;
    })

-- ---- a file that is nowhere

pub file_missed : FileMissed
file_missed t s h up f nowhere = with_values _ _ (sides_changed h.common h.common.parts (blocks-delete t.blocks h.common.parts h.common.parts h.common.blocks (owner.File f) (h.common.files_parts.of_none f nowhere) (λ q apart. refl)) (record {
  objects = h.common.objects;
  metadata = h.common.metadata;
  files = files-without t.files (files_at s.objects) (files_at s.objects) h.common.files up f (λ m. sym (remove-absent (files_at s.objects m) f (nowhere m)));
  own = h.common.files_parts;
}) (uploads_side h.common)) (record {
  values = h.values;
  are = sha512s-delete t.sha512s h.values h.values h.sha512s (owner.File f) (h.files_sha512s.of_none f nowhere) (λ q apart. refl);
  files = h.files_sha512s;
  uploads = h.uploads_sha512s;
})

-- ---- a file is replaced

no_row : (id : ℤ) (rows : List Row) → find (has_rowid id) (without_rowid id rows) ≡ None
no_row id [] = refl
no_row id (r ∷ rows) = go (has_rowid id r) refl (no_row id rows)
  where
    go : (b : Bool) → has_rowid id r ≡ b → find (has_rowid id) (without_rowid id rows) ≡ None → find (has_rowid id) (without_rowid id (r ∷ rows)) ≡ None
    go true is more = rw is more
    go false is more = simp is more

inserted_over : {X : Type 0} (m : Numbered X) (k : ℕ) (x : X) → finmap.insert (finmap.remove m k) k x ≡ finmap.insert m k x
inserted_over m k x = finmap.same_map nat_cmp_total finmap.nat_cmp-IsAntisymmetric _ _ (λ q.
    finmap.get-insert nat_cmp_total (finmap.remove m k) k x q ∙ ap (cond (is_eq (nat_cmp q k)) (Some x)) (finmap.get-remove nat_cmp_total m k q) ∙ go q (nat_cmp q k) ∙ sym (finmap.get-insert nat_cmp_total m k x q))
  where
    go : (q : ℕ) (o : Ordering) → cond (is_eq o) (Some x) (cond (is_eq o) None (finmap.get m q)) ≡ cond (is_eq o) (Some x) (finmap.get m q)
    go q Less = refl
    go q Equal = refl
    go q Greater = refl

pub file_replaced : FileReplaced
file_replaced t s h up values_up n o there f was file at blocks parts are content others =
    let fs = finmap.insert o.files f file in
    let new = finmap.insert s.objects n (record o { files = fs }) in
    let same = files_changed s n o fs there in
    let at_n : finmap.get (files_at s.objects n) f ≡ Some was = ap (λ ys. finmap.get ys f) (files_there s.objects n o there) ∙ at in
    let free : (m : ℕ) → m ≢ n → finmap.get (files_at s.objects m) f ≡ None = λ m apart. none_of (finmap.get (files_at s.objects m) f) (λ x is. apart (one_object t.files (files_at s.objects) (files_at s.objects) h.common.files up m n f x was is at_n)) in
    let mid : FilesAre (without_rowid (pos f) t.files) (λ m. finmap.remove (files_at s.objects m) f) = files-without t.files (files_at s.objects) (λ m. finmap.remove (files_at s.objects m) f) h.common.files up f (λ m. refl) in
    with_values _ _ (sides_changed h.common parts are (record {
      objects = h.common.objects ∙ sym same.0;
      metadata = texts_moved t.metadata (metadata_at s.objects) _ same.1 h.common.metadata;
      files = files-put (without_rowid (pos f) t.files) (λ m. finmap.remove (files_at s.objects m) f) (files_at new) mid (IsShaped-filter shape.Table _ t.files up) n f file (no_row (pos f) t.files)
          (files_now s.objects n o fs ∙ sym (inserted_over o.files f file) ∙ ap (λ ys. finmap.insert (finmap.remove ys f) f file) (sym (files_there s.objects n o there)))
          (λ m apart. files_else s.objects n o fs m apart ∙ sym (remove-absent (files_at s.objects m) f (free m apart)));
      own = own-put HasContentInParts finmap.empty s.objects n o there h.common.parts parts f file free content (λ g apart. others (owner.File g) (other_file g f apart)) h.common.files_parts;
    }) (uploads_left t s h parts (λ u. others (owner.Upload u) (no_upload u f)))) (values_replaced t.sha512s s.objects s.uploads (values_of t s h) n o there f values_up file free)
