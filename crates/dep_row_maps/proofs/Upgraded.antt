-- Tables of version 1 that gain the values of their files.
use Rattle.std.proofs.Common.{◌≡◌, ◌≤◌, inl, inr, ℕ, pos, Bool, true, false, ◌&&◌, cond, if◌then◌else◌, List, [], ◌∷◌, ◌++◌, map, filter, find, Option, Some, None, is_eq, is_gt, int_cmp, nat_cmp, refl, sym, ap, subst, ◌∙◌, append-nil, append_assoc, arith}
use Rattle.std.specs.Prelude.{option_map}
use Rattle.std.specs.Option.{option_map_or}
use Rattle.std.specs.List.{AllByRecursion}
use Rattle.std.specs.List.Sorted.{IsPermutation}
use Rattle.std.specs.FinMap as finmap
use Rattle.std.proofs.lemmas.Bool.{cases_Bool}
use Rattle.std.proofs.lemmas.Bool.Decides.{nat_tests}
use Rattle.std.proofs.lemmas.List.{map-append}
use Rattle.std.proofs.lemmas.List.Elements.{filter-append}
use Rattle.std.proofs.lemmas.List.Sorted.{IsPermutation-refl}
use Rattle.sha2.specs.Sha512.{sha512}
use Rattle.sqlite_value.specs.Order.{Row, column, value_cmp}
use Rattle.sqlite_value.specs.declared.value.Value.{Value}
use Rattle.sqlite_value.specs.declared.value.Value.TheVariants.{Null, Int, Blob}
use Rattle.sqlite_value.proofs.OrderLemmas.{value_cmp_total, value_cmp-Int}
use Rattle.sqlite_trees.specs.Tree.{rowid, has_rowid}
use Rattle.sqlite_trees.specs.declared.store.Shape.TheVariants as shape
use Rattle.sqlite_trees.proofs.TreeLemmas.{IsShaped-put_row, IsShaped-filter, all-put_row}
use Rattle.sqlite_rules.specs.Edit.{next_rowid}
use Rattle.dep_types.specs.Maps.{Numbered}
use Rattle.dep_types.specs.Sound.{IsSound}
use Rattle.dep_types.specs.State.{State, Object, File, Upload}
use Rattle.dep_tables.specs.Rowids.{IsOrdered, put_next, is_after, replaced}
use Rattle.dep_tables.proofs.Keys.{found_row}
use Rattle.dep_tables.specs.Rows.{stored_format, sha512_values, is_sha512_of}
use Rattle.dep_tables.specs.Versions.{our_version, older_version}
use Rattle.dep_tables.specs.declared.owner.BlockOwner.{BlockOwner}
use Rattle.dep_tables.specs.declared.owner.BlockOwner.TheVariants as owner
use Rattle.dep_tables.specs.declared.sha512s.FileSha512.{FileSha512}
use Rattle.dep_row_maps.specs.Keyed.{rows_of}
use Rattle.dep_row_maps.specs.Owned.{put_each, owned, HaveOwners}
use Rattle.dep_row_maps.specs.Stored.{file_stored, is_file_of, shown_sha512, sha512_rows}
use Rattle.dep_row_maps.specs.TablesAre.{FilesAre, Sha512s, files_at, promised_at}
use Rattle.dep_row_maps.specs.Sha512s.{value_rows, AreOfContents, TablesUpgraded}
use Rattle.dep_row_maps.proofs.Puts.{put_next-last}
use Rattle.dep_row_maps.proofs.Blocks.{one_owner, is_owner}
use Rattle.dep_row_maps.proofs.Files.{number_itself, equal_is, filters_swap}
use Rattle.dep_row_maps.proofs.Orphans.{no_row}
use Rattle.dep_row_maps.proofs.Rows.{found_row_of}
use Rattle.dep_row_maps.proofs.Sha512s.{AreValuesOf, with_values}
use Rattle.dep_row_maps.proofs.Sides.{rest_changed}

-- values as their rows are shown
abbrev rows_in : List FileSha512 → List Row
rows_in vs = map (λ v. Blob v.value ∷ []) vs

abbrev row_of : FileSha512 → Row
row_of v = sha512_values (owner.File v.file) v.value

abbrev key : FileSha512 → Value
key v = Int (pos v.file)

-- ---- what an owner has once they are in

module _ (o : BlockOwner) where
  abbrev mine : FileSha512 → Bool
  mine v = is_sha512_of o (Null ∷ row_of v)

  one_in : (b : Bool) (r : Row) (v : FileSha512) → shown_sha512 r ≡ Blob v.value ∷ [] → map shown_sha512 (cond b (r ∷ []) []) ≡ rows_in (cond b (v ∷ []) [])
  one_in true r v is = ap (λ x. x ∷ []) is
  one_in false r v is = refl

  joined : (b : Bool) (v : FileSha512) (vs : List FileSha512) → rows_in (cond b (v ∷ []) []) ++ rows_in vs ≡ rows_in (cond b (v ∷ vs) vs)
  joined true v vs = refl
  joined false v vs = refl

  values_in : (vs : List FileSha512) (rows : List Row) → IsOrdered rows → owned shown_sha512 (is_sha512_of o) (put_each (value_rows vs) rows) ≡ owned shown_sha512 (is_sha512_of o) rows ++ rows_in (filter mine vs)
  values_in [] rows up = sym (append-nil (owned shown_sha512 (is_sha512_of o) rows))
  values_in (v ∷ vs) rows up =
      let new = Int (next_rowid rows) ∷ row_of v in
      let was = owned shown_sha512 (is_sha512_of o) rows in
      let last : owned shown_sha512 (is_sha512_of o) (put_next (row_of v) rows) ≡ was ++ rows_in (cond (mine v) (v ∷ []) []) =
      ap (owned shown_sha512 (is_sha512_of o)) (put_next-last (row_of v) rows up) ∙ ap (map shown_sha512) (filter-append (is_sha512_of o) rows (new ∷ []))
      ∙ map-append shown_sha512 (filter (is_sha512_of o) rows) (filter (is_sha512_of o) (new ∷ [])) ∙ ap (λ l. was ++ l) (one_in (mine v) new v refl) in
      values_in vs (put_next (row_of v) rows) (IsShaped-put_row _ rows refl up) ∙ ap (λ l. l ++ rows_in (filter mine vs)) last
      ∙ append_assoc was (rows_in (cond (mine v) (v ∷ []) [])) (rows_in (filter mine vs)) ∙ ap (λ l. was ++ l) (joined (mine v) v (filter mine vs))

-- each row is of a file
all_of_files : (vs : List FileSha512) (rows : List Row) → HaveOwners is_sha512_of rows → HaveOwners is_sha512_of (put_each (value_rows vs) rows)
all_of_files [] rows h = h
all_of_files (v ∷ vs) rows h =
    all_of_files vs (put_next (row_of v) rows) (all-put_row _ (Int (next_rowid rows) ∷ row_of v) rows (owner.File v.file, is_owner (owner.File v.file) (Int (next_rowid rows) ∷ row_of v) refl refl) h)

-- an upload has none
not_of_upload : (u : ℕ) (v : FileSha512) → mine (owner.Upload u) v ≡ false
not_of_upload u v = elim (cases_Bool (mine (owner.Upload u) v)) [
  | inl so ↦ absurd (let same = one_owner (owner.Upload u) (owner.File v.file) (Null ∷ row_of v) so (is_owner (owner.File v.file) (Null ∷ row_of v) refl refl) in cc)
  | inr not_so ↦ not_so
]

none_of_upload : (u : ℕ) (vs : List FileSha512) → filter (mine (owner.Upload u)) vs ≡ []
none_of_upload u [] = refl
none_of_upload u (v ∷ vs) = rw (not_of_upload u v) (none_of_upload u vs)

-- ---- a file has one

module _ (f : ℕ) where
  its_number : (v : FileSha512) (x : Row) → key v ≡ rowid x → mine (owner.File f) v ≡ has_rowid (pos f) x
  its_number v x same = ap (λ b. b && is_eq (value_cmp (Int (pos v.file)) (Int (pos f)))) (number_itself 0) ∙ ap (λ w. is_eq (value_cmp w (Int (pos f)))) same

  none_along : (rows : List Row) (vs : List FileSha512) → map key vs ≡ map rowid rows → filter (has_rowid (pos f)) rows ≡ [] → filter (mine (owner.File f)) vs ≡ []
  none_along [] [] e none = refl
  none_along [] (v ∷ vs) e none = absurd (cc)
  none_along (x ∷ rows) [] e none = absurd (cc)
  none_along (x ∷ rows) (v ∷ vs) e none =
      let head : key v ≡ rowid x = cc in
      let tail : map key vs ≡ map rowid rows = cc in
      go (has_rowid (pos f) x) none (its_number v x head) (none_along rows vs tail)
    where
      go : (b : Bool) → cond b (x ∷ filter (has_rowid (pos f)) rows) (filter (has_rowid (pos f)) rows) ≡ [] → mine (owner.File f) v ≡ b
          → (filter (has_rowid (pos f)) rows ≡ [] → filter (mine (owner.File f)) vs ≡ []) → filter (mine (owner.File f)) (v ∷ vs) ≡ []
      go true none is later = absurd (cc)
      go false none is later = rw is (later none)

  one_along : (P : FileSha512 → Type 0) (r : Row) (rows : List Row) (vs : List FileSha512) → map key vs ≡ map rowid rows → AllByRecursion P vs → filter (has_rowid (pos f)) rows ≡ r ∷ []
      → (v : FileSha512) × (filter (mine (owner.File f)) vs ≡ v ∷ []) × (key v ≡ rowid r) × P v
  one_along P r [] [] e all one = absurd (cc)
  one_along P r [] (v ∷ vs) e all one = absurd (cc)
  one_along P r (x ∷ rows) [] e all one = absurd (cc)
  one_along P r (x ∷ rows) (v ∷ vs) e all one =
      let head : key v ≡ rowid x = cc in
      let tail : map key vs ≡ map rowid rows = cc in
      go (has_rowid (pos f) x) one (its_number v x head) head (none_along rows vs tail) (one_along P r rows vs tail all.1)
    where
      go : (b : Bool) → cond b (x ∷ filter (has_rowid (pos f)) rows) (filter (has_rowid (pos f)) rows) ≡ r ∷ [] → mine (owner.File f) v ≡ b → key v ≡ rowid x
          → (filter (has_rowid (pos f)) rows ≡ [] → filter (mine (owner.File f)) vs ≡ [])
          → (filter (has_rowid (pos f)) rows ≡ r ∷ [] → (w : FileSha512) × (filter (mine (owner.File f)) vs ≡ w ∷ []) × (key w ≡ rowid r) × P w)
          → (w : FileSha512) × (filter (mine (owner.File f)) (v ∷ vs) ≡ w ∷ []) × (key w ≡ rowid r) × P w
      go true one is head none later =
          let same : x ≡ r = cc in
          let rest : filter (has_rowid (pos f)) rows ≡ [] = cc in
          (v, rw is (ap (λ l. v ∷ l) (none rest)), head ∙ ap rowid same, all.0)
      go false one is head none later = let it = later one in (it.0, rw is it.1, it.2, it.3)

-- ---- the row of a file

not_in_part : (p q : Row → Bool) (xs : List Row) → filter p xs ≡ [] → find p (filter q xs) ≡ None
not_in_part p q [] none = refl
not_in_part p q (x ∷ xs) none = go (p x) refl none (q x) (not_in_part p q xs)
  where
    go : (b : Bool) → p x ≡ b → cond b (x ∷ filter p xs) (filter p xs) ≡ [] → (c : Bool) → (filter p xs ≡ [] → find p (filter q xs) ≡ None) → find p (cond c (x ∷ filter q xs) (filter q xs)) ≡ None
    go true is none c later = absurd (cc)
    go false is none true later = rw is (later none)
    go false is none false later = later none

of_both : (p q : Row → Bool) → ((x : Row) → p x ≡ true → q x ≡ true) → (xs : List Row) → filter p (filter q xs) ≡ filter p xs
of_both p q within [] = refl
of_both p q within (x ∷ xs) = go (q x) (p x) refl refl (of_both p q within xs)
  where
    go : (c b : Bool) → q x ≡ c → p x ≡ b → filter p (filter q xs) ≡ filter p xs → filter p (cond c (x ∷ filter q xs) (filter q xs)) ≡ cond b (x ∷ filter p xs) (filter p xs)
    go true true there is more = rw is (ap (λ l. x ∷ l) more)
    go true false there is more = rw is more
    go false true there is more = absurd (let so = sym there ∙ within x is in cc)
    go false false there is more = more

positive : (f : ℕ) → 1 ≤ f → is_gt (int_cmp (pos f) (pos 0)) ≡ true
positive f least = grind (arith, nat_tests)

-- a row with a number above 0 is behind 0
is_behind : (f : ℕ) → 1 ≤ f → (x : Row) → has_rowid (pos f) x ≡ true → is_after 0 x ≡ true
is_behind f least x its =
    ap is_gt (value_cmp_total.congr (rowid x) (Int (pos f)) (Int (pos 0)) (equal_is _ its)) ∙ ap is_gt (value_cmp-Int (pos f) (pos 0)) ∙ positive f least

none_found : (p : Row → Bool) (xs : List Row) → find p xs ≡ None → filter p xs ≡ []
none_found p [] none = refl
none_found p (x ∷ xs) none = go (p x) none (none_found p xs)
  where
    go : (b : Bool) → cond b (Some x) (find p xs) ≡ None → (find p xs ≡ None → filter p xs ≡ []) → cond b (x ∷ filter p xs) (filter p xs) ≡ []
    go true none more = absurd (cc)
    go false none more = more none

abbrev first_value : List FileSha512 → Option (List ℕ)
first_value [] = None
first_value (v ∷ vs) = Some v.value

module _ (objects : Numbered Object) (rows : List Row) (are : FilesAre rows (files_at objects)) (up : IsOrdered rows) where
  abbrev behind : List Row
  behind = filter (is_after 0) rows

  its_row : (n f : ℕ) (file : File) → finmap.get (files_at objects n) f ≡ Some file → 1 ≤ f → (r : Row) × (filter (has_rowid (pos f)) behind ≡ r ∷ []) × (rowid r ≡ Int (pos f))
  its_row n f file there least = elim (found_row (pos f) rows up) [
    | inl none ↦ absurd (
        let found : find (has_rowid (pos f)) (rows_of (file_stored n) (files_at objects n)) ≡ Some (file_stored n f file) = found_row_of (file_stored n) (λ k x. refl) f (files_at objects n) ∙ ap (option_map (file_stored n f)) there in
        let lost = sym (ap (find (has_rowid (pos f))) (are.of_each n)) ∙ not_in_part (has_rowid (pos f)) (is_file_of n) rows none in
        let both : Some (file_stored n f file) ≡ None = sym found ∙ lost in cc)
    | inr one ↦ (one.0, of_both (has_rowid (pos f)) (is_after 0) (is_behind f least) rows ∙ one.1, one.2)
  ]

  module _ (vs : List FileSha512) (numbered : map key vs ≡ map rowid behind) (each : AreOfContents objects vs) where
    abbrev value : Sha512s
    value o = first_value (filter (mine o) vs)

    -- an owner has one at most
    few : (o : BlockOwner) → sha512_rows (value o) ≡ rows_in (filter (mine o) vs)
    few (owner.Upload u) = rw (none_of_upload u vs) refl
    few (owner.File f) = elim (found_row (pos f) behind (IsShaped-filter shape.Table _ rows up)) [
      | inl none ↦ rw (none_along f behind vs numbered none) refl
      | inr one ↦ let its = one_along f _ one.0 behind vs numbered each one.1 in rw its.1 refl
    ]

    of_file : (n f : ℕ) (file : File) → finmap.get (files_at objects n) f ≡ Some file → 1 ≤ f → value (owner.File f) ≡ Some (sha512 file.content)
    of_file n f file there least =
        let row = its_row n f file there least in
        let one = one_along f _ row.0 behind vs numbered each row.1 in
        let same : one.0.file ≡ f = let e = one.2 ∙ row.2 in cc in
        ap first_value one.1 ∙ ap Some (one.3 n file (subst (λ k. finmap.get (files_at objects n) k ≡ Some file) (sym same) there))

    of_none : (f : ℕ) → ((n : ℕ) → finmap.get (files_at objects n) f ≡ None) → value (owner.File f) ≡ None
    of_none f none =
        let nowhere : filter (has_rowid (pos f)) rows ≡ [] = none_found (has_rowid (pos f)) rows (no_row rows (files_at objects) are up f none) in
        ap first_value (none_along f behind vs numbered (filters_swap (has_rowid (pos f)) (is_after 0) rows ∙ ap (filter (is_after 0)) nowhere))

    -- each file has the value of its content, and where nothing was promised there are no other values
    pub values_are : ((n f : ℕ) (file : File) → finmap.get (files_at objects n) f ≡ Some file → 1 ≤ f) → (staged : Numbered Upload) → ((u : ℕ) → promised_at staged u ≡ None)
        → AreValuesOf (put_each (value_rows vs) []) objects staged
    values_are least staged unpromised = record {
      values = value;
      are = record {
        of_each = λ o. subst (IsPermutation (owned shown_sha512 (is_sha512_of o) (put_each (value_rows vs) []))) (values_in o vs [] (tt, tt) ∙ sym (few o)) (IsPermutation-refl (owned shown_sha512 (is_sha512_of o) (put_each (value_rows vs) [])));
        owners = all_of_files vs [] tt;
      };
      files = record { of_files = λ n f file there. of_file n f file there (least n f file there); of_none = of_none };
      uploads = λ u. ap first_value (none_of_upload u vs) ∙ sym (unpromised u);
    }

-- ---- the version

-- the one row of `format` with our version
version_set : (format : List Row) (version : ℕ) → map (λ r. column r 0 ∷ column r 2 ∷ []) format ≡ (Int (pos 1) ∷ Int (pos version) ∷ []) ∷ []
    → map (λ r. column r 0 ∷ column r 2 ∷ []) (replaced (stored_format our_version) format) ≡ (Int (pos 1) ∷ Int (pos our_version) ∷ []) ∷ []
version_set [] version e = absurd (cc)
version_set (r ∷ []) version e =
    let is : column r 0 ∷ column r 2 ∷ [] ≡ Int (pos 1) ∷ Int (pos version) ∷ [] = cc in
    let first : column r 0 ≡ Int (pos 1) = ap (λ x. column x 0) is in
    let tied : is_eq (value_cmp (rowid r) (Int (pos 1))) ≡ true = ap (λ v. is_eq (value_cmp v (Int (pos 1)))) first ∙ number_itself 1 in
    ap (λ b. map (λ (x : Row). column x 0 ∷ column x 2 ∷ []) ((if b then stored_format our_version else r) ∷ [])) tied
version_set (r ∷ x ∷ format) version e = absurd (cc)

-- ---- all tables

least_number : (s : State) → IsSound s → (n f : ℕ) (file : File) → finmap.get (files_at s.objects n) f ≡ Some file → 1 ≤ f
least_number s sound n f file there = go (finmap.get s.objects n) refl there
  where
    go : (o : Option Object) → finmap.get s.objects n ≡ o → finmap.get (option_map_or (λ (x : Object). x.files) o finmap.empty) f ≡ Some file → 1 ≤ f
    go None is e = absurd (let none = sym (finmap.get-empty {X = File} nat_cmp f) ∙ e in cc)
    go (Some o) is e = ((sound.objects n o is).files f file e).number_given.least

pub tables_upgraded : TablesUpgraded
tables_upgraded t s h sound up values numbered each =
    with_values _ _ (rest_changed h.common our_version _ t.state t.timed_out s.clock s.next s.timed_out (version_set t.format older_version h.common.format) h.common.state h.common.timed_out)
    (values_are s.objects t.files h.common.files up values numbered each (least_number s sound) s.uploads h.unpromised)
