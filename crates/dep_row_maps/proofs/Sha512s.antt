-- The rows of `sha512s` against the value of each owner.
use Rattle.std.proofs.Common.{◌≡◌, ◌≢◌, ◌⊎◌, inl, inr, ℕ, ◌≤◌, not, List, [], ◌∷◌, length, map, filter, Option, Some, None, option_map, option_and_then, refl, sym, ap, subst, ◌∙◌, arith}
use Rattle.std.specs.Option.{option_to_list}
use Rattle.std.specs.List.Sorted.{IsPermutation}
use Rattle.std.proofs.lemmas.List.Sorted.{IsPermutation-refl}
use Rattle.std.specs.FinMap as finmap
use Rattle.sha2.specs.Sha512.{sha512}
use Rattle.sqlite.specs.declared.types.Value.{Value}
use Rattle.sqlite.specs.declared.types.Value.TheVariants.{Int, Blob}
use Rattle.sqlite_value.specs.Order.{Row}
use Rattle.sqlite_trees.proofs.TreeLemmas.{IsShaped-filter}
use Rattle.sqlite_trees.specs.declared.store.Shape.TheVariants as shape
use Rattle.dep_types.specs.Maps.{Numbered}
use Rattle.dep_types.specs.State.{State, Object, File, Upload}
use Rattle.dep_tables.specs.Rowids.{IsOrdered, put_next}
use Rattle.dep_tables.proofs.Sorted.{short_permutation}
use Rattle.dep_tables.specs.Rows.{sha512_values, is_sha512_of, value_in}
use Rattle.dep_tables.specs.Tables.{Tables}
use Rattle.dep_tables.specs.Versions.{our_version}
use Rattle.dep_tables.specs.declared.owner.BlockOwner.{BlockOwner}
use Rattle.dep_tables.specs.declared.owner.BlockOwner.TheVariants as owner
use Rattle.dep_row_maps.specs.Stored.{shown_sha512, sha512_rows}
use Rattle.dep_row_maps.specs.TablesAre.{TablesAre, TablesAreOf, Sha512s, Sha512sAre, HasSha512, AreFilesSha512s, AreUploadsSha512s, files_at, promised_at}
use Rattle.dep_row_maps.specs.ReadLaws.{ReportsSha512, Sha512Read}
use Rattle.dep_row_maps.proofs.Blocks.{one_owner, same_owner, is_owner}
use Rattle.dep_row_maps.proofs.Owners.{owners-put, owners-delete, with_at}
use Rattle.dep_row_maps.proofs.Files.{same_number}
use Rattle.dep_row_maps.proofs.FilesOwn.{own-moved, own-alike, own-put, own-removed, other_file, other_upload, no_upload, no_file}
use Rattle.dep_row_maps.proofs.Lens.{get_here, get_there, get_gone, get_left}

module _ (rows : List Row) (values now : Sha512s) (are : Sha512sAre rows values) where
  -- a value is put in for an owner that has none
  pub sha512s-put : IsOrdered rows → (o : BlockOwner) (value : List ℕ) → values o ≡ None → now o ≡ Some value → ((q : BlockOwner) → q ≢ o → now q ≡ values q) → Sha512sAre (put_next (sha512_values o value) rows) now
  sha512s-put up o value free new others =
      owners-put shown_sha512 is_sha512_of one_owner rows (λ x. sha512_rows (values x)) (λ x. sha512_rows (now x)) are up o (sha512_values o value) (Blob value ∷ [])
      (λ id. is_owner o (Int id ∷ sha512_values o value) refl refl) (λ id. refl) (rw (free, new) (IsPermutation-refl ((Blob value ∷ []) ∷ []))) (λ x apart. ap sha512_rows (others x apart))

  -- an owner's value is deleted
  pub sha512s-delete : (o : BlockOwner) → now o ≡ None → ((q : BlockOwner) → q ≢ o → now q ≡ values q) → Sha512sAre (filter (λ r. not (is_sha512_of o r)) rows) now
  sha512s-delete o none others =
      owners-delete shown_sha512 is_sha512_of one_owner same_owner rows (λ x. sha512_rows (values x)) (λ x. sha512_rows (now x)) are o (ap sha512_rows none) (λ x apart. ap sha512_rows (others x apart))

-- ---- the values of the files, and of the promises

-- the rows have a value for each file of the objects and each promise of the uploads, and no other
pub record AreValuesOf (rows : List Row) (objects : Numbered Object) (staged : Numbered Upload) : Type 0 where
  pub values : Sha512s
  pub are : Sha512sAre rows values
  pub files : AreFilesSha512s objects values
  pub uploads : AreUploadsSha512s staged values

pub with_values : (t : Tables) (s : State) → TablesAreOf our_version t s → AreValuesOf t.sha512s s.objects s.uploads → TablesAre t s
with_values t s common its = record {
  common = common;
  values = its.values;
  sha512s = its.are;
  files_sha512s = its.files;
  uploads_sha512s = its.uploads;
}

pub values_of : (t : Tables) (s : State) → TablesAre t s → AreValuesOf t.sha512s s.objects s.uploads
values_of t s h = record { values = h.values; are = h.sha512s; files = h.files_sha512s; uploads = h.uploads_sha512s }

-- none change where the objects have the same files, and the uploads the same promises
pub values_stay : (t now : Tables) (s new : State) → TablesAre t s → TablesAreOf our_version now new → now.sha512s ≡ t.sha512s → ((q : ℕ) → files_at new.objects q ≡ files_at s.objects q)
    → ((u : ℕ) → promised_at new.uploads u ≡ promised_at s.uploads u) → TablesAre now new
values_stay t now s new h common same files promises = record {
  common = common;
  values = h.values;
  sha512s = subst (λ rows. Sha512sAre rows h.values) (sym same) h.sha512s;
  files_sha512s = own-moved HasSha512 None s.objects new.objects h.values files h.files_sha512s;
  uploads_sha512s = λ u. h.uploads_sha512s u ∙ sym (promises u);
}

-- ---- the promise under a number

abbrev promise_in : Upload → Option (List ℕ)
promise_in it = it.sha512

module _ (staged : Numbered Upload) (u : ℕ) (it : Upload) where
  pub promise_there : finmap.get staged u ≡ Some it → promised_at staged u ≡ it.sha512
  promise_there there = ap (option_and_then promise_in) there

  promise_here : promised_at (finmap.insert staged u it) u ≡ it.sha512
  promise_here = ap (option_and_then promise_in) (get_here staged u it)

  other_promises : (q : ℕ) → q ≢ u → promised_at (finmap.insert staged u it) q ≡ promised_at staged q
  other_promises q apart = ap (option_and_then promise_in) (get_there staged u it q apart)

  -- an upload comes in the place of one of the same promise
  pub same_promises : it.sha512 ≡ promised_at staged u → (q : ℕ) → promised_at (finmap.insert staged u it) q ≡ promised_at staged q
  same_promises is q = go (same_number q u)
    where
      go : (q ≡ u) ⊎ (q ≢ u) → promised_at (finmap.insert staged u it) q ≡ promised_at staged q
      go (inl e) = ap (promised_at (finmap.insert staged u it)) e ∙ promise_here ∙ is ∙ ap (promised_at staged) (sym e)
      go (inr apart) = other_promises q apart

module _ (rows : List Row) (objects : Numbered Object) (staged : Numbered Upload) (h : AreValuesOf rows objects staged) where
  -- ---- of a file

  module _ (n : ℕ) (o : Object) (there : finmap.get objects n ≡ Some o) (f : ℕ) where
    -- that of a file that is put in
    pub values_put : IsOrdered rows → (file : File) → ((m : ℕ) → finmap.get (files_at objects m) f ≡ None)
        → AreValuesOf (put_next (sha512_values (owner.File f) (sha512 file.content)) rows) (finmap.insert objects n (record o { files = finmap.insert o.files f file })) staged
    values_put up file free =
        let now = with_at same_owner h.values (owner.File f) (Some (sha512 file.content)) in
        record {
          values = now.0;
          are = sha512s-put rows h.values now.0 h.are up (owner.File f) (sha512 file.content) (h.files.of_none f free) now.1 now.2;
          files = own-put HasSha512 None objects n o there h.values now.0 f file (λ m apart. free m) now.1 (λ g apart. now.2 (owner.File g) (other_file g f apart)) h.files;
          uploads = λ u. now.2 (owner.Upload u) (no_upload u f) ∙ h.uploads u;
        }

    -- that of a file that goes
    pub values_removed : ((m : ℕ) → m ≢ n → finmap.get (files_at objects m) f ≡ None)
        → AreValuesOf (filter (λ r. not (is_sha512_of (owner.File f) r)) rows) (finmap.insert objects n (record o { files = finmap.remove o.files f })) staged
    values_removed free =
        let now = with_at same_owner h.values (owner.File f) None in
        record {
          values = now.0;
          are = sha512s-delete rows h.values now.0 h.are (owner.File f) now.1 now.2;
          files = own-removed HasSha512 None objects n o there h.values now.0 f free now.1 (λ g apart. now.2 (owner.File g) (other_file g f apart)) h.files;
          uploads = λ u. now.2 (owner.Upload u) (no_upload u f) ∙ h.uploads u;
        }

    -- that of a file that goes, and of another that takes its number
    pub values_replaced : IsOrdered rows → (file : File) → ((m : ℕ) → m ≢ n → finmap.get (files_at objects m) f ≡ None)
        → AreValuesOf (put_next (sha512_values (owner.File f) (sha512 file.content)) (filter (λ r. not (is_sha512_of (owner.File f) r)) rows)) (finmap.insert objects n (record o { files = finmap.insert o.files f file })) staged
    values_replaced up file free =
        let mid = with_at same_owner h.values (owner.File f) None in
        let now = with_at same_owner mid.0 (owner.File f) (Some (sha512 file.content)) in
        record {
          values = now.0;
          are = sha512s-put (filter (λ r. not (is_sha512_of (owner.File f) r)) rows) mid.0 now.0 (sha512s-delete rows h.values mid.0 h.are (owner.File f) mid.1 mid.2)
              (IsShaped-filter shape.Table _ rows up) (owner.File f) (sha512 file.content) mid.1 now.1 now.2;
          files = own-put HasSha512 None objects n o there h.values now.0 f file free now.1 (λ g apart. now.2 (owner.File g) (other_file g f apart) ∙ mid.2 (owner.File g) (other_file g f apart)) h.files;
          uploads = λ u. now.2 (owner.Upload u) (no_upload u f) ∙ mid.2 (owner.Upload u) (no_upload u f) ∙ h.uploads u;
        }

  -- ---- of an upload

  module _ (u : ℕ) where
    -- only this upload's promise is another
    promises_now : (now : Sha512s) (new : Numbered Upload) → now (owner.Upload u) ≡ promised_at new u → ((q : BlockOwner) → q ≢ owner.Upload u → now q ≡ h.values q) → ((q : ℕ) → q ≢ u → promised_at new q ≡ promised_at staged q)
        → AreUploadsSha512s new now
    promises_now now new here others promises q = go (same_number q u)
      where
        go : (q ≡ u) ⊎ (q ≢ u) → now (owner.Upload q) ≡ promised_at new q
        go (inl is) = ap (λ x. now (owner.Upload x)) is ∙ here ∙ ap (promised_at new) (sym is)
        go (inr apart) = others (owner.Upload q) (other_upload q u apart) ∙ h.uploads q ∙ sym (promises q apart)

    -- that of an upload that is put in
    pub promise_put : IsOrdered rows → (it : Upload) (value : List ℕ) → it.sha512 ≡ Some value → promised_at staged u ≡ None → AreValuesOf (put_next (sha512_values (owner.Upload u) value) rows) objects (finmap.insert staged u it)
    promise_put up it value is none =
        let now = with_at same_owner h.values (owner.Upload u) (Some value) in
        record {
          values = now.0;
          are = sha512s-put rows h.values now.0 h.are up (owner.Upload u) value (h.uploads u ∙ none) now.1 now.2;
          files = own-alike HasSha512 None objects h.values now.0 (λ f. now.2 (owner.File f) (no_file f u)) h.files;
          uploads = promises_now now.0 (finmap.insert staged u it) (now.1 ∙ sym is ∙ sym (promise_here staged u it)) now.2 (other_promises staged u it);
        }

    -- an upload of which none was promised is put in
    pub promise_none : (it : Upload) → it.sha512 ≡ None → promised_at staged u ≡ None → AreValuesOf rows objects (finmap.insert staged u it)
    promise_none it is none = record {
      values = h.values;
      are = h.are;
      files = h.files;
      uploads = λ q. h.uploads q ∙ sym (same_promises staged u it (is ∙ sym none) q);
    }

    -- that of an upload that goes
    pub promise_removed : AreValuesOf (filter (λ r. not (is_sha512_of (owner.Upload u) r)) rows) objects (finmap.remove staged u)
    promise_removed =
        let now = with_at same_owner h.values (owner.Upload u) None in
        record {
          values = now.0;
          are = sha512s-delete rows h.values now.0 h.are (owner.Upload u) now.1 now.2;
          files = own-alike HasSha512 None objects h.values now.0 (λ f. now.2 (owner.File f) (no_file f u)) h.files;
          uploads = promises_now now.0 (finmap.remove staged u) (now.1 ∙ sym (ap (option_and_then promise_in) (get_gone staged u))) now.2 (λ q apart. ap (option_and_then promise_in) (get_left staged u q apart));
        }

-- that of an upload that goes, and of a file that is put in
pub values_assembled : (t : Tables) (s : State) → TablesAre t s → (n : ℕ) (o : Object) → finmap.get s.objects n ≡ Some o → (f : ℕ) → IsOrdered t.sha512s → (file : File) → ((m : ℕ) → finmap.get (files_at s.objects m) f ≡ None) → (u : ℕ)
    → AreValuesOf (put_next (sha512_values (owner.File f) (sha512 file.content)) (filter (λ r. not (is_sha512_of (owner.Upload u) r)) t.sha512s)) (finmap.insert s.objects n (record o { files = finmap.insert o.files f file })) (finmap.remove s.uploads u)
values_assembled t s h n o there f up file free u =
    values_put (filter (λ r. not (is_sha512_of (owner.Upload u) r)) t.sha512s) s.objects (finmap.remove s.uploads u) (promise_removed t.sha512s s.objects s.uploads (values_of t s h) u) n o there f (IsShaped-filter shape.Table _ t.sha512s up) file free

-- ---- reading

shown_as : (rows : List Row) → map shown_sha512 rows ≡ map (λ (v : Value). v ∷ []) (map value_in rows)
shown_as [] = refl
shown_as (r ∷ rows) = ap (λ rs. shown_sha512 r ∷ rs) (shown_as rows)

rows_as : (found : Option (List ℕ)) → map (λ (v : Value). v ∷ []) (option_to_list (option_map Blob found)) ≡ sha512_rows found
rows_as None = refl
rows_as (Some value) = refl

one_value : (found : Option (List ℕ)) → length (sha512_rows found) ≤ 1
one_value None = omega arith
one_value (Some value) = omega arith

same_value : (a b : Option (List ℕ)) → sha512_rows a ≡ sha512_rows b → a ≡ b
same_value None None e = refl
same_value None (Some b) e = absurd (cc)
same_value (Some a) None e = absurd (cc)
same_value (Some a) (Some b) e = cc

-- what a look for an owner's value finds is that value
pub sha512_found : (rows : List Row) (values : Sha512s) → Sha512sAre rows values → (o : BlockOwner) (found : Option (List ℕ)) → map value_in (filter (is_sha512_of o) rows) ≡ option_to_list (option_map Blob found) → found ≡ values o
sha512_found rows values are o found is =
    let shown : map shown_sha512 (filter (is_sha512_of o) rows) ≡ sha512_rows found = shown_as (filter (is_sha512_of o) rows) ∙ ap (map (λ (v : Value). v ∷ [])) is ∙ rows_as found in
    sym (same_value (values o) found (short_permutation (sha512_rows found) (sha512_rows (values o)) (one_value found) (subst (λ rs. IsPermutation rs (sha512_rows (values o))) shown (are.of_each o))))

pub sha512_read : Sha512Read
sha512_read t s h o found is = reports o (sha512_found t.sha512s h.values h.sha512s o found is)
  where
    reports : (q : BlockOwner) → found ≡ h.values q → ReportsSha512 s q found
    reports (owner.File f) its = (λ n file there. its ∙ h.files_sha512s.of_files n f file there, λ none. its ∙ h.files_sha512s.of_none f none)
    reports (owner.Upload u) its = its ∙ h.uploads_sha512s u
