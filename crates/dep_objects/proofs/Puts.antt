-- What the statements come to on the maps.
use Rattle.std.proofs.Common.{◌≡◌, ℕ, ℤ, pos, Bool, true, false, List, [], ◌∷◌, not, filter, find, Option, None, Some, refl, sym, ap, subst, ◌∙◌}
use Rattle.std.specs.Prelude.{option_map}
use Rattle.std.specs.Option.{option_map_or}
use Rattle.std.specs.FinMap as finmap
use Rattle.std.specs.Ordering.{is_eq}
use Rattle.sqlite.specs.declared.types.Value.TheVariants.{Int}
use Rattle.sqlite_value.specs.Order.{Row, value_cmp}
use Rattle.sqlite_trees.specs.Tree.{has_rowid, rowid, without_rowid}
use Rattle.dep_types.specs.Maps.{Numbered}
use Rattle.dep_types.specs.State.{State, Object, File, Texts}
use Rattle.dep_types.specs.Sound.{IsSound}
use Rattle.dep_types.specs.Rows.{object_row}
use Rattle.dep_types.specs.declared.rows.ObjectRow.{ObjectRow}
use Rattle.dep_tables.specs.Rowids.{IsOrdered, row_at, replaced, has_number}
use Rattle.dep_tables.specs.Edits.{LacksObjectRow, with_new_object_row, with_object_row}
use Rattle.dep_tables.specs.Rows.{stored_object}
use Rattle.dep_tables.specs.Tables.{Tables}
use Rattle.dep_row_maps.specs.TablesAre.{TablesAre, metadata_at, files_at, with_object}
use Rattle.dep_row_maps.proofs.Whole.{object_put, object_found, object_written, object_deleted}
use Rattle.dep_row_maps.specs.Stored.{grouped, HasRow, listed, object_stored}
use Rattle.dep_row_maps.proofs.Metadata.{grouped-listed}
use Rattle.dep_objects.specs.declared.objects.DescribedObject.{DescribedObject}
use Rattle.dep_objects.specs.Objects.{object_of, described_object}

-- ---- one row is put in, or written

none_before : {A B : Type 0} (f : A → B) (x : Option A) → option_map f x ≡ None → x ≡ None
none_before f None none = refl
none_before f (Some a) none = absurd (cc)

-- no row has the key of the one that is written
kept : (id : ℤ) (new : Row) (rows : List Row) → rowid new ≡ Int id → find (has_rowid id) rows ≡ None → replaced new rows ≡ rows
kept id new [] keyed none = refl
kept id new (x ∷ rows) keyed none = go (has_rowid id x) refl (kept id new rows keyed)
  where
    go : (b : Bool) → has_rowid id x ≡ b → (find (has_rowid id) rows ≡ None → replaced new rows ≡ rows) → replaced new (x ∷ rows) ≡ x ∷ rows
    go true is more = let found : Some x ≡ None = rw is at none in absurd (cc)
    go false is more =
        let later : find (has_rowid id) rows ≡ None = rw is at none in
        let other : is_eq (value_cmp (rowid x) (rowid new)) ≡ false = ap (λ v. is_eq (value_cmp (rowid x) v)) keyed ∙ is in
        rw other (ap (λ xs. x ∷ xs) (more later))

module _ (s : State) (row : ObjectRow) where
  pub free_of : (t : Tables) → TablesAre t s → LacksObjectRow row.object t → finmap.get s.objects row.object ≡ None
  free_of t h free = none_before (object_stored row.object) _ (sym (object_found t s h row.object) ∙ free)

  pub put_new : (t u : Tables) → TablesAre t s → LacksObjectRow row.object t → u ≡ with_new_object_row row t
      → TablesAre u (with_object s row.object (object_of row finmap.empty finmap.empty))
  put_new t u h free after =
      let none = free_of t h free in
      let texts = sym (ap (λ o. option_map_or (λ (x : Object). x.metadata) o finmap.empty) none) in
      let files = sym (ap (λ o. option_map_or (λ (x : Object). x.files) o finmap.empty) none) in
      let new : Object = object_of row finmap.empty finmap.empty in
      subst (λ x. TablesAre x (with_object s row.object new)) (sym after) (object_put t s h row.object new texts files)

  pub put_over : (t u : Tables) (was : Object) → TablesAre t s → IsOrdered t.objects → finmap.get s.objects row.object ≡ Some was → u ≡ with_object_row row t
      → TablesAre u (with_object s row.object (object_of row was.metadata was.files))
  put_over t u was h up there after =
      let new : Object = object_of row was.metadata was.files in
      subst (λ x. TablesAre x (with_object s row.object new)) (sym after) (object_written t s h up row.object was new there refl refl)

  pub put_nowhere : (t u : Tables) → TablesAre t s → finmap.get s.objects row.object ≡ None → u ≡ with_object_row row t → TablesAre u s
  put_nowhere t u h none after =
      let free : row_at t.objects row.object ≡ None = object_found t s h row.object ∙ ap (option_map (object_stored row.object)) none in
      let same : with_object_row row t ≡ t = ap (λ rows. record t { objects = rows }) (kept (pos row.object) (stored_object row) t.objects refl free) in
      subst (λ x. TablesAre x s) (sym (after ∙ same)) h

-- the row of an object makes the object, with its metadata and files
pub row_is_of : (t : Tables) (s : State) (row : ObjectRow) (was o : Object) → row ≡ object_row row.object o → o.metadata ≡ was.metadata → o.files ≡ was.files
    → TablesAre t (with_object s row.object (object_of row was.metadata was.files)) → TablesAre t (with_object s row.object o)
row_is_of t s row was o is texts files are =
    let n = row.object in
    let same : object_of row was.metadata was.files ≡ o =
    ap (λ (r : ObjectRow). object_of r was.metadata was.files) is
    ∙ ap (λ (m : Texts). object_of (object_row n o) m was.files) (sym texts)
    ∙ ap (λ (f : Numbered File). object_of (object_row n o) o.metadata f) (sym files) in
    subst (λ (x : Object). TablesAre t (with_object s n x)) same are

-- an object's metadata is deleted, and then its row
pub object_gone : (t u : Tables) (s : State) (n : ℕ) → TablesAre t s → files_at s.objects n ≡ finmap.empty
    → u ≡ record t { objects = without_rowid (pos n) t.objects; metadata = filter (λ r. not (has_number 1 n r)) t.metadata } → TablesAre u (record s { objects = finmap.remove s.objects n })
object_gone t u s n h files gone = subst (λ x. TablesAre x (record s { objects = finmap.remove s.objects n })) (sym gone) (object_deleted t s h n files)

-- the row that is found of a number is that of an object that is there
number_of : (n : ℕ) (row : ObjectRow) (o : Option Object) → Some row ≡ option_map (object_row n) o → row.object ≡ n
number_of n row None e = absurd (cc)
number_of n row (Some o) e = let same : row ≡ object_row n o = cc in ap (λ (r : ObjectRow). r.object) same

module _ (s : State) (n : ℕ) (row : ObjectRow) (found : Some row ≡ option_map (object_row n) (finmap.get s.objects n)) where
  pub its_number : row.object ≡ n
  its_number = number_of n row (finmap.get s.objects n) found

  pub has_row : HasRow s row
  has_row = subst (λ (k : ℕ). Some row ≡ option_map (object_row k) (finmap.get s.objects k)) (sym its_number) found

-- an object that is told by its row and its metadata
pub described : (s : State) (n : ℕ) (row : ObjectRow) (metadata : Texts) → IsSound s → Some row ≡ option_map (object_row n) (finmap.get s.objects n) → metadata ≡ grouped (listed (metadata_at s.objects n))
    → ◌≡◌ {A = Option DescribedObject} (Some (record { row = row; metadata = metadata })) (option_map (described_object n) (finmap.get s.objects n))
described s n row metadata sound found read = go (finmap.get s.objects n) refl found
  where
    go : (o : Option Object) → finmap.get s.objects n ≡ o → Some row ≡ option_map (object_row n) o → ◌≡◌ {A = Option DescribedObject} (Some (record { row = row; metadata = metadata })) (option_map (described_object n) o)
    go None is e = absurd (cc)
    go (Some o) is e =
        let same : row ≡ object_row n o = cc in
        let texts : metadata ≡ o.metadata = read ∙ ap (λ m. grouped (listed m)) (ap (λ x. option_map_or (λ (y : Object). y.metadata) x finmap.empty) is)
        ∙ grouped-listed o.metadata (λ name none. ((sound.objects n o is).names name [] none).1 refl) in
        λ i. Some (record { row = same i; metadata = texts i })
