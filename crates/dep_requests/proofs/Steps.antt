-- Steps on one object, one after another.
use Rattle.std.proofs.Common.{◌≡◌, ◌≢◌, ◌⊎◌, inl, inr, ℕ, Bool, true, false, ◌||◌, Option, Some, refl, sym, ap, subst, ◌∙◌}
use Rattle.std.specs.Option.{option_map_or}
use Rattle.std.specs.FinMap as finmap
use Rattle.std.proofs.lemmas.Cmp.{nat_cmp_total}
use Rattle.dep_types.specs.Maps.{Numbered}
use Rattle.dep_types.specs.State.{State, Object, File, Texts}
use Rattle.dep_types.specs.Rows.{object_row}
use Rattle.dep_types.specs.declared.counters.Counters.{Counters}
use Rattle.dep_types.specs.declared.rows.ObjectRow.{ObjectRow}
use Rattle.dep_tables.specs.Tables.{Tables}
use Rattle.dep_objects.specs.Objects.{Rewrites}
use Rattle.dep_row_maps.specs.TablesAre.{TablesAre, metadata_at, files_at, with_object, without_object}
use Rattle.dep_row_maps.proofs.Files.{same_number}
use Rattle.dep_row_maps.proofs.Lens.{get_here, get_there, get_gone, get_left, insert_twice}
use Rattle.dep_decisions.specs.Effects.{changed, ingested_by, with_other_files, with_other_texts}
use Rattle.dep_operations.specs.declared.view.View.{View}
use Rattle.dep_requests.specs.Reported.{ReportsNumbers, ReportsObject}

-- an object is written, and then again
pub written_again : (t : Tables) (s : State) (n : ℕ) (a b : Object) → TablesAre t (with_object (with_object s n a) n b) → TablesAre t (with_object s n b)
written_again t s n a b are = subst (λ (m : Numbered Object). TablesAre t (record s { objects = m })) (insert_twice s.objects n a b) are

or_true : (b : Bool) → true ≡ (b || true)
or_true true = refl
or_true false = refl

pub texts_of : (s : State) (n : ℕ) (o : Object) → finmap.get s.objects n ≡ Some o → o.metadata ≡ metadata_at s.objects n
texts_of s n o there = sym (ap (λ x. option_map_or (λ (y : Object). y.metadata) x finmap.empty) there)

-- the row that is written in the place of an object's
module _ (s : State) (n : ℕ) (o : Object) (row : ObjectRow) (was : row ≡ object_row n o) (clock : ℕ) (next : Counters) (at_clock : clock ≡ s.clock) (at_next : next ≡ s.next) (now : ObjectRow) where
  pub texts_of_row : (texts : Texts) → now ≡ record row { object_tag = next.change; metadata_tag = next.change; changed = clock } → now ≡ object_row n (with_other_texts s texts o)
  texts_of_row texts is = cc

  pub files_of_row : (files : Numbered File) → now ≡ record row { object_tag = next.change; files_tag = next.change; changed = clock } → now ≡ object_row n (with_other_files s files o)
  files_of_row files is = cc

-- the row of the object that is touched, and the row that is written in its place
module _ (s : State) (n : ℕ) (o : Object) (seen : Option ObjectRow) (reported : seen ≡ Some (object_row n o)) (row : ObjectRow) (found : seen ≡ Some row) where
  pub row_is : row ≡ object_row n o
  row_is = cc

  pub number_is : row.object ≡ n
  number_is = ap (λ (r : ObjectRow). r.object) row_is

  module _ (clock : ℕ) (next : Counters) (at_clock : clock ≡ s.clock) (at_next : next ≡ s.next) (now : ObjectRow) where
    pub completed_row : now ≡ record row { ingested = true; object_tag = next.change; changed = clock } → now ≡ object_row n (ingested_by true (changed s o))
    completed_row is = let was = row_is in let yes = or_true o.ingested in cc

    pub texts_row : (texts : Texts) → now ≡ record row { object_tag = next.change; metadata_tag = next.change; changed = clock } → now ≡ object_row n (with_other_texts s texts o)
    texts_row texts is = texts_of_row s n o row row_is clock next at_clock at_next now texts is

    pub files_row : (files : Numbered File) → now ≡ record row { object_tag = next.change; files_tag = next.change; changed = clock } → now ≡ object_row n (with_other_files s files o)
    files_row files is = files_of_row s n o row row_is clock next at_clock at_next now files is

-- a row that is that of an object under a number
module _ (n : ℕ) (it : Object) (row : ObjectRow) (is : row ≡ object_row n it) where
  pub its_number : row.object ≡ n
  its_number = ap (λ (r : ObjectRow). r.object) is

  pub its_own : row ≡ object_row row.object it
  its_own = is ∙ ap (λ (k : ℕ). object_row k it) (sym its_number)

-- what a call made at one name of a number
pub at_number : (t : Tables) (s : State) (k n : ℕ) (it : Object) → k ≡ n → TablesAre t (with_object s k it) → TablesAre t (with_object s n it)
at_number t s k n it same are = subst (λ (m : ℕ). TablesAre t (with_object s m it)) same are

pub there_at : (m : Numbered Object) (k n : ℕ) (o : Object) → k ≡ n → finmap.get m n ≡ Some o → finmap.get m k ≡ Some o
there_at m k n o same there = ap (finmap.get m) same ∙ there

-- the row that is written in the place of that of an object
pub rewritten : (s : State) (n : ℕ) (was it : Object) (row : ObjectRow) → row ≡ object_row n it → finmap.get s.objects n ≡ Some was → it.metadata ≡ was.metadata → it.files ≡ was.files → Rewrites s row it
rewritten s n was it row is there metadata files = record {
  was = was;
  there = there_at s.objects row.object n was (its_number n it row is) there;
  is_row = its_own n it row is;
  metadata = metadata;
  files = files;
}

-- so the object is written under its number
pub row_written : (t : Tables) (s : State) (n : ℕ) (was it : Object) (row : ObjectRow) → row ≡ object_row n it → finmap.get s.objects n ≡ Some was → it.metadata ≡ was.metadata → it.files ≡ was.files
    → (Rewrites s row it → TablesAre t (with_object s row.object it)) → TablesAre t (with_object s n it)
row_written t s n was it row is there metadata files written = at_number t s row.object n it (its_number n it row is) (written (rewritten s n was it row is there metadata files))

-- the object of the view has its new row, and else is as it was
module _ (t : Tables) (s : State) (n : ℕ) (o : Object) (view : View) (object : ReportsObject view s n o) (numbers : ReportsNumbers view s) (row : ObjectRow) (found : view.object ≡ Some row) (now : ObjectRow) where
  pub texts_marked : now ≡ record row { object_tag = view.next.change; metadata_tag = view.next.change; changed = view.clock }
      → (Rewrites s now (with_other_texts s o.metadata o) → TablesAre t (with_object s now.object (with_other_texts s o.metadata o))) → TablesAre t (with_object s n (with_other_texts s o.metadata o))
  texts_marked is = row_written t s n o (with_other_texts s o.metadata o) now (texts_row s n o view.object object.0 row found view.clock view.next numbers.0 numbers.1 now o.metadata is) object.1 refl refl

  pub files_marked : now ≡ record row { object_tag = view.next.change; files_tag = view.next.change; changed = view.clock }
      → (Rewrites s now (with_other_files s o.files o) → TablesAre t (with_object s now.object (with_other_files s o.files o))) → TablesAre t (with_object s n (with_other_files s o.files o))
  files_marked is = row_written t s n o (with_other_files s o.files o) now (files_row s n o view.object object.0 row found view.clock view.next numbers.0 numbers.1 now o.files is) object.1 refl refl

-- ---- an object goes

pub emptied : (s : State) (n : ℕ) (o : Object) → files_at (finmap.insert s.objects n (record o { files = finmap.empty })) n ≡ finmap.empty
emptied s n o = ap (λ x. option_map_or (λ (y : Object). y.files) x finmap.empty) (get_here s.objects n (record o { files = finmap.empty }))

remove_inserted : {X : Type 0} (m : Numbered X) (k : ℕ) (x : X) → finmap.remove (finmap.insert m k x) k ≡ finmap.remove m k
remove_inserted {X} m k x = finmap.same_map nat_cmp_total finmap.nat_cmp-IsAntisymmetric _ _ (λ q. go q (same_number q k))
  where
    go : (q : ℕ) → (q ≡ k) ⊎ (q ≢ k) → finmap.get (finmap.remove (finmap.insert m k x) k) q ≡ finmap.get (finmap.remove m k) q
    go q (inl is) = ap (finmap.get (finmap.remove (finmap.insert m k x) k)) is ∙ get_gone (finmap.insert m k x) k ∙ sym (get_gone m k) ∙ ap (finmap.get (finmap.remove m k)) (sym is)
    go q (inr apart) = get_left (finmap.insert m k x) k q apart ∙ get_there m k x q apart ∙ sym (get_left m k q apart)

pub gone_after : (t : Tables) (s : State) (n : ℕ) (o : Object) → TablesAre t (without_object (with_object s n o) n) → TablesAre t (without_object s n)
gone_after t s n o are = subst (λ (m : Numbered Object). TablesAre t (record s { objects = m })) (remove_inserted s.objects n o) are

-- ---- a file of the same number

insert_removed : {X : Type 0} (m : Numbered X) (k : ℕ) (x : X) → finmap.insert (finmap.remove m k) k x ≡ finmap.insert m k x
insert_removed {X} m k x = finmap.same_map nat_cmp_total finmap.nat_cmp-IsAntisymmetric _ _ (λ q. go q (same_number q k))
  where
    go : (q : ℕ) → (q ≡ k) ⊎ (q ≢ k) → finmap.get (finmap.insert (finmap.remove m k) k x) q ≡ finmap.get (finmap.insert m k x) q
    go q (inl is) = ap (finmap.get (finmap.insert (finmap.remove m k) k x)) is ∙ get_here (finmap.remove m k) k x ∙ sym (get_here m k x) ∙ ap (finmap.get (finmap.insert m k x)) (sym is)
    go q (inr apart) = get_there (finmap.remove m k) k x q apart ∙ get_left m k q apart ∙ sym (get_there m k x q apart)

pub file_replaced : (t : Tables) (s : State) (n : ℕ) (o : Object) (f : ℕ) (file : File) → TablesAre t (with_object s n (with_other_files s (finmap.insert (finmap.remove o.files f) f file) o))
    → TablesAre t (with_object s n (with_other_files s (finmap.insert o.files f file) o))
file_replaced t s n o f file are = subst (λ (fs : Numbered File). TablesAre t (with_object s n (with_other_files s fs o))) (insert_removed o.files f file) are
