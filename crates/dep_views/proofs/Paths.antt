-- Whether the bag of an object that was found has a path, by the one file that can stand there.
use Rattle.std.proofs.Common.{◌≡◌, ℕ, Bool, true, false, cond, List, [], ◌∷◌, ◌++◌, ◌||◌, map, Option, Some, None, All, bytes_eq, refl, sym, ap, ◌∙◌}
use Rattle.std.specs.Prelude.{find, is_some, option_map, option_and_then, if◌then◌else◌}
use Rattle.std.specs.Option.{option_map_or, option_to_list}
use Rattle.std.specs.List.{list_any}
use Rattle.std.specs.FinMap as finmap
use Rattle.std.proofs.lemmas.List.Folds.{list_any-append}
use Rattle.dep_types.specs.Maps as maps
use Rattle.dep_types.specs.Sound.{IsSound}
use Rattle.dep_types.specs.State.{State, Object, File, file_at}
use Rattle.dep_types.specs.Rows.{object_row, file_row}
use Rattle.dep_types.specs.BagPaths.{tag_paths, payload_path, payload_paths, bag_paths}
use Rattle.dep_types.specs.declared.rows.ObjectRow.{ObjectRow}
use Rattle.dep_types.specs.declared.rows.FileRow.{FileRow}
use Rattle.dep_bag.specs.Numbered.{file_number}
use Rattle.dep_manifest.specs.Reported.{row_path}
use Rattle.dep_bag.proofs.Numbered.{HasStorable, files_storable, found_by_number, none_by_number, numbered, represents_at}
use Rattle.dep_decisions.specs.LookUps.{has_bag_path}
use Rattle.dep_operations.specs.Views.{has_path, touched_object}
use Rattle.dep_operations.specs.declared.view.Touched.{Touched}
use Rattle.dep_views.specs.Seen.{file_at_path, touched_payload}

-- a path is among those of the files where a file is found there
any_found : (path : List ℕ) (es : List (ℕ × File)) → list_any (bytes_eq path) (map (λ e. payload_path e.0 e.1.name) es) ≡ is_some (find (represents_at path) es)
any_found path [] = refl
any_found path (e ∷ es) = go (represents_at path e) (any_found path es)
  where
    rest : Option (ℕ × File)
    rest = find (represents_at path) es

    any : Bool
    any = list_any (bytes_eq path) (map (λ e. payload_path e.0 e.1.name) es)

    go : (b : Bool) → any ≡ is_some rest → (b || any) ≡ is_some (cond b (Some e) rest)
    go true h = refl
    go false h = h

module _ (s : State) (sound : IsSound s) (n : ℕ) (path : List ℕ) where
  -- the path is that of the one file
  abbrev row_there : Option FileRow → Bool
  row_there row = list_any (bytes_eq path) (map row_path (option_to_list row))

  small : (o : Object) → finmap.get s.objects n ≡ Some o → All HasStorable (finmap.entries o.files)
  small o is = files_storable s n o sound is

  by_number : (o : Object) (f : ℕ) (it : Option File) → row_there (option_map (file_row n f) it) ≡ is_some (numbered path f it)
  by_number o f None = refl
  by_number o f (Some file) = go (bytes_eq path (payload_path f file.name))
    where
      go : (b : Bool) → (b || false) ≡ is_some {T = ℕ × File} (if b then Some (f, file) else None)
      go true = refl
      go false = refl

  payload_reported : (o : Object) → finmap.get s.objects n ≡ Some o → row_there (file_at_path s n path) ≡ list_any (bytes_eq path) (payload_paths o)
  payload_reported o is = go (file_number path) refl ∙ sym (any_found path (finmap.entries o.files))
    where
      go : (k : Option ℕ) → file_number path ≡ k → row_there (option_and_then (λ f. option_map (file_row n f) (file_at s n f)) k) ≡ is_some (find (represents_at path) (finmap.entries o.files))
      go None e = sym (ap (λ (x : Option (ℕ × File)). is_some x) (none_by_number path e o.files (small o is)))
      go (Some f) e =
          ap (λ (x : Option Object). row_there (option_map (file_row n f) (option_and_then (λ (y : Object). finmap.get y.files f) x))) is
          ∙ by_number o f (finmap.get o.files f)
          ∙ sym (ap (λ (x : Option (ℕ × File)). is_some x) (found_by_number path f e o.files (small o is)))

  abbrev reported : Bool
  reported = list_any (bytes_eq path) (tag_paths ++ map row_path (option_to_list (file_at_path s n path)))

  of_object : (row : ObjectRow) (x : Option Object) → finmap.get s.objects n ≡ x → Some row ≡ option_map (object_row n) x → reported ≡ has_bag_path s n path
  of_object row None is e = absurd (cc)
  of_object row (Some o) is e =
      list_any-append (bytes_eq path) tag_paths (map row_path (option_to_list (file_at_path s n path)))
      ∙ ap (λ b. list_any (bytes_eq path) tag_paths || b) (payload_reported o is)
      ∙ sym (list_any-append (bytes_eq path) tag_paths (payload_paths o))
      ∙ sym (ap (λ x. option_map_or (λ (o : Object). list_any (bytes_eq path) (bag_paths o)) x false) is)

row_number : (s : State) (n : ℕ) (row : ObjectRow) (x : Option Object) → Some row ≡ option_map (object_row n) x → row.object ≡ n
row_number s n row None e = absurd (cc)
row_number s n row (Some o) e = let same : row ≡ object_row n o = cc in ap (λ (r : ObjectRow). r.object) same

pub path_reported : (s : State) (t : Touched) (row : ObjectRow) (path : List ℕ) → IsSound s → Some row ≡ touched_object s t → t.path ≡ Some path
    → list_any (bytes_eq path) (tag_paths ++ map row_path (option_to_list (file_at_path s row.object path))) ≡ has_path s t
path_reported s t row path sound there at = go t.object refl there
  where
    go : (n : Option ℕ) → t.object ≡ n → Some row ≡ maps.◌>>=◌ n (λ n. option_map (object_row n) (finmap.get s.objects n))
        → list_any (bytes_eq path) (tag_paths ++ map row_path (option_to_list (file_at_path s row.object path))) ≡ has_path s t
    go None is e = absurd (cc)
    go (Some n) is e =
        ap (λ k. list_any (bytes_eq path) (tag_paths ++ map row_path (option_to_list (file_at_path s k path)))) (row_number s n row (finmap.get s.objects n) e)
        ∙ of_object s sound n path row (finmap.get s.objects n) refl e
        ∙ sym (ap (λ x. option_map_or (λ n. option_map_or (has_bag_path s n) t.path false) x false) is ∙ ap (λ x. option_map_or (has_bag_path s n) x false) at)

-- ---- what is there at the path that is touched

-- the row that was found for an object that is there
pub payload_seen : (s : State) (t : Touched) (row : ObjectRow) (path : List ℕ) → Some row ≡ touched_object s t → t.path ≡ Some path → file_at_path s row.object path ≡ touched_payload s t
payload_seen s t row path there at = go t.object refl there
  where
    go : (n : Option ℕ) → t.object ≡ n → Some row ≡ maps.◌>>=◌ n (λ n. option_map (object_row n) (finmap.get s.objects n)) → file_at_path s row.object path ≡ touched_payload s t
    go None is e = absurd (cc)
    go (Some n) is e =
        ap (λ k. file_at_path s k path) (row_number s n row (finmap.get s.objects n) e)
        ∙ sym (ap (λ x. maps.◌>>=◌ x (λ n. maps.◌>>=◌ t.path (file_at_path s n))) is ∙ ap (λ x. maps.◌>>=◌ x (file_at_path s n)) at)
