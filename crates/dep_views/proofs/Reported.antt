-- What is told of objects.
use Rattle.std.proofs.Common.{◌≡◌, ℕ, List, map, Option, Some, None, refl, ap, ◌∙◌}
use Rattle.std.specs.Prelude.{option_map}
use Rattle.std.specs.Option.{option_map_or}
use Rattle.std.specs.FinMap as finmap
use Rattle.dep_types.specs.State.{State, Object, File}
use Rattle.dep_types.specs.Rows.{object_row, object_view, file_row, sha512s_of}
use Rattle.dep_types.specs.declared.rows.FileRow.{FileRow}
use Rattle.dep_types.specs.declared.rows.ObjectRow.{ObjectRow}
use Rattle.dep_types.specs.declared.rows.ObjectView.{ObjectView}
use Rattle.dep_row_maps.specs.Stored.{HasRow}
use Rattle.dep_row_maps.specs.TablesAre.{files_at}
use Rattle.dep_objects.specs.Objects.{described_object}
use Rattle.dep_objects.specs.declared.objects.DescribedObject.{DescribedObject}

-- an object with its files
pub viewed : (s : State) (n : ℕ) (found : DescribedObject) (files : List FileRow) (values : List (List ℕ)) → Some found ≡ option_map (described_object n) (finmap.get s.objects n)
    → files ≡ map (λ e. file_row n e.0 e.1) (finmap.entries (files_at s.objects n)) → values ≡ sha512s_of (files_at s.objects n)
    → ◌≡◌ {A = Option ObjectView} (Some (record { object = found.row; metadata = found.metadata; files = files; sha512s = values })) (option_map (object_view n) (finmap.get s.objects n))
viewed s n found files values there reported its = go (finmap.get s.objects n) refl there
  where
    go : (o : Option Object) → finmap.get s.objects n ≡ o → Some found ≡ option_map (described_object n) o → ◌≡◌ {A = Option ObjectView} (Some (record { object = found.row; metadata = found.metadata; files = files; sha512s = values })) (option_map (object_view n) o)
    go None is e = absurd (cc)
    go (Some o) is e =
        let same : found ≡ described_object n o = cc in
        let rows : files ≡ map (λ e. file_row n e.0 e.1) (finmap.entries o.files) = reported ∙ ap (λ x. map (λ (e : ℕ × File). file_row n e.0 e.1) (finmap.entries (option_map_or (λ (y : Object). y.files) x finmap.empty))) is in
        let digests : values ≡ sha512s_of o.files = its ∙ ap (λ x. sha512s_of (option_map_or (λ (y : Object). y.files) x finmap.empty)) is in
        λ i. Some (record { object = (same i).row; metadata = (same i).metadata; files = rows i; sha512s = digests i })

pub none_viewed : (s : State) (n : ℕ) → ◌≡◌ {A = Option ObjectRow} None (option_map (object_row n) (finmap.get s.objects n)) → ◌≡◌ {A = Option ObjectView} None (option_map (object_view n) (finmap.get s.objects n))
none_viewed s n found = go (finmap.get s.objects n) found
  where
    go : (o : Option Object) → ◌≡◌ {A = Option ObjectRow} None (option_map (object_row n) o) → ◌≡◌ {A = Option ObjectView} None (option_map (object_view n) o)
    go None e = refl
    go (Some o) e = absurd (cc)

-- the row of what is described has its number
pub described_number : (s : State) (n : ℕ) (found : DescribedObject) → Some found ≡ option_map (described_object n) (finmap.get s.objects n) → found.row.object ≡ n
described_number s n found is = go (finmap.get s.objects n) is
  where
    go : (o : Option Object) → Some found ≡ option_map (described_object n) o → found.row.object ≡ n
    go None e = absurd (cc)
    go (Some o) e = let same : found ≡ described_object n o = cc in ap (λ (d : DescribedObject). d.row.object) same

-- and is that of its object
pub described_row : (s : State) (found : DescribedObject) → Some found ≡ option_map (described_object found.row.object) (finmap.get s.objects found.row.object) → HasRow s found.row
described_row s found is = go (finmap.get s.objects found.row.object) is
  where
    go : (o : Option Object) → Some found ≡ option_map (described_object found.row.object) o → Some found.row ≡ option_map (object_row found.row.object) o
    go None e = absurd (cc)
    go (Some o) e = let same : found ≡ described_object found.row.object o = cc in ap (λ (d : DescribedObject). Some d.row) same
