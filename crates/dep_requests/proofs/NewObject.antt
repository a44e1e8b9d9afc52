-- The rows of new files are those of the object that they make.
use Rattle.std.proofs.Common.{◌≡◌, ℕ, Bool, ◌+◌, ◌<◌, suc, List, [], ◌∷◌, ◌++◌, length, map, take, slice_get, append-nil, Option, Some, refl, sym, ap, subst, ◌∙◌, arith, nat_cmp, Greater}
use Rattle.std.specs.Option.{option_map_or}
use Rattle.std.specs.List.{AllByRecursion}
use Rattle.std.specs.FinMap as finmap
use Rattle.std.specs.Cmp.{nat_cmp_total}
use Rattle.std.proofs.lemmas.Bool.Decides.{nat_tests}
use Rattle.std.proofs.lemmas.List.{append_assoc, map-append}
use Rattle.dep_types.specs.Maps.{Numbered}
use Rattle.dep_types.specs.Rows.{file_row, object_row, upload_row}
use Rattle.dep_types.specs.State.{State, File, Texts, Upload}
use Rattle.dep_types.specs.Uploads.{assembled}
use Rattle.dep_types.specs.declared.rows.FileRow.{FileRow}
use Rattle.dep_types.specs.declared.rows.ObjectRow.{ObjectRow}
use Rattle.dep_types.specs.declared.rows.ObjectView.{ObjectView}
use Rattle.dep_types.specs.declared.rows.UploadRow.{UploadRow}
use Rattle.dep_fixity.specs.Fixity.{digests_of}
use Rattle.dep_fixity.specs.declared.hasher.Digests.{Digests}
use Rattle.dep_row_maps.proofs.Files.{entries-empty}
use Rattle.dep_decisions.specs.Effects.{added_from, blank, bytes_from, file_from, filled}
use Rattle.dep_decisions.specs.declared.decision.ContentSource.{ContentSource}
use Rattle.dep_decisions.specs.declared.decision.ContentSource.TheVariants.{Posted, Assembled}
use Rattle.dep_decisions.specs.declared.decision.Deposit.{Deposit}
use Rattle.dep_decisions.specs.declared.decision.Deposit.TheVariants.{Files, Metadata}
use Rattle.dep_decisions.specs.declared.decision.NewFile.{NewFile}
use Rattle.dep_answers.specs.ReadSets.{files_view}
use Rattle.dep_operations.specs.declared.view.UploadView.{UploadView}
use Rattle.dep_requests.specs.Reported.{IsSource, whole_view}
use Rattle.dep_requests.specs.Changed.{IsExtent, new_rows}
use Rattle.dep_requests.proofs.Added.{length_before, take_next}

-- ---- how many bytes a file has

abbrev pub HasExtent : State → (content : List ℕ) → ContentSource → (size : ℕ) → Digests → Type 0
HasExtent s content source size digests = IsExtent (record { size = size; digests = digests }) (bytes_from s content source)

module _ (s : State) (content : List ℕ) (seen : Option UploadView) (source : ContentSource) where
  pub posted_extent : (digests : Digests) (bytes : List ℕ) → source ≡ Posted digests → bytes ≡ content → IsSource s content seen source → HasExtent s content source (length bytes) digests
  posted_extent digests bytes is same reported =
      let has : IsSource s content seen (Posted digests) = subst (IsSource s content seen) is reported in
      subst (λ (x : ContentSource). HasExtent s content x (length bytes) digests) (sym is) (ap (λ (b : List ℕ). length b) same, has)

  pub whole_extent : (u : ℕ) (row : UploadRow) (digests : Digests) → source ≡ Assembled u
      → ((w : ℕ) (it : Upload) → seen ≡ Some (whole_view w it) → (row ≡ upload_row w it) × (digests ≡ digests_of (assembled it)))
      → IsSource s content seen source → HasExtent s content source row.size digests
  whole_extent u row digests is found reported =
      let has : IsSource s content seen (Assembled u) = subst (IsSource s content seen) is reported in
      let its = found u has.upload has.seen_so in
      let bytes : bytes_from s content (Assembled u) ≡ assembled has.upload = ap (λ (x : Option Upload). option_map_or assembled x []) has.there in
      subst (λ (x : ContentSource). HasExtent s content x row.size digests) (sym is) (
        ap (λ (r : UploadRow). r.size) its.0 ∙ sym has.whole.size ∙ ap (λ (b : List ℕ). length b) (sym bytes),
        its.1 ∙ ap digests_of (sym bytes),
      )

-- ---- files that are added to none

abbrev Entry : Type 0
Entry = ℕ × File

abbrev AreBelow : ℕ → List Entry → Type 0
AreBelow k = AllByRecursion (λ e. e.0 < k)

-- a number above all others goes to the end
put_last : (k : ℕ) (file : File) (es : List Entry) → AreBelow k es → finmap.put nat_cmp k file es ≡ es ++ (k, file) ∷ []
put_last k file [] below = refl
put_last k file (e ∷ es) below =
    let first : e.0 < k = below.0 in
    let above : nat_cmp k e.0 ≡ Greater = grind (arith, nat_tests, first) in
    rw above (ap (λ xs. e ∷ xs) (put_last k file es below.1))

next_below : (k : ℕ) → k < k + 1
next_below k = omega arith

-- with one more entry all are below the next number
below_next : (k : ℕ) (file : File) (es : List Entry) → AreBelow k es → AreBelow (k + 1) (es ++ (k, file) ∷ [])
below_next k file [] below = (next_below k, tt)
below_next k file (e ∷ es) below = let first : e.0 < k = below.0 in (omega (arith, first), below_next k file es below.1)

-- the files under the numbers from this one on
abbrev numbered_from : ℕ → State → (content : List ℕ) → List NewFile → List Entry
numbered_from k s content [] = []
numbered_from k s content (x ∷ xs) = (k, file_from s content x) ∷ numbered_from (k + 1) s content xs

module _ (s : State) (content : List ℕ) where
  entries_from : (k : ℕ) (xs : List NewFile) (files : Numbered File) → AreBelow k (finmap.entries files)
      → finmap.entries (added_from k s content xs files) ≡ finmap.entries files ++ numbered_from k s content xs
  unfolding added_from
  entries_from k [] files below = sym (append-nil (finmap.entries files))
  entries_from k (x ∷ xs) files below =
      let it : File = file_from s content x in
      let one : finmap.entries (finmap.insert files k it) ≡ finmap.entries files ++ (k, it) ∷ [] = finmap.entries-insert nat_cmp_total files k it ∙ put_last k it (finmap.entries files) below in
      let all : AreBelow (k + 1) (finmap.entries files ++ (k, it) ∷ []) = below_next k it (finmap.entries files) below in
      entries_from (k + 1) xs (finmap.insert files k it) (subst (AreBelow (k + 1)) (sym one) all)
      ∙ ap (λ es. es ++ numbered_from (k + 1) s content xs) one
      ∙ append_assoc (finmap.entries files) ((k, it) ∷ []) (numbered_from (k + 1) s content xs)

  entries_added : (k : ℕ) (xs : List NewFile) → finmap.entries (added_from k s content xs finmap.empty) ≡ numbered_from k s content xs
  entries_added k xs =
      let none = entries-empty nat_cmp File in
      entries_from k xs finmap.empty (subst (AreBelow k) (sym none) tt) ∙ ap (λ es. es ++ numbered_from k s content xs) none

  next_place : (k n : ℕ) → k + 1 + n ≡ k + suc n
  next_place k n = omega arith

  numbered_last : (k : ℕ) (xs : List NewFile) (x : NewFile) → numbered_from k s content (xs ++ x ∷ []) ≡ numbered_from k s content xs ++ (k + length xs, file_from s content x) ∷ []
  numbered_last k [] x = ap (λ (n : ℕ). (n, file_from s content x) ∷ []) (none k)
    where
      none : (k : ℕ) → k ≡ k + 0
      none k = omega arith
  numbered_last k (y ∷ xs) x =
      ap (λ es. (k, file_from s content y) ∷ es)
      (numbered_last (k + 1) xs x ∙ ap (λ (n : ℕ). numbered_from (k + 1) s content xs ++ (n, file_from s content x) ∷ []) (next_place k (length xs)))

  abbrev pub rows_added : ℕ → ℕ → List NewFile → List FileRow
  rows_added n k xs = map (λ e. file_row n e.0 e.1) (finmap.entries (added_from k s content xs finmap.empty))

  -- no file yet
  pub no_rows : (n k : ℕ) → [] ≡ rows_added n k []
  unfolding added_from
  no_rows n k = sym (ap (map (λ (e : Entry). file_row n e.0 e.1)) (entries-empty nat_cmp File))

  -- one more row
  pub rows_more : (n k : ℕ) (xs : List NewFile) (i : ℕ) (x : NewFile) → slice_get xs i ≡ Some x → rows_added n k (take (i + 1) xs) ≡ rows_added n k (take i xs) ++ file_row n (k + i) (file_from s content x) ∷ []
  rows_more n k xs i x at =
      let row = λ (e : Entry). file_row n e.0 e.1 in
      let before = take i xs in
      let last : Entry = (k + i, file_from s content x) in
      let es : finmap.entries (added_from k s content (take (i + 1) xs) finmap.empty) ≡ finmap.entries (added_from k s content before finmap.empty) ++ last ∷ [] =
      ap (λ (new : List NewFile). finmap.entries (added_from k s content new finmap.empty)) (take_next xs i x at)
      ∙ entries_added k (before ++ x ∷ [])
      ∙ numbered_last k before x
      ∙ ap (λ (m : ℕ). numbered_from k s content before ++ (k + m, file_from s content x) ∷ []) (length_before xs i x at)
      ∙ ap (λ es. es ++ last ∷ []) (sym (entries_added k before)) in
      ap (map row) es ∙ map-append row (finmap.entries (added_from k s content before finmap.empty)) (last ∷ [])

-- ---- the object

-- what is told of an object of this row that has a deposit alone
module _ (s : State) (content : List ℕ) (n : ℕ) (ingested : Bool) (row : ObjectRow) (is : row ≡ object_row n (blank s ingested)) (d : Deposit) where
  pub view_of_files : (new : List NewFile) → d ≡ Files new → (texts : Texts) → texts ≡ finmap.empty → (rows : List FileRow) → rows ≡ new_rows s content row.object new → (values : List (List ℕ)) → values ≡ []
      → ◌≡◌ {A = ObjectView} (record { object = row; metadata = texts; files = rows; sha512s = values }) (files_view n (filled s content d ingested))
  view_of_files new same texts none rows are values unread =
      let rows_are : rows ≡ new_rows s content n new = are ∙ ap (λ (r : ObjectRow). new_rows s content r.object new) is in
      let reported : ◌≡◌ {A = ObjectView} (record { object = row; metadata = texts; files = rows; sha512s = values }) (files_view n (filled s content (Files new) ingested)) = λ i. record { object = is i; metadata = none i; files = rows_are i; sha512s = unread i } in
      reported ∙ ap (λ (x : Deposit). files_view n (filled s content x ingested)) (sym same)

  pub view_of_texts : (given : Texts) → d ≡ Metadata given → (texts : Texts) → texts ≡ finmap.empty → (rows : List FileRow) → rows ≡ [] → (values : List (List ℕ)) → values ≡ []
      → ◌≡◌ {A = ObjectView} (record { object = row; metadata = texts; files = rows; sha512s = values }) (files_view n (filled s content d ingested))
  view_of_texts given same texts none rows no_rows values unread =
      let rows_are : rows ≡ map (λ (e : Entry). file_row n e.0 e.1) (finmap.entries finmap.empty) = no_rows ∙ sym (ap (map (λ (e : Entry). file_row n e.0 e.1)) (entries-empty nat_cmp File)) in
      let reported : ◌≡◌ {A = ObjectView} (record { object = row; metadata = texts; files = rows; sha512s = values }) (files_view n (filled s content (Metadata given) ingested)) = λ i. record { object = is i; metadata = none i; files = rows_are i; sha512s = unread i } in
      reported ∙ ap (λ (x : Deposit). files_view n (filled s content x ingested)) (sym same)
