-- What stands at a path of a bag where one file alone can stand, and the reply that shows it.
use Rattle.std.proofs.Common.{◌≡◌, ◌⊎◌, inl, inr, ℕ, Bool, true, false, cond, List, [], ◌∷◌, ◌++◌, Option, Some, None, All, bytes_eq, refl, sym, ap, ◌∙◌, map as each}
use Rattle.std.specs.Prelude.{find, is_some, if◌then◌else◌}
use Rattle.std.specs.Option.{option_map, option_map_or, option_and_then}
use Rattle.std.specs.FinMap as finmap
use Rattle.std.proofs.lemmas.List.Elements.{All-head, All-tail}
use Rattle.std.proofs.lemmas.Slice.Eq.{bytes_eq-Decides}
use Rattle.dep_types.specs.BagPaths.{payload_path}
use Rattle.dep_types.specs.Rows.{file_row, object_row, object_view}
use Rattle.dep_types.specs.Sound.{IsSound}
use Rattle.dep_types.specs.State.{State, Object, File, Texts, file_at}
use Rattle.dep_types.specs.declared.rows.FileRow.{FileRow}
use Rattle.dep_types.specs.declared.rows.ObjectRow.{ObjectRow}
use Rattle.dep_types.specs.declared.rows.ObjectView.{ObjectView}
use Rattle.dep_docs_out.specs.Documents.{bag_metadata_document}
use Rattle.dep_manifest.specs.declared.algorithm.Algorithm.TheVariants.{Sha256, Sha512}
use Rattle.dep_bag.specs.Numbered.{file_number}
use Rattle.dep_bag.specs.Parts.{tag_file_at}
use Rattle.dep_bag.specs.declared.part.TagFile.{TagFile}
use Rattle.dep_bag.specs.declared.part.TagFile.TheVariants as tag
use Rattle.dep_bag.proofs.Lines.{All-none}
use Rattle.dep_bag.proofs.Numbered.{HasStorable, files_storable, found_by_number, none_by_number, numbered}
use Rattle.dep_answers.specs.Answers.{Document, ReplyContent, StoredContent, answer, file_reply}
use Rattle.dep_answers.specs.Bags.{BagEntry, bag_entries, payload_shown, shown_in_bag, tags_shown}
use Rattle.dep_answers.specs.ReadSets.{files_view, payload_view, shown_at, read_set_in_bag, tag_read_set}
use Rattle.dep_answers.specs.Reporting.{IsShownByRow, IsTagView, view_by}
use Rattle.dep_answers.specs.Reported.{bag_answer}
use Rattle.dep_answers.specs.declared.performed.FileId.{FileId}
use Rattle.dep_answers.specs.declared.read_set.Shown.{Shown}
use Rattle.dep_answers.specs.declared.read_set.Shown.TheVariants as shown
use Rattle.dep_answers.specs.declared.read_set.ReadSet.TheVariants as read_set
use Rattle.dep_answers.proofs.BagLemmas.{found_through, metadata_shown}
use Rattle.dep_answers.proofs.ShownReplies.{file_in, no_bag_answer, no_file}

abbrev has_number : BagEntry → Bool
has_number e = is_some (file_number e.0)

abbrev HasNoNumber : BagEntry → Type 0
HasNoNumber e = has_number e ≡ false

-- a tag file's path has no number
tags_unnumbered : (o : Object) → All HasNoNumber (tags_shown o)
tags_unnumbered o = All-none has_number (tags_shown o) refl

abbrev pub content_shown : ℕ → ℕ × File → ReplyContent
content_shown n e = file_reply n e.0 e.1

module _ (path : List ℕ) (f : ℕ) (of : file_number path ≡ Some f) where
  unnamed : (e : BagEntry) → HasNoNumber e → bytes_eq path e.0 ≡ false
  unnamed e none = go (bytes_eq path e.0) refl
    where
      go : (b : Bool) → bytes_eq path e.0 ≡ b → b ≡ false
      go true is =
          let same : path ≡ e.0 = (bytes_eq-Decides path e.0).0 is in
          let both : true ≡ false = sym (ap (λ (k : Option ℕ). is_some k) (sym (ap file_number same) ∙ of)) ∙ none in
          absurd (cc)
      go false is = refl

  behind_tags : (tags rest : List BagEntry) → All HasNoNumber tags → find (λ (e : BagEntry). bytes_eq path e.0) (tags ++ rest) ≡ find (λ (e : BagEntry). bytes_eq path e.0) rest
  behind_tags [] rest h = refl
  behind_tags (e ∷ tags) rest h =
      ap (λ b. cond b (Some e) (find (λ (x : BagEntry). bytes_eq path x.0) (tags ++ rest))) (unnamed e (All-head HasNoNumber e tags h))
      ∙ behind_tags tags rest (All-tail HasNoNumber e tags h)

  through : (n : ℕ) (x : Option (ℕ × File)) → option_map (λ (e : BagEntry). e.1) (option_map (payload_shown n) x) ≡ option_map (content_shown n) x
  through n None = refl
  through n (Some e) = refl

  pub shown_numbered : (n : ℕ) (o : Object) → All HasStorable (finmap.entries o.files) → shown_in_bag n o path ≡ option_map (content_shown n) (numbered path f (finmap.get o.files f))
  shown_numbered n o small =
      ap (option_map (λ (e : BagEntry). e.1))
      (behind_tags (tags_shown o) (each (payload_shown n) (finmap.entries o.files)) (tags_unnumbered o)
      ∙ found_through path (λ (e : ℕ × File). payload_path e.0 e.1.name) (λ (e : BagEntry). e.0) (payload_shown n) (λ e. refl) (finmap.entries o.files)
      ∙ ap (option_map (payload_shown n)) (found_by_number path f of o.files small))
      ∙ through n (numbered path f (finmap.get o.files f))

  module _ (s : State) (sound : IsSound s) (n : ℕ) where
    bag_numbered : option_and_then (λ (o : Object). shown_in_bag n o path) (finmap.get s.objects n) ≡ option_map (content_shown n) (numbered path f (file_at s n f))
    bag_numbered = go (finmap.get s.objects n) refl
      where
        go : (x : Option Object) → finmap.get s.objects n ≡ x → option_and_then (λ (o : Object). shown_in_bag n o path) x ≡ option_map (content_shown n) (numbered path f (option_and_then (λ (o : Object). finmap.get o.files f) x))
        go None is = refl
        go (Some o) is = shown_numbered n o (files_storable s n o sound is)

    -- the answer, by what the search for the file comes to
    answered : (x : Option File) → file_at s n f ≡ x → answer 200 (option_map (content_shown n) (numbered path f x)) None None ≡ bag_answer s n path
    answered x is =
        sym (ap (λ (c : Option ReplyContent). answer 200 c None None)
        (bag_numbered ∙ ap (λ (y : Option File). option_map (content_shown n) (numbered path f y)) is))

    abbrev stands : File → Bool
    stands it = bytes_eq path (payload_path f it.name)

    -- the file stands there
    pub there_answer : (it : File) → file_at s n f ≡ Some it → stands it ≡ true → answer 200 (Some (file_reply n f it)) None None ≡ bag_answer s n path
    there_answer it is at =
        sym (ap (λ b. answer 200 (option_map (content_shown n) (if b then Some (f, it) else None)) None None) at) ∙ answered (Some it) is

    -- it stands elsewhere
    pub elsewhere_answer : (it : File) → file_at s n f ≡ Some it → stands it ≡ false → answer 200 None None None ≡ bag_answer s n path
    elsewhere_answer it is at =
        sym (ap (λ b. answer 200 (option_map (content_shown n) (if b then Some (f, it) else None)) None None) at) ∙ answered (Some it) is

    -- there is none
    pub absent_answer : file_at s n f ≡ None → answer 200 None None None ≡ bag_answer s n path
    absent_answer is = answered None is

-- ---- where no file can stand

abbrev is_stored : ReplyContent → Bool
is_stored (StoredContent id media content) = true
is_stored content = false

abbrev IsText : BagEntry → Type 0
IsText e = is_stored e.1 ≡ false

tags_texts : (o : Object) → All IsText (tags_shown o)
tags_texts o = All-none (λ (e : BagEntry). is_stored e.1) (tags_shown o) refl

-- what is found among texts is one, where nothing is found behind them
text_found : (p : BagEntry → Bool) (tags rest : List BagEntry) → All IsText tags → find p rest ≡ None → (e : BagEntry) → find p (tags ++ rest) ≡ Some e → IsText e
text_found p [] rest h none e found = let bad : None ≡ Some e = sym none ∙ found in absurd (cc)
text_found p (x ∷ tags) rest h none e found = go (p x) found (text_found p tags rest (All-tail IsText x tags h) none e)
  where
    go : (b : Bool) → cond b (Some x) (find p (tags ++ rest)) ≡ Some e → (find p (tags ++ rest) ≡ Some e → IsText e) → IsText e
    go true at later = let same : x ≡ e = cc in ap (λ (y : BagEntry). is_stored y.1) (sym same) ∙ All-head IsText x tags h
    go false at later = later at

pub no_payload : (s : State) → IsSound s → (n : ℕ) (o : Object) → finmap.get s.objects n ≡ Some o → (path : List ℕ) → file_number path ≡ None
    → (id : FileId) (media content : List ℕ) → shown_in_bag n o path ≡ Some (StoredContent id media content) → ⊥
no_payload s sound n o is path none id media content shows = go (find at (bag_entries n o)) refl shows
  where
    at : BagEntry → Bool
    at = λ e. bytes_eq path e.0

    behind : find at (each (payload_shown n) (finmap.entries o.files)) ≡ None
    behind =
        found_through path (λ (e : ℕ × File). payload_path e.0 e.1.name) (λ (e : BagEntry). e.0) (payload_shown n) (λ e. refl) (finmap.entries o.files)
        ∙ ap (option_map (payload_shown n)) (none_by_number path none o.files (files_storable s n o sound is))

    go : (x : Option BagEntry) → find at (bag_entries n o) ≡ x → option_map (λ (e : BagEntry). e.1) x ≡ Some (StoredContent id media content) → ⊥
    go None found e = cc
    go (Some entry) found e =
        let text : is_stored entry.1 ≡ false = text_found at (tags_shown o) (each (payload_shown n) (finmap.entries o.files)) (tags_texts o) behind entry found in
        let same : entry.1 ≡ StoredContent id media content = cc in
        let stored : is_stored entry.1 ≡ true = ap is_stored same in
        cc

-- ---- which subject was read

-- what was shown is neither this nor nothing
not_shown : {X : Type 0} (sh : Shown) (show : X → Shown) → ((x : X) → sh ≡ show x → ⊥) → (sh ≡ shown.Nothing → ⊥) → (x : Option X)
    → sh ≡ option_map_or show x shown.Nothing → ⊥
not_shown sh show other something None e = something e
not_shown sh show other something (Some x) e = other x e

-- what a tag file of an object is shown by
abbrev show_by : ℕ → Option TagFile → (is_head_only : Bool) → Object → Shown
show_by n (Some tag.Declaration) is_head_only o = shown.ObjectRow (object_row n o)
show_by n (Some tag.Metadata) is_head_only o = shown.Metadata (object_row n o) o.metadata
show_by n (Some (tag.Manifest Sha512)) false o = shown.Files (payload_view n o)
show_by n (Some (tag.TagManifest a)) false o = shown.Object (object_view n o)
show_by n (Some (tag.TagManifest a)) true o = shown.ObjectRow (object_row n o)
show_by n file is_head_only o = shown.Files (files_view n o)

read_by : (s : State) (n : ℕ) (file : Option TagFile) (b : Bool) → shown_at s (tag_read_set n file b) ≡ option_map_or (show_by n file b) (finmap.get s.objects n) shown.Nothing
read_by s n (Some tag.Declaration) b = refl
read_by s n (Some tag.Information) b = refl
read_by s n (Some (tag.Manifest Sha256)) b = refl
read_by s n (Some (tag.Manifest Sha512)) true = refl
read_by s n (Some (tag.Manifest Sha512)) false = refl
read_by s n (Some tag.Metadata) b = refl
read_by s n (Some (tag.TagManifest a)) true = refl
read_by s n (Some (tag.TagManifest a)) false = refl
read_by s n None b = refl

view_shown : (n : ℕ) (view : ObjectView) (file : Option TagFile) (b : Bool) (o : Object) → (shown.Object view ≡ show_by n file b o) ⊎ (shown.Files view ≡ show_by n file b o)
    → view ≡ view_by n o file b
view_shown n view (Some tag.Declaration) b o (inl e) = absurd (cc)
view_shown n view (Some tag.Declaration) b o (inr e) = absurd (cc)
view_shown n view (Some tag.Information) b o (inl e) = absurd (cc)
view_shown n view (Some tag.Information) b o (inr e) = cc
view_shown n view (Some (tag.Manifest Sha256)) b o (inl e) = absurd (cc)
view_shown n view (Some (tag.Manifest Sha256)) b o (inr e) = cc
view_shown n view (Some (tag.Manifest Sha512)) true o (inl e) = absurd (cc)
view_shown n view (Some (tag.Manifest Sha512)) true o (inr e) = cc
view_shown n view (Some (tag.Manifest Sha512)) false o (inl e) = absurd (cc)
view_shown n view (Some (tag.Manifest Sha512)) false o (inr e) = cc
view_shown n view (Some tag.Metadata) b o (inl e) = absurd (cc)
view_shown n view (Some tag.Metadata) b o (inr e) = absurd (cc)
view_shown n view (Some (tag.TagManifest a)) true o (inl e) = absurd (cc)
view_shown n view (Some (tag.TagManifest a)) true o (inr e) = absurd (cc)
view_shown n view (Some (tag.TagManifest a)) false o (inl e) = cc
view_shown n view (Some (tag.TagManifest a)) false o (inr e) = absurd (cc)
view_shown n view None b o (inl e) = absurd (cc)
view_shown n view None b o (inr e) = cc

row_shown : (n : ℕ) (row : ObjectRow) (file : Option TagFile) (b : Bool) (o : Object) → shown.ObjectRow row ≡ show_by n file b o → tag_read_set n file b ≡ read_set.ObjectRow n
row_shown n row (Some tag.Declaration) b o e = refl
row_shown n row (Some tag.Information) b o e = absurd (cc)
row_shown n row (Some (tag.Manifest Sha256)) b o e = absurd (cc)
row_shown n row (Some (tag.Manifest Sha512)) true o e = absurd (cc)
row_shown n row (Some (tag.Manifest Sha512)) false o e = absurd (cc)
row_shown n row (Some tag.Metadata) b o e = absurd (cc)
row_shown n row (Some (tag.TagManifest a)) true o e = refl
row_shown n row (Some (tag.TagManifest a)) false o e = absurd (cc)
row_shown n row None b o e = absurd (cc)

texts_shown : (n : ℕ) (row : ObjectRow) (texts : Texts) (file : Option TagFile) (b : Bool) (o : Object) → shown.Metadata row texts ≡ show_by n file b o
    → (file ≡ Some tag.Metadata) × (texts ≡ o.metadata)
texts_shown n row texts (Some tag.Metadata) b o e = (refl, cc)
texts_shown n row texts (Some tag.Declaration) b o e = absurd (cc)
texts_shown n row texts (Some tag.Information) b o e = absurd (cc)
texts_shown n row texts (Some (tag.Manifest Sha256)) b o e = absurd (cc)
texts_shown n row texts (Some (tag.Manifest Sha512)) true o e = absurd (cc)
texts_shown n row texts (Some (tag.Manifest Sha512)) false o e = absurd (cc)
texts_shown n row texts (Some (tag.TagManifest a)) true o e = absurd (cc)
texts_shown n row texts (Some (tag.TagManifest a)) false o e = absurd (cc)
texts_shown n row texts None b o e = absurd (cc)

module _ (s : State) (n : ℕ) (path : List ℕ) (is_head_only : Bool) (sh : Shown) where
  abbrev IsRead : Type 0
  IsRead = sh ≡ shown_at s (read_set_in_bag n path is_head_only)

  -- no file can stand at the path, and what is shown of the object is what its tag file is shown by
  abbrev IsTagRead : Object → Type 0
  IsTagRead o = (file_number path ≡ None) × ((finmap.get s.objects n ≡ Some o) × (sh ≡ show_by n (tag_file_at path) is_head_only o))

  -- the row of the one file that can stand at the path, or else what the tag file there is shown by
  abbrev IsFileRead : ℕ → Type 0
  IsFileRead f = (file_number path ≡ Some f) × (sh ≡ option_map_or (λ (it : File). shown.File (file_row n f it)) (file_at s n f) shown.Nothing)

  abbrev IsObjectRead : Type 0
  IsObjectRead = (file_number path ≡ None) × (sh ≡ option_map_or (show_by n (tag_file_at path) is_head_only) (finmap.get s.objects n) shown.Nothing)

  either_read : IsRead → ((f : ℕ) × IsFileRead f) ⊎ IsObjectRead
  either_read read = go (file_number path) refl read
    where
      go : (k : Option ℕ) → file_number path ≡ k → sh ≡ shown_at s (option_map_or (λ f. read_set.File (record { object = n; file = f })) k (tag_read_set n (tag_file_at path) is_head_only))
          → ((f : ℕ) × IsFileRead f) ⊎ IsObjectRead
      go (Some f) of e = inl (f, (of, e))
      go None of e = inr (of, e ∙ read_by s n (tag_file_at path) is_head_only)

  tag_read : (sh ≡ shown.Nothing → ⊥) → ((row : FileRow) → sh ≡ shown.File row → ⊥) → IsRead → (o : Object) × IsTagRead o
  tag_read something no_row read = go (either_read read)
    where
      there : file_number path ≡ None → (x : Option Object) → finmap.get s.objects n ≡ x → sh ≡ option_map_or (show_by n (tag_file_at path) is_head_only) x shown.Nothing
          → (o : Object) × IsTagRead o
      there of None is e = absurd (something e)
      there of (Some o) is e = (o, (of, (is, e)))

      go : ((f : ℕ) × IsFileRead f) ⊎ IsObjectRead → (o : Object) × IsTagRead o
      go (inl (f, (of, e))) = absurd (not_shown sh (λ (it : File). shown.File (file_row n f it)) (λ it. no_row (file_row n f it)) something (file_at s n f) e)
      go (inr (of, e)) = there of (finmap.get s.objects n) refl e

  -- no file can stand at the path, and this is known of the object
  abbrev pub IsKnown : (ℕ → Object → Type 0) → Type 0
  IsKnown known = (file_number path ≡ None) × ((o : Object) × ((finmap.get s.objects n ≡ Some o) × known n o))

  -- where an object was shown with its files, this is what its tag file is made of
  pub object_read : (view : ObjectView) → (sh ≡ shown.Object view) ⊎ (sh ≡ shown.Files view) → IsRead → IsKnown (IsTagView path view is_head_only)
  object_read view (inl is) read =
      let found = tag_read (λ e. cc) (λ row e. cc) read in
      (found.1.0, (found.0, (found.1.1.0, view_shown n view (tag_file_at path) is_head_only found.0 (inl (sym is ∙ found.1.1.1)))))
  object_read view (inr is) read =
      let found = tag_read (λ e. cc) (λ row e. cc) read in
      (found.1.0, (found.0, (found.1.1.0, view_shown n view (tag_file_at path) is_head_only found.0 (inr (sym is ∙ found.1.1.1)))))

  -- where its row was shown alone, that is all that its tag file is shown by
  pub row_read : (row : ObjectRow) → sh ≡ shown.ObjectRow row → IsRead → IsKnown (IsShownByRow path is_head_only)
  row_read row is read =
      let found = tag_read (λ e. cc) (λ row e. cc) read in
      (found.1.0, (found.0, (found.1.1.0, row_shown n row (tag_file_at path) is_head_only found.0 (sym is ∙ found.1.1.1))))

  -- where its metadata was shown with it, that stands there
  pub texts_read : (row : ObjectRow) (texts : Texts) → sh ≡ shown.Metadata row texts → IsRead
      → (o : Object) × ((finmap.get s.objects n ≡ Some o) × (shown_in_bag n o path ≡ Some (Document (bag_metadata_document texts))))
  texts_read row texts is read =
      let found = tag_read (λ e. cc) (λ row e. cc) read in
      let shows = texts_shown n row texts (tag_file_at path) is_head_only found.0 (sym is ∙ found.1.1.1) in
      (found.0, (found.1.1.0, metadata_shown path n found.0 shows.0 ∙ ap (λ (t : Texts). Some (Document (bag_metadata_document t))) (sym shows.1)))

  -- where a file was shown, it is the one that was read
  pub file_read : (row : FileRow) → sh ≡ shown.File row → IsRead
      → (f : ℕ) × (file_number path ≡ Some f) × (it : File) × (file_at s n f ≡ Some it) × (row ≡ file_row n f it)
  file_read row is read = go (either_read read)
    where
      no_row : (file : Option TagFile) (b : Bool) (o : Object) → shown.File row ≡ show_by n file b o → ⊥
      no_row (Some tag.Declaration) b o e = cc
      no_row (Some tag.Information) b o e = cc
      no_row (Some (tag.Manifest Sha256)) b o e = cc
      no_row (Some (tag.Manifest Sha512)) true o e = cc
      no_row (Some (tag.Manifest Sha512)) false o e = cc
      no_row (Some tag.Metadata) b o e = cc
      no_row (Some (tag.TagManifest a)) true o e = cc
      no_row (Some (tag.TagManifest a)) false o e = cc
      no_row None b o e = cc

      go : ((f : ℕ) × IsFileRead f) ⊎ IsObjectRead → (f : ℕ) × (file_number path ≡ Some f) × (it : File) × (file_at s n f ≡ Some it) × (row ≡ file_row n f it)
      go (inl (f, (of, e))) = let found = file_in n f row (file_at s n f) (sym is ∙ e) in (f, of, found.0, found.1.0, found.1.1)
      go (inr (of, e)) =
          absurd (not_shown sh (show_by n (tag_file_at path) is_head_only) (λ o e. no_row (tag_file_at path) is_head_only o (sym is ∙ e)) (λ e. cc) (finmap.get s.objects n) e)

  -- where none of them was shown, nothing stands at the path
  module _ (no_view : (view : ObjectView) → sh ≡ shown.Object view → ⊥) (no_files : (view : ObjectView) → sh ≡ shown.Files view → ⊥)
      (no_object_row : (row : ObjectRow) → sh ≡ shown.ObjectRow row → ⊥) (no_texts : (row : ObjectRow) (texts : Texts) → sh ≡ shown.Metadata row texts → ⊥)
      (no_row : (row : FileRow) → sh ≡ shown.File row → ⊥) where
    no_show : (file : Option TagFile) (b : Bool) (o : Object) → sh ≡ show_by n file b o → ⊥
    no_show (Some tag.Declaration) b o e = no_object_row (object_row n o) e
    no_show (Some tag.Information) b o e = no_files (files_view n o) e
    no_show (Some (tag.Manifest Sha256)) b o e = no_files (files_view n o) e
    no_show (Some (tag.Manifest Sha512)) true o e = no_files (files_view n o) e
    no_show (Some (tag.Manifest Sha512)) false o e = no_files (payload_view n o) e
    no_show (Some tag.Metadata) b o e = no_texts (object_row n o) o.metadata e
    no_show (Some (tag.TagManifest a)) true o e = no_object_row (object_row n o) e
    no_show (Some (tag.TagManifest a)) false o e = no_view (object_view n o) e
    no_show None b o e = no_files (files_view n o) e

    no_object : (x : Option Object) → sh ≡ option_map_or (show_by n (tag_file_at path) is_head_only) x shown.Nothing → x ≡ None
    no_object None e = refl
    no_object (Some o) e = absurd (no_show (tag_file_at path) is_head_only o e)

    pub nothing_read : IsSound s → IsRead → answer 200 None None None ≡ bag_answer s n path
    nothing_read sound read = go (either_read read)
      where
        go : ((f : ℕ) × IsFileRead f) ⊎ IsObjectRead → answer 200 None None None ≡ bag_answer s n path
        go (inl (f, (of, e))) = absent_answer path f of s sound n (no_file n f sh (file_at s n f) no_row e)
        go (inr (of, e)) = no_bag_answer s n path (no_object (finmap.get s.objects n) e)
