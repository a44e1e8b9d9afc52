-- What answers tell of what was read is what they tell of the state.
use Rattle.std.proofs.Common.{◌≡◌, ℕ, Bool, true, List, [], ◌∷◌, ◌++◌, Option, Some, None, if◌then◌else◌, refl, ap, ◌∙◌, map as each}
use Rattle.std.specs.Option.{option_map, option_map_or}
use Rattle.std.specs.FinMap as finmap
use Rattle.dep_types.specs.State.{State, Object, File, Upload, file_at}
use Rattle.dep_types.specs.Sound.{IsSound}
use Rattle.dep_types.specs.BagPaths.{bag_paths, tag_paths, payload_path}
use Rattle.dep_types.specs.Rows.{object_row, object_view, file_row, upload_row}
use Rattle.dep_types.specs.declared.config.Config.{Config}
use Rattle.dep_types.specs.declared.target.Method.{Method}
use Rattle.dep_types.specs.declared.target.Method.TheVariants as method
use Rattle.dep_types.specs.declared.target.Resource.{Resource}
use Rattle.dep_types.specs.declared.target.Resource.TheVariants as resource
use Rattle.dep_docs_out.specs.Segments.{are_segments}
use Rattle.dep_docs_out.specs.Documents.{links_data, status_data, status_document, metadata_document, upload_document, object_url, upload_url}
use Rattle.dep_bag.specs.Bag.{list_text}
use Rattle.dep_manifest.specs.Reported.{row_path}
use Rattle.dep_decisions.specs.LookUps.{tag_at}
use Rattle.dep_answers.specs.Answers.{Answer, Document, PlainText, answer}
use Rattle.dep_answers.specs.Replies.{answer_to, last_object, last_upload, status_answer, created_answer, opened_answer, shown_answer}
use Rattle.dep_answers.specs.ReadSets.{files_view, shown_at, read_set_at, read_set_of}
use Rattle.dep_answers.specs.Reported.{reported_change, reported_text, reported_status, reported_created, reported_metadata, reported_list, reported_tag, reported_upload, reported_opened}
use Rattle.dep_answers.specs.declared.read_set.Shown.{Shown}
use Rattle.dep_answers.specs.declared.read_set.Shown.TheVariants as shown
use Rattle.dep_answers.specs.declared.read_set.ReadSet.TheVariants as read_set
use Rattle.dep_answers.proofs.Rising.{segments_rise}

-- ---- objects

-- a status document has nothing of the metadata
same_document : (config : Config) (n : ℕ) (o : Object) → status_document config (files_view n o) ≡ status_document config (object_view n o)
unfolding status_data links_data
same_document config n o = refl

status_by : (config : Config) (n : ℕ) (o : Option Object)
    → reported_status config (option_map_or (λ (x : Object). shown.Files (files_view n x)) o shown.Nothing)
    ≡ answer 200 (option_map (λ (x : Object). Document (status_document config (object_view n x))) o) (option_map (λ (x : Object). x.tag) o) None
status_by config n None = refl
status_by config n (Some o) = ap (λ (text : List ℕ). answer 200 (Some (Document text)) (Some o.tag) None) (same_document config n o)

pub status_is : (config : Config) (s : State) (n : ℕ) (sh : Shown) → sh ≡ shown_at s (read_set.Files n)
    → reported_status config sh ≡ status_answer config s n
status_is config s n sh e = ap (reported_status config) e ∙ status_by config n (finmap.get s.objects n)

created_by : (config : Config) (n : ℕ) (o : Option Object)
    → reported_created config (option_map_or (λ (x : Object). shown.Files (files_view n x)) o shown.Nothing)
    ≡ answer 201 (option_map (λ (x : Object). Document (status_document config (object_view n x))) o) (option_map (λ (x : Object). x.tag) o) (option_map (λ (x : Object). object_url config n) o)
created_by config n None = refl
created_by config n (Some o) = ap (λ (text : List ℕ). answer 201 (Some (Document text)) (Some o.tag) (Some (object_url config n))) (same_document config n o)

pub created_is : (config : Config) (s : State) (n : ℕ) (sh : Shown) → sh ≡ shown_at s (read_set.Files n)
    → reported_created config sh ≡ created_answer config s n
created_is config s n sh e = ap (reported_created config) e ∙ created_by config n (finmap.get s.objects n)

metadata_by : (config : Config) (n : ℕ) (o : Option Object)
    → reported_metadata config (option_map_or (λ (x : Object). shown.Metadata (object_row n x) x.metadata) o shown.Nothing)
    ≡ answer 200 (option_map (λ (x : Object). Document (metadata_document config n x.metadata)) o) (option_map (λ (x : Object). x.metadata_tag) o) None
metadata_by config n None = refl
metadata_by config n (Some o) = refl

pub metadata_is : (config : Config) (s : State) (n : ℕ) (sh : Shown) → sh ≡ shown_at s (read_set.Metadata n)
    → reported_metadata config sh ≡ shown_answer config s (resource.Metadata n)
metadata_is config s n sh e = ap (reported_metadata config) e ∙ metadata_by config n (finmap.get s.objects n)

-- ---- tags

-- by the row of an object, if it is there
row_tag_by : (n : ℕ) (r : Resource) (tag : Object → ℕ) → ((x : Object) → reported_tag r (shown.ObjectRow (object_row n x)) ≡ Some (tag x)) → reported_tag r shown.Nothing ≡ None
    → (o : Option Object) → reported_tag r (option_map_or (λ (x : Object). shown.ObjectRow (object_row n x)) o shown.Nothing) ≡ option_map tag o
row_tag_by n r tag some none None = none
row_tag_by n r tag some none (Some o) = some o

pub metadata_tag_is : (s : State) (n : ℕ) (sh : Shown) → sh ≡ shown_at s (read_set.ObjectRow n)
    → reported_tag (resource.Metadata n) sh ≡ tag_at s (resource.Metadata n)
metadata_tag_is s n sh e = ap (reported_tag (resource.Metadata n)) e ∙ row_tag_by n (resource.Metadata n) (λ (x : Object). x.metadata_tag) (λ x. refl) refl (finmap.get s.objects n)

pub files_tag_is : (s : State) (n : ℕ) (sh : Shown) → sh ≡ shown_at s (read_set.ObjectRow n)
    → reported_tag (resource.FileSet n) sh ≡ tag_at s (resource.FileSet n)
files_tag_is s n sh e = ap (reported_tag (resource.FileSet n)) e ∙ row_tag_by n (resource.FileSet n) (λ (x : Object). x.files_tag) (λ x. refl) refl (finmap.get s.objects n)

file_tag_by : (n f : ℕ) (o : Option File)
    → reported_tag (resource.File n f) (option_map_or (λ (x : File). shown.File (file_row n f x)) o shown.Nothing) ≡ option_map (λ (x : File). x.tag) o
file_tag_by n f None = refl
file_tag_by n f (Some file) = refl

pub file_tag_is : (s : State) (n f : ℕ) (sh : Shown) → sh ≡ shown_at s (read_set.File (record { object = n; file = f }))
    → reported_tag (resource.File n f) sh ≡ tag_at s (resource.File n f)
file_tag_is s n f sh e = ap (reported_tag (resource.File n f)) e ∙ file_tag_by n f (file_at s n f)

-- ---- uploads

upload_by : (config : Config) (u : ℕ) (o : Option Upload)
    → ((it : Upload) → o ≡ Some it → are_segments (finmap.keys it.segments) ≡ true)
    → reported_upload config (option_map_or (λ (x : Upload). shown.Upload (upload_row u x) (finmap.keys x.segments)) o shown.Nothing)
    ≡ answer 200 (option_map (λ (x : Upload). Document (upload_document config (upload_row u x) (finmap.keys x.segments))) o) None None
upload_by config u None rise = refl
upload_by config u (Some it) rise =
    ap (λ (b : Bool). answer 200 (option_map (λ (bytes : List ℕ). Document bytes) (if b then Some (upload_document config (upload_row u it) (finmap.keys it.segments)) else None)) None None) (rise it refl)

pub upload_is : (config : Config) (s : State) → IsSound s → (u : ℕ) (sh : Shown) → sh ≡ shown_at s (read_set.Upload u)
    → reported_upload config sh ≡ shown_answer config s (resource.Upload u)
upload_is config s sound u sh e =
    ap (reported_upload config) e ∙ upload_by config u (finmap.get s.uploads u) (segments_rise s sound u)

opened_by : (config : Config) (u : ℕ) (o : Option Upload)
    → ((it : Upload) → o ≡ Some it → are_segments (finmap.keys it.segments) ≡ true)
    → reported_opened config (option_map_or (λ (x : Upload). shown.Upload (upload_row u x) (finmap.keys x.segments)) o shown.Nothing)
    ≡ answer 201 (option_map (λ (x : Upload). Document (upload_document config (upload_row u x) (finmap.keys x.segments))) o) None (option_map (λ (x : Upload). upload_url config u) o)
opened_by config u None rise = refl
opened_by config u (Some it) rise =
    ap (λ (b : Bool). answer 201 (option_map (λ (bytes : List ℕ). Document bytes) (if b then Some (upload_document config (upload_row u it) (finmap.keys it.segments)) else None)) None (Some (upload_url config u))) (rise it refl)

pub opened_is : (config : Config) (s : State) → IsSound s → (u : ℕ) (sh : Shown) → sh ≡ shown_at s (read_set.Upload u)
    → reported_opened config sh ≡ opened_answer config s u
opened_is config s sound u sh e =
    ap (reported_opened config) e ∙ opened_by config u (finmap.get s.uploads u) (segments_rise s sound u)

-- ---- the list of a bag

same_paths : (n : ℕ) (es : List (ℕ × File))
    → each row_path (each (λ e. file_row n e.0 e.1) es) ≡ each (λ e. payload_path e.0 e.1.name) es
same_paths n [] = refl
same_paths n (e ∷ es) = ap (λ (l : List (List ℕ)). payload_path e.0 e.1.name ∷ l) (same_paths n es)

list_by : (n : ℕ) (o : Option Object)
    → reported_list (option_map_or (λ (x : Object). shown.Files (files_view n x)) o shown.Nothing)
    ≡ answer 200 (option_map (λ (x : Object). PlainText (list_text (bag_paths x))) o) None None
list_by n None = refl
list_by n (Some o) = ap (λ (l : List (List ℕ)). answer 200 (Some (PlainText (list_text (tag_paths ++ l)))) None None) (same_paths n (finmap.entries o.files))

pub list_is : (config : Config) (s : State) (n : ℕ) (sh : Shown) → sh ≡ shown_at s (read_set.Files n)
    → reported_list sh ≡ shown_answer config s (resource.BagList n)
list_is config s n sh e = ap reported_list e ∙ list_by n (finmap.get s.objects n)

-- ---- by the resource and the method

pub text_is : (config : Config) (s : State) → IsSound s → (r : Resource) (is_head_only : Bool) (sh : Shown)
    → ((n f : ℕ) → r ≡ resource.File n f → ⊥) → ((n : ℕ) (path : List ℕ) → r ≡ resource.BagFile n path → ⊥)
    → sh ≡ shown_at s (read_set_at r is_head_only) → reported_text config r sh ≡ shown_answer config s r
text_is config s sound resource.Service is_head_only sh not_file not_path e = refl
text_is config s sound (resource.Object n) is_head_only sh not_file not_path e = status_is config s n sh e
text_is config s sound (resource.Metadata n) is_head_only sh not_file not_path e = metadata_is config s n sh e
text_is config s sound (resource.FileSet n) is_head_only sh not_file not_path e = refl
text_is config s sound (resource.File n f) is_head_only sh not_file not_path e = absurd (not_file n f refl)
text_is config s sound resource.Staging is_head_only sh not_file not_path e = refl
text_is config s sound (resource.Upload u) is_head_only sh not_file not_path e = upload_is config s sound u sh e
text_is config s sound (resource.BagList n) is_head_only sh not_file not_path e = list_is config s n sh e
text_is config s sound (resource.BagFile n path) is_head_only sh not_file not_path e = absurd (not_path n path refl)

abbrev tagged : Option ℕ → Answer
tagged tag = answer 204 None tag None

posted_is : (config : Config) (s : State) → IsSound s → (r : Resource) (sh : Shown) → sh ≡ shown_at s (read_set_of s.next r method.Post)
    → reported_change config method.Post r sh ≡ answer_to config s r method.Post
posted_is config s sound resource.Service sh e = created_is config s (last_object s) sh e
posted_is config s sound (resource.Object n) sh e = status_is config s n sh e
posted_is config s sound (resource.Metadata n) sh e = refl
posted_is config s sound (resource.FileSet n) sh e = refl
posted_is config s sound (resource.File n f) sh e = refl
posted_is config s sound resource.Staging sh e = opened_is config s sound (last_upload s) sh e
posted_is config s sound (resource.Upload u) sh e = refl
posted_is config s sound (resource.BagList n) sh e = refl
posted_is config s sound (resource.BagFile n path) sh e = refl

put_is : (config : Config) (s : State) (r : Resource) (sh : Shown) → sh ≡ shown_at s (read_set_of s.next r method.Put)
    → reported_change config method.Put r sh ≡ answer_to config s r method.Put
put_is config s resource.Service sh e = refl
put_is config s (resource.Object n) sh e = status_is config s n sh e
put_is config s (resource.Metadata n) sh e = ap tagged (metadata_tag_is s n sh e)
put_is config s (resource.FileSet n) sh e = ap tagged (files_tag_is s n sh e)
put_is config s (resource.File n f) sh e = ap tagged (file_tag_is s n f sh e)
put_is config s resource.Staging sh e = refl
put_is config s (resource.Upload u) sh e = refl
put_is config s (resource.BagList n) sh e = refl
put_is config s (resource.BagFile n path) sh e = refl

pub change_is : (config : Config) (s : State) → IsSound s → (m : Method) (r : Resource) (sh : Shown)
    → (m ≡ method.Get → ⊥) → (m ≡ method.Head → ⊥) → sh ≡ shown_at s (read_set_of s.next r m)
    → reported_change config m r sh ≡ answer_to config s r m
change_is config s sound method.Get r sh not_get not_head e = absurd (not_get refl)
change_is config s sound method.Head r sh not_get not_head e = absurd (not_head refl)
change_is config s sound method.Post r sh not_get not_head e = posted_is config s sound r sh e
change_is config s sound method.Put r sh not_get not_head e = put_is config s r sh e
change_is config s sound method.Delete r sh not_get not_head e = refl
