-- What private functions make of what was read: answers, and the texts in them.
use Rattle.std.specs.Prelude.{ℕ, List, Option, Some, None, option_map, option_and_then, codes, bytes_eq, if◌then◌else◌}
use Rattle.std.specs.FinMap as finmap
use Rattle.dep_types.specs.State.{State, file_at}
use Rattle.dep_types.specs.declared.config.Config.{Config}
use Rattle.dep_types.specs.declared.rows.UploadRow.{UploadRow}
use Rattle.dep_types.specs.declared.target.Resource.{Resource}
use Rattle.dep_types.specs.declared.target.Resource.TheVariants.{Service, Object, Metadata, FileSet, File, Staging, Upload, BagList}
use Rattle.dep_types.specs.declared.target.Method.{Method}
use Rattle.dep_types.specs.declared.target.Method.TheVariants.{Post, Put}
use Rattle.dep_docs_out.specs.Documents.{service_document, status_document, metadata_document, object_url, upload_url}
use Rattle.dep_docs_out.specs.Segments.{ordered_upload_document}
use Rattle.dep_bag.specs.Bag.{list_text}
use Rattle.dep_bag.specs.Parts.{reported_paths}
use Rattle.dep_answers.specs.Answers.{Answer, ReplyContent, Document, PlainText, answer, file_reply}
use Rattle.dep_answers.specs.Bags.{shown_in_bag}
use Rattle.dep_answers.specs.declared.answer.Form.{Form}
use Rattle.dep_answers.specs.declared.answer.Form.TheVariants as form
use Rattle.dep_answers.specs.declared.performed.FileId.{FileId}
use Rattle.dep_answers.specs.declared.read_set.Shown.{Shown}
use Rattle.dep_answers.specs.declared.read_set.Shown.TheVariants as shown

-- a text of this form
abbrev pub content_of : Form → (bytes : List ℕ) → ReplyContent
content_of form.Document bytes = Document bytes
content_of form.PlainText bytes = PlainText bytes

-- ---- objects

abbrev pub reported_status : Config → Shown → Answer
reported_status config (shown.Files view) =
    answer 200 (Some (Document (status_document config view))) (Some view.object.object_tag) None
reported_status config sh = answer 200 None None None

abbrev pub reported_created : Config → Shown → Answer
reported_created config (shown.Files view) =
    answer 201 (Some (Document (status_document config view))) (Some view.object.object_tag)
    (Some (object_url config view.object.object))
reported_created config sh = answer 201 None None None

abbrev pub reported_metadata : Config → Shown → Answer
reported_metadata config (shown.Metadata row texts) =
    answer 200 (Some (Document (metadata_document config row.object texts))) (Some row.metadata_tag)
    None
reported_metadata config sh = answer 200 None None None

abbrev pub reported_list : Shown → Answer
reported_list (shown.Files view) = answer 200 (Some (PlainText (list_text (reported_paths view)))) None None
reported_list sh = answer 200 None None None

-- the tag of a part that was put in its place
abbrev pub reported_tag : Resource → Shown → Option ℕ
reported_tag (Metadata n) (shown.ObjectRow row) = Some row.metadata_tag
reported_tag (FileSet n) (shown.ObjectRow row) = Some row.files_tag
reported_tag (File n f) (shown.File row) = Some row.tag
reported_tag resource sh = None

-- ---- uploads

-- the document of an upload, where its segments' numbers are in order
abbrev pub ordered_upload : Config → UploadRow → (received : List ℕ) → Option ReplyContent
ordered_upload config row received =
    option_map (λ bytes. Document bytes) (ordered_upload_document config row received)

abbrev pub reported_upload : Config → Shown → Answer
reported_upload config (shown.Upload row received) =
    answer 200 (ordered_upload config row received) None None
reported_upload config sh = answer 200 None None None

abbrev pub reported_opened : Config → Shown → Answer
reported_opened config (shown.Upload row received) =
    answer 201 (ordered_upload config row received) None (Some (upload_url config row.upload))
reported_opened config sh = answer 201 None None None

-- ---- by the resource and the method

-- what a resource shows that isn't the content of a file
abbrev pub reported_text : Config → Resource → Shown → Answer
reported_text config Service sh = answer 200 (Some (Document (service_document config))) None None
reported_text config (Object n) sh = reported_status config sh
reported_text config (Metadata n) sh = reported_metadata config sh
reported_text config (Upload u) sh = reported_upload config sh
reported_text config (BagList n) sh = reported_list sh
reported_text config resource sh = answer 200 None None None

-- the answer to a POST, a PUT and a DELETE
abbrev pub reported_change : Config → Method → Resource → Shown → Answer
reported_change config Post Service sh = reported_created config sh
reported_change config Post (Object n) sh = reported_status config sh
reported_change config Post Staging sh = reported_opened config sh
reported_change config Put (Object n) sh = reported_status config sh
reported_change config Put resource sh = answer 204 None (reported_tag resource sh) None
reported_change config method resource sh = answer 204 None None None

-- ---- files and bags

-- a file with its tag
abbrev pub file_answer : State → FileId → Answer
file_answer s id =
    answer 200
    (option_map (file_reply id.object id.file) (file_at s id.object id.file))
    (option_map (λ file. file.tag) (file_at s id.object id.file)) None

-- what stands at a path of an object's bag
abbrev pub bag_answer : State → (n : ℕ) → (path : List ℕ) → Answer
bag_answer s n path =
    answer 200 (option_and_then (λ o. shown_in_bag n o path) (finmap.get s.objects n)) None None

-- the form of a tag file
abbrev pub form_at : (path : List ℕ) → Form
form_at path = if bytes_eq path (codes "metadata/sword.json") then form.Document else form.PlainText
