-- The answers to requests, and the bytes of replies (RFC 9110, sections 6.4 and 15; SWORD 3.0).
use Rattle.std.specs.Prelude.{ℕ, ◌-◌, Bool, List, [], ◌++◌, Option, Some, None, option_map, option_and_then, if◌then◌else◌}
use Rattle.std.specs.FinMap as finmap
use Rattle.dep_types.specs.BagPaths.{bag_paths}
use Rattle.dep_types.specs.State.{State, file_at}
use Rattle.dep_types.specs.Rows.{object_view, upload_row}
use Rattle.dep_types.specs.Refusals.{facts_of}
use Rattle.dep_types.specs.declared.config.Config.{Config}
use Rattle.dep_types.specs.declared.refusal.Refusal.{Refusal}
use Rattle.dep_types.specs.declared.target.Resource.{Resource}
use Rattle.dep_types.specs.declared.target.Resource.TheVariants.{Service, Object, Metadata, FileSet, File, Staging, Upload, BagList, BagFile}
use Rattle.dep_types.specs.declared.target.Method.{Method}
use Rattle.dep_types.specs.declared.target.Method.TheVariants.{Get, Head, Post, Put, Delete}
use Rattle.dep_reply.specs.Head.{head_text}
use Rattle.dep_docs_out.specs.Documents.{service_document, status_document, metadata_document, upload_document, error_document, object_url, upload_url}
use Rattle.dep_bag.specs.Bag.{list_text}
use Rattle.dep_decisions.specs.LookUps.{tag_at}
use Rattle.dep_answers.specs.Answers.{Answer, ReplyContent, Document, PlainText, document_of, stored_of, source_of, file_reply, answer, head_of}
use Rattle.dep_answers.specs.Bags.{shown_in_bag}
use Rattle.dep_answers.specs.declared.performed.FileId.{FileId}

-- ---- what resources show

-- the status document of an object
abbrev pub status_at : Config → State → ℕ → Option ReplyContent
status_at config s n =
    option_map (λ o. Document (status_document config (object_view n o))) (finmap.get s.objects n)

abbrev pub metadata_content : Config → State → ℕ → Option ReplyContent
metadata_content config s n =
    option_map (λ o. Document (metadata_document config n o.metadata)) (finmap.get s.objects n)

-- the document of an upload, of which the segments with these numbers were received
abbrev pub upload_at : Config → State → ℕ → Option ReplyContent
upload_at config s u =
    option_map
    (λ upload. Document (upload_document config (upload_row u upload) (finmap.keys upload.segments)))
    (finmap.get s.uploads u)

-- what a resource shows
abbrev pub content_at : Config → State → Resource → Option ReplyContent
content_at config s Service = Some (Document (service_document config))
content_at config s (Object n) = status_at config s n
content_at config s (Metadata n) = metadata_content config s n
content_at config s (File n f) = option_map (file_reply n f) (file_at s n f)
content_at config s (Upload u) = upload_at config s u
content_at config s (BagList n) =
    option_map (λ o. PlainText (list_text (bag_paths o))) (finmap.get s.objects n)
content_at config s (BagFile n path) =
    option_and_then (λ o. shown_in_bag n o path) (finmap.get s.objects n)
content_at config s (FileSet n) = None
content_at config s Staging = None

-- the entity tag that it shows
abbrev pub tag_shown : State → Resource → Option ℕ
tag_shown s (Object n) = tag_at s (Object n)
tag_shown s (Metadata n) = tag_at s (Metadata n)
tag_shown s (File n f) = tag_at s (File n f)
tag_shown s resource = None

-- the URL of an object or an upload that is there
abbrev pub object_location : Config → State → ℕ → Option (List ℕ)
object_location config s n = option_map (λ o. object_url config n) (finmap.get s.objects n)

abbrev pub upload_location : Config → State → ℕ → Option (List ℕ)
upload_location config s u = option_map (λ upload. upload_url config u) (finmap.get s.uploads u)

-- ---- answers

-- the numbers of the object and of the upload that were made last
abbrev pub last_object : State → ℕ
last_object s = s.next.object - 1

abbrev pub last_upload : State → ℕ
last_upload s = s.next.upload - 1

-- with what it shows, and its entity tag
abbrev pub shown_answer : Config → State → Resource → Answer
shown_answer config s resource =
    answer 200 (content_at config s resource) (tag_shown s resource) None

-- with the object's status document, and its entity tag
abbrev pub status_answer : Config → State → ℕ → Answer
status_answer config s n = answer 200 (status_at config s n) (tag_at s (Object n)) None

-- the same for an object that was made, with its URL
abbrev pub created_answer : Config → State → ℕ → Answer
created_answer config s n =
    answer 201 (status_at config s n) (tag_at s (Object n)) (object_location config s n)

-- with the document of an upload that was opened, and its URL
abbrev pub opened_answer : Config → State → ℕ → Answer
opened_answer config s u = answer 201 (upload_at config s u) None (upload_location config s u)

-- with nothing but the entity tag of what was changed
abbrev pub changed_answer : State → Resource → Answer
changed_answer s resource = answer 204 None (tag_at s resource) None

-- with nothing
abbrev pub empty_answer : Answer
empty_answer = answer 204 None None None

-- the answer to a request that was accepted, at the state that it left; a HEAD is answered as a GET
-- (RFC 9110, section 9.3.2), and its reply is a bare one
abbrev pub answer_to : Config → State → Resource → Method → Answer
answer_to config s resource Get = shown_answer config s resource
answer_to config s resource Head = shown_answer config s resource
answer_to config s Service Post = created_answer config s (last_object s)
answer_to config s (Object n) Post = status_answer config s n
answer_to config s (Object n) Put = status_answer config s n
answer_to config s (Metadata n) Put = changed_answer s (Metadata n)
answer_to config s (FileSet n) Put = changed_answer s (FileSet n)
answer_to config s (File n f) Put = changed_answer s (File n f)
answer_to config s Staging Post = opened_answer config s (last_upload s)
answer_to config s (Upload u) Post = empty_answer
answer_to config s resource Delete = empty_answer
answer_to config s resource method = empty_answer

-- the answer to a refused one; Allow stands where a method is not allowed
abbrev pub refused_answer : (clock : ℕ) → Refusal → (allow : Option (List ℕ)) → Answer
refused_answer clock r allow = record {
  status = (facts_of r).status;
  content = Some (Document (error_document r clock));
  tag = None;
  location = None;
  allow = allow;
}

-- ---- bytes

abbrev pub unless_head_only : (is_head_only : Bool) → List ℕ → List ℕ
unless_head_only is_head_only bytes = if is_head_only then [] else bytes

-- the reply at a clock, as far as the content of a file: its head and a document; a bare one has no body
unfoldable pub front_text : Answer → (clock : ℕ) (is_head_only closes : Bool) → List ℕ
front_text a clock is_head_only closes =
    head_text (head_of a clock closes) ++ unless_head_only is_head_only (document_of a.content)

-- the content of a file behind it
unfoldable pub stored_text : Answer → (is_head_only : Bool) → List ℕ
stored_text a is_head_only = unless_head_only is_head_only (stored_of a.content)

-- the file whose content that is
unfoldable pub source_shown : Answer → (is_head_only : Bool) → Option FileId
source_shown a is_head_only = if is_head_only then None else source_of a.content
