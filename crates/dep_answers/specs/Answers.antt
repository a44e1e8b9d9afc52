-- What replies say.
use Rattle.std.specs.Prelude.{ℕ, ◌==◌, ◌&&◌, not, Bool, List, [], is_some, Option, Some, None, option_map, length, codes}
use Rattle.dep_types.specs.State.{File}
use Rattle.dep_reply.specs.Head.{ReplyHead}
use Rattle.dep_answers.specs.declared.performed.FileId.{FileId}

-- what a reply shows: a document, a text of a bag, or the content of a file, as the archive keeps it, with the file whose
-- content it is
pub data ReplyContent : Type 0 where
  Document : (bytes : List ℕ) → ReplyContent
  PlainText : (bytes : List ℕ) → ReplyContent
  StoredContent : (id : FileId) → (media bytes : List ℕ) → ReplyContent

-- a file of this number of an object
abbrev pub file_reply : (object number : ℕ) → File → ReplyContent
file_reply n f file = StoredContent (record { object = n; file = f }) file.media file.content

-- its media type (RFC 9110, section 8.3)
abbrev pub media_of : ReplyContent → List ℕ
media_of (Document bytes) = codes "application/json"
media_of (PlainText bytes) = codes "text/plain; charset=utf-8"
media_of (StoredContent id media bytes) = media

-- what is sent behind the head
abbrev pub bytes_of : ReplyContent → List ℕ
bytes_of (Document bytes) = bytes
bytes_of (PlainText bytes) = bytes
bytes_of (StoredContent id media bytes) = bytes

-- what of it is no content of a file
abbrev pub document_of : Option ReplyContent → List ℕ
document_of None = []
document_of (Some (Document bytes)) = bytes
document_of (Some (PlainText bytes)) = bytes
document_of (Some (StoredContent id media bytes)) = []

-- what of it is the content of a file
abbrev pub stored_of : Option ReplyContent → List ℕ
stored_of None = []
stored_of (Some (Document bytes)) = []
stored_of (Some (PlainText bytes)) = []
stored_of (Some (StoredContent id media bytes)) = bytes

-- the file whose content it is
abbrev pub source_of : Option ReplyContent → Option FileId
source_of None = None
source_of (Some (Document bytes)) = None
source_of (Some (PlainText bytes)) = None
source_of (Some (StoredContent id media bytes)) = Some id

-- what a reply says, apart from the clock, from who asked and from whether the connection is closed
pub record Answer : Type 0 where
  pub status : ℕ
  pub content : Option ReplyContent
  pub tag : Option ℕ
  pub location : Option (List ℕ)
  pub allow : Option (List ℕ)

-- the head of the reply at a clock
abbrev pub head_of : Answer → (clock : ℕ) (closes : Bool) → ReplyHead
head_of a clock closes = record {
  status = a.status;
  date = clock;
  content_type = option_map media_of a.content;
  content_length = option_map (λ c. length (bytes_of c)) a.content;
  tag = a.tag;
  location = a.location;
  allow = a.allow;
  closes = closes;
}

abbrev pub answer : ℕ → Option ReplyContent → (tag : Option ℕ) → (location : Option (List ℕ)) → Answer
answer status content tag location =
    record { status = status; content = content; tag = tag; location = location; allow = None }

-- it shows nothing, though replies of its status give the length of their content (RFC 9110, section 15.3.5)
abbrev pub is_silent : Answer → Bool
is_silent a = not (is_some a.content) && not (a.status == 204)
