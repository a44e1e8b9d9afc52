-- Replies that are ready to be sent.
use Rattle.std.specs.Prelude.{◌≡◌, ◌≢◌, ℕ, ◌==◌, ◌||◌, Bool, true, false, List, [], ◌∷◌, ◌++◌, is_some, Option, Some, None, IsSome, IfSome, IsTrue, length}
use Rattle.std.specs.Option.{option_map_or}
use Rattle.dep_types.specs.State.{State, file_at}
use Rattle.dep_types.specs.declared.refusal.Refusal.{Refusal}
use Rattle.dep_reply.specs.Head.{ReplyHead, head_text}
use Rattle.dep_reply.specs.Statuses.{status_number}
use Rattle.dep_answers.specs.Answers.{Answer, is_silent}
use Rattle.dep_answers.specs.Steps.{Stepped, answered_step}
use Rattle.dep_answers.specs.declared.performed.Delivery.{Delivery}
use Rattle.dep_answers.specs.declared.performed.FileId.{FileId}
use Rattle.dep_answers.specs.declared.performed.Performed.{Performed}
use Rattle.dep_answers.specs.declared.performed.StoredFile.{StoredFile}
use Rattle.dep_types.specs.declared.rows.FileRow.{FileRow}

-- the content of a file that follows a head, if one does
abbrev pub stored_in : State → Option StoredFile → List ℕ
stored_in s None = []
stored_in s (Some it) = option_map_or (λ file. file.content) (file_at s it.object it.file) []

-- which file that is
abbrev pub file_id : StoredFile → FileId
file_id it = record { object = it.object; file = it.file }

-- what is ready is the reply of the step
pub record IsReady (stepped : Stepped) (p : Performed) : Type 0 where
  pub front : p.front.items ≡ stepped.front
  pub stored : stored_in stepped.state p.stored ≡ stepped.stored
  pub source : IfSome p.stored (λ it. stepped.source ≡ Some (file_id it))
  pub not_empty : IsSome p.stored → stepped.stored ≢ []
  pub size : IfSome p.stored (λ it. it.size ≡ length stepped.stored)

-- what is ready says this, at the state
abbrev pub IsReply : State → Answer → Delivery → Performed → Type 0
IsReply s a delivery p = IsReady (answered_step s a delivery.clock delivery.is_head_only delivery.closes) p

-- The same of what may be ready. What would show nothing, in a reply that has to give the length of its
-- content, isn't said.
abbrev pub Says : State → Answer → Delivery → Option Performed → Type 0
Says s a delivery (Some p) = IsReply s a delivery p
Says s a delivery None = IsTrue (is_silent a)

-- it is known to have this status, and to be this refusal
abbrev pub HasStatus : (status : ℕ) → Option Refusal → Performed → Type 0
HasStatus status refusal p = (status_number p.status ≡ status) × (p.refusal ≡ refusal)

-- the reply says where it ends: its head gives a length, or is of the status that has no content (RFC 9110,
-- section 15.3.5; RFC 9112, section 6.3)
pub record HasEnd (p : Performed) : Type 0 where
  pub head : ReplyHead
  pub behind : List ℕ
  pub front : p.front.items ≡ head_text head ++ behind
  pub status : HasStatus head.status None p
  pub ends : IsTrue (is_some head.content_length || head.status == 204)

-- the head of a reply 200 to what has this media type, so many bytes and perhaps a tag
abbrev pub measured_head : (media : List ℕ) → (size : ℕ) → (tag : Option ℕ) → Delivery → ReplyHead
measured_head media size tag delivery = record {
  status = 200;
  date = delivery.clock;
  content_type = Some media;
  content_length = Some size;
  tag = tag;
  location = None;
  allow = None;
  closes = delivery.closes;
}

-- the file whose content stands behind a head, unless the reply is bare or the file is empty
abbrev pub stored_behind : (is_head_only : Bool) → (content : List ℕ) → StoredFile → Option StoredFile
stored_behind true content it = None
stored_behind false [] it = None
stored_behind false (b ∷ content) it = Some it

-- the file of a row
abbrev pub file_of_row : FileRow → StoredFile
file_of_row row = record { object = row.object; file = row.file; size = row.size }
