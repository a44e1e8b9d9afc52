-- Replies that are ready.
use Rattle.std.proofs.Common.{◌≡◌, ◌≢◌, ℕ, ◌==◌, ◌&&◌, ◌||◌, not, Bool, true, false, is_some, List, [], ◌∷◌, ◌++◌, Option, Some, None, option_map, length, refl, sym, ap, subst, ◌∙◌, append-nil}
use Rattle.std.specs.Prelude.{IsSome, IfSome, if◌then◌else◌}
use Rattle.std.specs.Option.{option_map_or}
use Rattle.dep_types.specs.State.{State, File, file_at}
use Rattle.dep_types.specs.Rows.{file_row}
use Rattle.dep_types.specs.declared.rows.FileRow.{FileRow}
use Rattle.dep_reply.specs.Head.{ReplyHead, head_text}
use Rattle.dep_answers.specs.Answers.{Answer, PlainText, ReplyContent, bytes_of, document_of, media_of, file_reply, stored_of, answer, head_of, is_silent}
use Rattle.dep_answers.specs.Replies.{unless_head_only, front_text, source_shown, stored_text}
use Rattle.dep_answers.specs.Performing.{HasEnd, HasStatus, IsReply, file_id, measured_head, stored_in, stored_behind, file_of_row}
use Rattle.dep_answers.specs.Reporting.{SaysLength}
use Rattle.dep_answers.specs.declared.performed.Delivery.{Delivery}
use Rattle.dep_answers.specs.declared.performed.FileId.{FileId}
use Rattle.dep_answers.specs.declared.performed.Performed.{Performed}
use Rattle.dep_answers.specs.declared.performed.StoredFile.{StoredFile}

nothing_either_way : (is_head_only : Bool) → unless_head_only is_head_only [] ≡ []
nothing_either_way true = refl
nothing_either_way false = refl

none_there : (o : Option StoredFile) → o ≡ None → IsSome o → ⊥
none_there None e h = cc
none_there (Some it) e h = cc

-- a reply without the content of a file
pub text_reply : (s : State) (a : Answer) (delivery : Delivery) (p : Performed)
    → p.front.items ≡ head_text (head_of a delivery.clock delivery.closes) ++ unless_head_only delivery.is_head_only (document_of a.content)
    → stored_of a.content ≡ [] → p.stored ≡ None → IsReply s a delivery p
unfolding front_text stored_text source_shown
text_reply s a delivery p front none nothing = record {
  front = front;
  stored = ap (stored_in s) nothing ∙ sym (ap (unless_head_only delivery.is_head_only) none ∙ nothing_either_way delivery.is_head_only);
  source = subst (λ (o : Option StoredFile). IfSome o (λ it. source_shown a delivery.is_head_only ≡ Some (file_id it))) (sym nothing) tt;
  not_empty = λ has. absurd (none_there p.stored nothing has);
  size = subst (λ (o : Option StoredFile). IfSome o (λ it. it.size ≡ length (unless_head_only delivery.is_head_only (stored_of a.content)))) (sym nothing) tt;
}

-- ---- where a reply ends

reported_end : (content : Option ReplyContent) (b : Bool) → (not (is_some content) && not b) ≡ false
    → (is_some (option_map (λ (c : ReplyContent). length (bytes_of c)) content) || b) ≡ true
reported_end (Some c) b e = refl
reported_end None true e = refl
reported_end None false e = absurd (cc)

-- what isn't silent tells where it ends
pub ends_by : (a : Answer) (delivery : Delivery) (p : Performed) → is_silent a ≡ false
    → p.front.items ≡ front_text a delivery.clock delivery.is_head_only delivery.closes → HasStatus a.status None p → HasEnd p
unfolding front_text
ends_by a delivery p e front status = record {
  head = head_of a delivery.clock delivery.closes;
  behind = unless_head_only delivery.is_head_only (document_of a.content);
  front = front;
  status = status;
  ends = reported_end a.content (a.status == 204) e;
}

-- ---- the content of a file

-- the head by the row
abbrev head_by : FileRow → (tag : Option ℕ) → Delivery → ReplyHead
head_by row tag delivery = measured_head row.media row.size tag delivery

content_behind : (s : State) (is_head_only : Bool) (content : List ℕ) (it : StoredFile)
    → option_map_or (λ (x : File). x.content) (file_at s it.object it.file) [] ≡ content
    → stored_in s (stored_behind is_head_only content it) ≡ unless_head_only is_head_only content
content_behind s true content it e = refl
content_behind s false [] it e = refl
content_behind s false (b ∷ content) it e = e

not_nothing : (is_head_only : Bool) (content : List ℕ) (it : StoredFile) → IsSome (stored_behind is_head_only content it)
    → unless_head_only is_head_only content ≢ []
not_nothing true content it h = absurd (none_there None refl h)
not_nothing false [] it h = absurd (none_there None refl h)
not_nothing false (b ∷ content) it h = λ e. cc

source_behind : (is_head_only : Bool) (content : List ℕ) (it : StoredFile) (id : Option FileId) → id ≡ Some (file_id it)
    → IfSome (stored_behind is_head_only content it) (λ it. (if is_head_only then None else id) ≡ Some (file_id it))
source_behind true content it id e = tt
source_behind false [] it id e = tt
source_behind false (b ∷ content) it id e = e

sized_behind : (is_head_only : Bool) (content : List ℕ) (it : StoredFile) → it.size ≡ length content
    → IfSome (stored_behind is_head_only content it) (λ it. it.size ≡ length (unless_head_only is_head_only content))
sized_behind true content it e = tt
sized_behind false [] it e = tt
sized_behind false (b ∷ content) it e = e

-- the head, and the content behind it
pub stored_ready : (s : State) (file : File) (row : FileRow) (tag : Option ℕ) (delivery : Delivery) (p : Performed)
    → file_at s row.object row.file ≡ Some file → row ≡ file_row row.object row.file file
    → p.front.items ≡ head_text (head_by row tag delivery)
    → p.stored ≡ stored_behind delivery.is_head_only file.content (file_of_row row)
    → IsReply s (answer 200 (Some (file_reply row.object row.file file)) tag None) delivery p
unfolding front_text stored_text source_shown
stored_ready s file row tag delivery p there is front stored =
    let it = file_of_row row in
    let shown = answer 200 (Some (file_reply row.object row.file file)) tag None in
    record {
      front = front ∙ ap (λ (r : FileRow). head_text (head_by r tag delivery)) is
          ∙ sym (append-nil (head_text (head_by (file_row row.object row.file file) tag delivery)))
          ∙ ap (λ (l : List ℕ). head_text (head_by (file_row row.object row.file file) tag delivery) ++ l) (sym (nothing_either_way delivery.is_head_only));
      stored = ap (stored_in s) stored
          ∙ content_behind s delivery.is_head_only file.content it (ap (λ (o : Option File). option_map_or (λ (x : File). x.content) o []) there);
      source = subst (λ (o : Option StoredFile). IfSome o (λ it. source_shown shown delivery.is_head_only ≡ Some (file_id it))) (sym stored)
          (source_behind delivery.is_head_only file.content it (Some (file_id it)) refl);
      not_empty = λ has. not_nothing delivery.is_head_only file.content it (subst IsSome stored has);
      size = subst (λ (o : Option StoredFile). IfSome o (λ it. it.size ≡ length (unless_head_only delivery.is_head_only file.content))) (sym stored)
          (sized_behind delivery.is_head_only file.content it (ap (λ (r : FileRow). r.size) is));
    }

-- a head with a length tells where its reply ends
ends_alone : (head : ReplyHead) (p : Performed) → p.front.items ≡ head_text head → is_some head.content_length ≡ true → HasStatus head.status None p → HasEnd p
ends_alone head p front sized status = record {
  head = head;
  behind = [];
  front = front ∙ sym (append-nil (head_text head));
  status = status;
  ends = ap (λ b. b || (head.status == 204)) sized;
}

pub stored_ends : (row : FileRow) (tag : Option ℕ) (delivery : Delivery) (p : Performed) → p.front.items ≡ head_text (head_by row tag delivery) → HasStatus 200 None p → HasEnd p
stored_ends row tag delivery p front status = ends_alone (head_by row tag delivery) p front refl status

-- ---- the length of a text

-- the head by the length
abbrev length_head : (size : ℕ) → Delivery → ReplyHead
length_head size delivery = measured_head (media_of (PlainText [])) size None delivery

pub length_ready : (size : ℕ) (delivery : Delivery) (p : Performed) → p.front.items ≡ head_text (length_head size delivery) → p.stored ≡ None → SaysLength size delivery (Some p)
length_ready size delivery p front nothing head_only s text sized =
    text_reply s (answer 200 (Some (PlainText text)) None None) delivery p
    (front
    ∙ ap (λ (n : ℕ). head_text (length_head n delivery)) (sym sized)
    ∙ sym (append-nil (head_text (length_head (length text) delivery)))
    ∙ ap (λ (b : Bool). head_text (length_head (length text) delivery) ++ unless_head_only b text) (sym head_only))
    refl nothing

pub length_ends : (size : ℕ) (delivery : Delivery) (p : Performed) → p.front.items ≡ head_text (length_head size delivery) → HasStatus 200 None p → HasEnd p
length_ends size delivery p front status = ends_alone (length_head size delivery) p front refl status
