-- Replies that are read only as they were written (RFC 9112, section 11.1).
use Rattle.std.specs.Prelude.{◌≡◌, ℕ, List, ◌++◌, length, Some}
use Rattle.dep_head.specs.Head.{head_end, EndsOnce}
use Rattle.dep_message.specs.Stream.{Item, Fault, Continue, Request}
use Rattle.dep_reply.specs.Head.{ReplyHead, head_text}
use Rattle.dep_reply.specs.Lines.{head_lines, lines_in}

-- a head and perhaps a document: the first empty line is the head's end, whatever is sent behind,
-- and up to there stand the head's own lines
pub record IsWholeReply (front : List ℕ) : Type 0 where
  pub head : ReplyHead
  pub document : List ℕ
  pub whole : front ≡ head_text head ++ document
  pub ends : (behind : List ℕ) → head_end (front ++ behind) ≡ Some (length (head_text head))
  pub lines : lines_in (head_text head) ≡ head_lines head

-- what is sent first for an item
abbrev pub IsUnsplit : Item → List ℕ → Type 0
IsUnsplit (Fault refusal head_only) front = IsWholeReply front
IsUnsplit Continue front = EndsOnce front
IsUnsplit (Request m) front = IsWholeReply front
