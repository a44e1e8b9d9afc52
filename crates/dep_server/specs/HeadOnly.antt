-- Replies without a body (RFC 9110, section 9.3.2).
use Rattle.std.specs.Prelude.{◌≡◌, ℕ, List, ◌++◌, length, Some}
use Rattle.dep_reply.specs.Head.{ReplyHead, head_text}
use Rattle.dep_answers.specs.Steps.{Stepped, sent_by}
use Rattle.dep_message.specs.declared.message.Message.{Message}
use Rattle.dep_server.specs.Requests.{AnyRequest, step_of, made}

-- the same request by another method
abbrev pub request_by : List ℕ → Message → Message
request_by method m = record m { head = record m.head { method = method } }

-- the step of that request
abbrev pub step_as : (method : List ℕ) → AnyRequest → Stepped
step_as method q = made (step_of (record q { message = request_by method q.message }))

-- two steps that differ in the body of the reply alone: one sends it, and the other only gives its
-- length
pub record IsWithoutBody (whole head_only : Stepped) : Type 0 where
  pub state : head_only.state ≡ whole.state
  pub closes : head_only.closes ≡ whole.closes
  pub head : ReplyHead
  pub body : List ℕ
  pub reported : head.content_length ≡ Some (length body)
  pub with_body : sent_by whole ≡ head_text head ++ body
  pub head_alone : sent_by head_only ≡ head_text head
