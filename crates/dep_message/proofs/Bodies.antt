-- A head, and the body behind it.
use Rattle.std.proofs.Common.{◌≡◌, ℕ, ◌<◌, ◌≤◌, ◌&&◌, not, Bool, true, false, List, [], ◌++◌, length, take, drop, Ok, refl, sym, ap, subst, ◌∙◌, append_assoc, append-nil, length-append, arith, inr}
use Rattle.std.proofs.lemmas.List.{length-take-le, take-append-drop}
use Rattle.dep_head.specs.Head.{HeadParts, IsHeadText}
use Rattle.dep_head.proofs.HeadEnd.{end_within}
use Rattle.dep_body.specs.Framing.{framing}
use Rattle.dep_body.specs.Body.{IsBodyText, IsBodyFault, IsPartOfBody}
use Rattle.dep_body.specs.declared.frame.Framing.{Framing}
use Rattle.dep_body.specs.declared.frame.Framing.TheVariants.{Empty, Length, Chunked}
use Rattle.dep_body.specs.declared.frame.FrameFault.{FrameFault}
use Rattle.dep_message.specs.Heads.{is_due, is_head_only}
use Rattle.dep_message.specs.Places.{Open, HasBytes}
use Rattle.dep_message.specs.Stream.{HasHead, IsFaultText, bad_body, IsRequestText, IsContinueText, Waits, frame_refusal}
use Rattle.dep_message.specs.Giving.{BeginsWith, BeginsWithHead}
use Rattle.dep_message.specs.Working.{HasBodySize, HasSizedHead, IsBegun}
use Rattle.dep_message.specs.declared.message.Message.{Message}
use Rattle.dep_message.proofs.Reading.{has_bytes}

-- what is awaited and wasn't told is due
pub due_now : (continued awaits : Bool) → continued ≡ false → awaits ≡ true → (not continued && awaits) ≡ true
due_now continued awaits p q = rw (p, q) refl

-- the head alone, whose client waits
pub waiting_head : (limit : ℕ) (continued : Bool) (bytes : List ℕ) (n : ℕ) (head : HeadParts) (frame : Framing)
    → IsHeadText (take n bytes) head → framing limit head ≡ Ok frame → is_due continued head frame ≡ true
    → BeginsWith (IsContinueText limit continued) bytes
waiting_head limit continued bytes n head frame is_head framed due_is = (
  take n bytes ++ [],
  drop n bytes,
  sym (take-append-drop n bytes) ∙ ap (λ l. l ++ drop n bytes) (sym (append-nil (take n bytes))),
  record {
    head = head;
    frame = frame;
    has_head = record { front = take n bytes; whole = refl; is_head = is_head; framed = framed; due_is = due_is };
  },
)

-- a head and some bytes behind it
pub headed : (limit : ℕ) (continued : Bool) (front body : List ℕ) (head : HeadParts) (frame : Framing)
    → IsBegun limit continued front head frame → HasHead limit continued false (front ++ body) head frame body
headed limit continued front body head frame b =
    record { front = front; whole = refl; is_head = b.is_head; framed = b.framed; due_is = b.due_is }

pub waits_for_body : (limit : ℕ) (continued : Bool) (front body : List ℕ) (head : HeadParts) (frame : Framing)
    → IsBegun limit continued front head frame → IsPartOfBody limit frame body → Waits limit (Open continued (front ++ body))
waits_for_body limit continued front body head frame b part =
    inr (record { head = head; frame = frame; behind = body; has_head = headed limit continued front body head frame b; is_part = part })

-- a body that has not come whole is awaited
pub waits_behind : (limit : ℕ) (continued : Bool) (bytes : List ℕ) (n : ℕ) (head : HeadParts) (frame : Framing)
    → IsBegun limit continued (take n bytes) head frame → IsPartOfBody limit frame (drop n bytes) → Waits limit (Open continued bytes)
waits_behind limit continued bytes n head frame begun part =
    subst (λ (l : List ℕ). Waits limit (Open continued l)) (take-append-drop n bytes)
    (waits_for_body limit continued (take n bytes) (drop n bytes) head frame begun part)

pub body_fault : (limit : ℕ) (continued : Bool) (front text behind : List ℕ) (head : HeadParts) (frame : Framing) (fault : FrameFault)
    → IsBegun limit continued front head frame → IsBodyFault limit frame text fault
    → BeginsWith (λ whole. IsFaultText limit continued whole (frame_refusal fault) (is_head_only head)) (front ++ (text ++ behind))
body_fault limit continued front text behind head frame fault b is_fault = (
  front ++ text,
  behind,
  sym (append_assoc front text behind),
  bad_body fault (headed limit continued front text head frame b) is_fault,
)

-- a body of so many bytes has come whole
pub sized_body : (limit : ℕ) (frame : Framing) (size : ℕ) (bytes content : List ℕ) → HasBodySize frame size → size ≤ length bytes → content ≡ take size bytes
    → IsBodyText limit frame (take size bytes) content
sized_body limit Empty size bytes content none within same = (ap (λ n. take n bytes) none, same ∙ ap (λ n. take n bytes) none)
sized_body limit (Length n) size bytes content is within same = (length-take-le size bytes within ∙ is, same)
sized_body limit Chunked size bytes content is within same = absurd is

-- and one with some bytes to come has a length
pub sized_frame : (frame : Framing) (size : ℕ) → HasBodySize frame size → 0 < size → frame ≡ Length size
sized_frame Empty size none some = absurd (omega (arith, none, some))
sized_frame (Length n) size is some = ap Length (sym is)
sized_frame Chunked size is some = absurd is

pub sized_waits : (limit : ℕ) (continued : Bool) (front behind : List ℕ) (head : HeadParts) (size : ℕ) → HasSizedHead limit continued front head size → length behind < size
    → Waits limit (Open continued (front ++ behind))
sized_waits limit continued front behind head size h less =
    waits_for_body limit continued front behind head h.frame h.begun
    (subst (λ (f : Framing). IsPartOfBody limit f behind) (sym (sized_frame h.frame size h.size_is (omega (arith, less)))) less)

-- a good head is one but for its target
pub begins_with_head : (limit : ℕ) (continued : Bool) (front body : List ℕ) (head : HeadParts) (frame : Framing)
    → IsBegun limit continued front head frame → BeginsWithHead (front ++ body)
begins_with_head limit continued front body head frame b =
    let h = b.is_head in
    (front, body, refl, (h.head, record { ends = h.ends; small = h.small; reads = h.reads; room = h.room; hosts = rw (h.minor_is, h.fields_are) at h.hosts }))

-- and a head has some bytes
pub head_bytes : (continued : Bool) (bytes : List ℕ) → BeginsWithHead bytes → HasBytes (Open continued bytes)
head_bytes continued bytes b =
    let four = (end_within b.0 (length b.0) b.3.1.ends).0 in has_bytes continued bytes (omega (arith, four, ap length b.2, length-append b.0 b.1))

pub whole_request : (limit : ℕ) (continued : Bool) (front body : List ℕ) (m : Message) (frame : Framing)
    → IsBegun limit continued front m.head frame → IsBodyText limit frame body m.content → IsRequestText limit continued (front ++ body) m
whole_request limit continued front body m frame b is_body =
    record { frame = frame; body = body; has_head = headed limit continued front body m.head frame b; is_body = is_body }

-- and so has a request
pub request_size : (limit : ℕ) (continued : Bool) (text : List ℕ) (m : Message) → IsRequestText limit continued text m → 0 < length text
request_size limit continued text m t =
    let h = t.has_head in
    let four = (end_within h.front (length h.front) h.is_head.ends).0 in omega (arith, four, ap length h.whole, length-append h.front t.body)
