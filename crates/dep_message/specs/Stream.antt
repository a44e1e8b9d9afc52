-- What the bytes of a connection spell: requests, one after another, or a fault that ends them (RFC 9112,
-- sections 2, 6 and 9.3), and between a head and its body a `100 Continue` that is due (RFC 9110, section
-- 10.1.1).
use Rattle.std.specs.Prelude.{◌≡◌, ◌⊎◌, ℕ, ◌<◌, ◌≤◌, Bool, true, false, List, [], ◌∷◌, ◌++◌, length, if◌then◌else◌, None, Ok, Err}
use Rattle.dep_head.specs.Head.{HeadParts, IsHeadText, EndsOnce, head_end, head_limit}
use Rattle.dep_types.specs.declared.refusal.Refusal.{Refusal}
use Rattle.dep_types.specs.declared.refusal.Refusal.TheVariants.{BadRequest, MaxUploadSizeExceeded}
use Rattle.dep_body.specs.Framing.{framing}
use Rattle.dep_body.specs.Body.{IsBodyText, IsBodyFault, IsPartOfBody}
use Rattle.dep_body.specs.declared.frame.Framing.{Framing}
use Rattle.dep_body.specs.declared.frame.FrameFault.{FrameFault}
use Rattle.dep_body.specs.declared.frame.FrameFault.TheVariants.{Bad, TooLarge}
use Rattle.dep_message.specs.Heads.{is_head_only, closes, is_due}
use Rattle.dep_message.specs.Places.{Place, Open, Shut}
use Rattle.dep_message.specs.declared.message.Message.{Message}

-- what a stream spells next: a fault, whose reply has no body where it is bare; that the client may
-- send the body; a request
pub data Item : Type 0 where
  Fault : (refusal : Refusal) (head_only : Bool) → Item
  Continue : Item
  Request : (message : Message) → Item

-- where the reading stands behind an item of this text
abbrev pub after_item : Item → (text behind : List ℕ) → Place
after_item (Fault refusal head_only) text behind = Shut
after_item Continue text behind = Open true (text ++ behind)
after_item (Request m) text behind = if closes m.head then Shut else Open false behind

-- why a body is refused
abbrev pub frame_refusal : FrameFault → Refusal
frame_refusal Bad = BadRequest
frame_refusal TooLarge = MaxUploadSizeExceeded

-- a front that is no head: it ends as one, or reaches the limit without an end
abbrev pub IsNoHead : List ℕ → Type 0
IsNoHead front =
    (EndsOnce front × (length front ≤ head_limit) × ((head : HeadParts) → IsHeadText front head → ⊥))
    ⊎ ((head_end front ≡ None) × (length front ≡ head_limit))

-- a head whose framing is good, and the bytes behind it; a `100 Continue` is due, or is not
pub record HasHead (limit : ℕ) (continued due : Bool) (text : List ℕ) (head : HeadParts)
    (frame : Framing) (body : List ℕ) : Type 0 where
  pub front : List ℕ
  pub whole : text ≡ front ++ body
  pub is_head : IsHeadText front head
  pub framed : framing limit head ≡ Ok frame
  pub due_is : is_due continued head frame ≡ due

-- the text at which a stream is found faulty
pub data IsFaultText (limit : ℕ) (continued : Bool) (text : List ℕ) : Refusal → Bool → Type 0 where
  no_head : IsNoHead text → IsFaultText limit continued text BadRequest false
  bad_framing : {head : HeadParts} (fault : FrameFault) → IsHeadText text head
      → framing limit head ≡ Err fault
      → IsFaultText limit continued text (frame_refusal fault) (is_head_only head)
  bad_body : {head : HeadParts} {frame : Framing} {body : List ℕ} (fault : FrameFault)
      → HasHead limit continued false text head frame body → IsBodyFault limit frame body fault
      → IsFaultText limit continued text (frame_refusal fault) (is_head_only head)

-- the head of a request whose client waits for `100 Continue`
pub record IsContinueText (limit : ℕ) (continued : Bool) (text : List ℕ) : Type 0 where
  pub head : HeadParts
  pub frame : Framing
  pub has_head : HasHead limit continued true text head frame []

-- the text of a request: its head and its whole body
pub record IsRequestText (limit : ℕ) (continued : Bool) (text : List ℕ) (m : Message) : Type 0 where
  pub frame : Framing
  pub body : List ℕ
  pub has_head : HasHead limit continued false text m.head frame body
  pub is_body : IsBodyText limit frame body m.content

abbrev pub IsItemText : ℕ → Bool → List ℕ → Item → Type 0
IsItemText limit continued text (Fault refusal head_only) = IsFaultText limit continued text refusal head_only
IsItemText limit continued text Continue = IsContinueText limit continued text
IsItemText limit continued text (Request m) = IsRequestText limit continued text m

-- the item that stands first, and where the reading stands behind it
pub record First (limit : ℕ) (continued : Bool) (bytes : List ℕ) (item : Item) (next : Place)
    : Type 0 where
  pub text : List ℕ
  pub behind : List ℕ
  pub whole : bytes ≡ text ++ behind
  pub spelled : IsItemText limit continued text item
  pub goes_on : next ≡ after_item item text behind

-- at the place an item stands first, and the other place is behind it
abbrev pub FirstAt : ℕ → Place → Item → Place → Type 0
FirstAt limit (Open continued bytes) item next = First limit continued bytes item next
FirstAt limit Shut item next = ⊥

-- from one place, these items one after another lead to the other
abbrev pub ReadsItems : ℕ → Place → List Item → Place → Type 0
ReadsItems limit from [] to = to ≡ from
ReadsItems limit from (item ∷ items) to =
    (next : Place) × FirstAt limit from item next × ReadsItems limit next items to

-- a good head whose body has not come whole, and shows no fault
pub record HasPartOfBody (limit : ℕ) (continued : Bool) (bytes : List ℕ) : Type 0 where
  pub head : HeadParts
  pub frame : Framing
  pub behind : List ℕ
  pub has_head : HasHead limit continued false bytes head frame behind
  pub is_part : IsPartOfBody limit frame behind

-- no item is complete
abbrev pub Waits : ℕ → Place → Type 0
Waits limit (Open continued bytes) =
    ((head_end bytes ≡ None) × (length bytes < head_limit)) ⊎ HasPartOfBody limit continued bytes
Waits limit Shut = Unit {0}

-- a whole stream spells these items, and then less than a whole one
pub record Spells (limit : ℕ) (stream : List ℕ) (items : List Item) (left : Place) : Type 0 where
  pub reads : ReadsItems limit (Open false stream) items left
  pub waits : Waits limit left
