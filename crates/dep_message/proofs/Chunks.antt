-- Chunks behind a head, of which a reader was fed the first bytes.
use Rattle.std.proofs.Common.{◌≡◌, ℕ, ◌+◌, ◌≤◌, ◌<◌, Bool, List, [], ◌++◌, length, take, drop, sym, ap, subst, ◌∙◌, append_assoc, append-nil, arith, refl, inl, inr}
use Rattle.std.proofs.lemmas.Bool.{cases_lt}
use Rattle.std.proofs.lemmas.List.{take-append-drop, take-append-le}
use Rattle.std.proofs.Math.Seq.{take-add, take-append_seam, drop-append_seam}
use Rattle.dep_body.specs.Body.{IsChunkedPart, IsPartOfBody, begun_line}
use Rattle.dep_body.specs.Feeding.{EndsBody, ShowsFault, HasFed}
use Rattle.dep_body.specs.ReaderValue.{ReaderValue}
use Rattle.dep_body.specs.declared.frame.Framing.TheVariants.{Chunked as InChunks}
use Rattle.dep_body.specs.declared.frame.FrameFault.{FrameFault}
use Rattle.dep_body.proofs.ChunkLemmas.{chunks_none}
use Rattle.dep_body.proofs.LineEnds.{end_nil}
use Rattle.dep_body.proofs.OneBody.{body_no_part}
use Rattle.dep_message.specs.Giving.{BeginsWith, BeginsWithHead}
use Rattle.dep_message.specs.Heads.{is_head_only}
use Rattle.dep_message.specs.Places.{Open}
use Rattle.dep_message.specs.Stream.{IsFaultText, IsRequestText, Waits, frame_refusal}
use Rattle.dep_message.specs.Working.{IsBegun, ReadsChunks}
use Rattle.dep_message.specs.declared.progress.ChunkedRequest.{ChunkedRequest}
use Rattle.dep_body.specs.declared.used.UsedBytes.{UsedBytes}
use Rattle.dep_message.proofs.Bodies.{begins_with_head, body_fault, waits_for_body, whole_request}

-- nothing is a part of a body
pub nothing_is_part : (limit : ℕ) → IsPartOfBody limit InChunks []
nothing_is_part limit =
    ([], record { before = []; rest = []; held = []; chunks = chunks_none limit; unit = begun_line end_nil (omega arith); content_is = refl })

-- of what was used, nothing is behind the head
pub reads_none : (limit : ℕ) (continued : Bool) (front : List ℕ) (request : ChunkedRequest) → request.used.items ≡ front
    → IsBegun limit continued front request.head InChunks → request.reader.limit ≡ limit → HasFed request.reader [] → ReadsChunks limit continued request
reads_none limit continued front request used_is begun limit_is has_fed = record {
  front = front;
  fed = [];
  used_is = used_is ∙ sym (append-nil front);
  begun = begun;
  limit_is = limit_is;
  has_fed = has_fed;
  part = nothing_is_part limit;
}

front_of : (a b x y : List ℕ) → a ++ x ≡ b ++ y → length b < length a → (z : List ℕ) × (b ++ z ≡ a)
front_of a b x y e less =
    let within : length b ≤ length a = omega arith in
    let same : take (length b) a ≡ b = sym (take-append-le (length b) a x within) ∙ (ap (take (length b)) e ∙ take-append_seam b y) in
    (drop (length b) a, ap (λ l. l ++ drop (length b) a) (sym same) ∙ take-append-drop (length b) a)

-- a body that ended with the piece has all that was fed before
pub ends_behind : (limit : ℕ) (content fed piece : List ℕ) (used : ℕ) (e : EndsBody limit content fed piece used) → IsPartOfBody limit InChunks fed
    → length e.text ≡ length fed + used
ends_behind limit content fed piece used e part =
    elim (cases_lt (length e.text) (length fed)) as (λ _. length e.text ≡ length fed + used) [
      | inl less ↦ (
          let front = front_of fed e.text piece e.behind e.stream_is less in
          absurd (body_no_part limit InChunks e.text front.0 content e.body (subst (λ (l : List ℕ). IsPartOfBody limit InChunks l) (sym front.1) part))
          )
      | inr within ↦ omega (arith, e.used_is, within)
    ]

-- all bytes are the head, what the reader was fed, and its piece
whole_is : (limit : ℕ) (continued : Bool) (request : ChunkedRequest) (piece buffer : List ℕ) (r : ReadsChunks limit continued request) → piece ≡ buffer
    → request.used.items ++ buffer ≡ r.front ++ (r.fed ++ piece)
whole_is limit continued request piece buffer r same =
    ap (λ l. l ++ buffer) r.used_is ∙ (append_assoc r.front r.fed buffer ∙ ap (λ l. r.front ++ (r.fed ++ l)) (sym same))

-- the head stands first
pub used_bytes : (limit : ℕ) (continued : Bool) (request : ChunkedRequest) (buffer : List ℕ) → ReadsChunks limit continued request
    → BeginsWithHead (request.used.items ++ buffer)
used_bytes limit continued request buffer r =
    subst BeginsWithHead (sym (whole_is limit continued request buffer buffer r refl)) (begins_with_head limit continued r.front (r.fed ++ buffer) request.head InChunks r.begun)

module _ (limit : ℕ) (continued : Bool) (request : ChunkedRequest) (piece buffer : List ℕ) (r : ReadsChunks limit continued request) (same : piece ≡ buffer)
    (l : ℕ) (content : List ℕ) (same_limit : l ≡ limit) where
  -- with the piece it is a part of a body still
  pub part_now : IsChunkedPart l (r.fed ++ piece) content → IsPartOfBody limit InChunks (r.fed ++ piece)
  part_now part = (content, rw (sym same_limit) part)

  pub waits_on : IsChunkedPart l (r.fed ++ piece) content → Waits limit (Open continued (request.used.items ++ buffer))
  waits_on part =
      subst (λ (b : List ℕ). Waits limit (Open continued b)) (sym (whole_is limit continued request piece buffer r same))
      (waits_for_body limit continued r.front (r.fed ++ piece) request.head InChunks r.begun (part_now part))

  -- the body ended, and has so many bytes of the piece
  pub chunks_text : (count : ℕ) (used : UsedBytes) → EndsBody l content r.fed piece count → used.items ≡ request.used.items ++ take count piece
      → IsRequestText limit continued used.items (record { head = request.head; content = content })
  chunks_text count used e used_is =
      let size : length e.text ≡ length r.fed + count = ends_behind l content r.fed piece count e (rw same_limit r.part) in
      let text_is : e.text ≡ r.fed ++ take count piece =
      sym (take-append_seam e.text e.behind) ∙ (ap (take (length e.text)) (sym e.stream_is) ∙ (ap (λ n. take n (r.fed ++ piece)) size
      ∙ (take-add (length r.fed) count (r.fed ++ piece) ∙ (ap (λ t. t ++ take count (drop (length r.fed) (r.fed ++ piece))) (take-append_seam r.fed piece)
      ∙ ap (λ t. r.fed ++ take count t) (drop-append_seam r.fed piece))))) in
      let items_are : used.items ≡ r.front ++ e.text =
      used_is ∙ (ap (λ t. t ++ take count piece) r.used_is ∙ (append_assoc r.front r.fed (take count piece) ∙ ap (λ t. r.front ++ t) (sym text_is))) in
      subst (λ (t : List ℕ). IsRequestText limit continued t (record { head = request.head; content = content })) (sym items_are)
      (whole_request limit continued r.front e.text (record { head = request.head; content = content }) InChunks r.begun (rw (sym same_limit) e.body))

  -- and with the bytes behind it these are all
  pub chunks_whole : (count : ℕ) (used : UsedBytes) → used.items ≡ request.used.items ++ take count piece
      → used.items ++ drop count buffer ≡ request.used.items ++ buffer
  chunks_whole count used used_is =
      ap (λ t. t ++ drop count buffer) used_is ∙ (append_assoc request.used.items (take count piece) (drop count buffer)
      ∙ ap (λ t. request.used.items ++ t) (ap (λ t. take count t ++ drop count buffer) same ∙ take-append-drop count buffer))

  -- the body shows a fault
  pub faulty_now : (fault : FrameFault) → ShowsFault l content r.fed piece fault
      → BeginsWith (λ text. IsFaultText limit continued text (frame_refusal fault) (is_head_only request.head)) (request.used.items ++ buffer)
  faulty_now fault s =
      subst (BeginsWith (λ text. IsFaultText limit continued text (frame_refusal fault) (is_head_only request.head)))
      (ap (λ t. r.front ++ t) (sym s.stream_is) ∙ sym (whole_is limit continued request piece buffer r same))
      (body_fault limit continued r.front s.text s.behind request.head InChunks fault r.begun (content, rw (sym same_limit) s.shown))

-- with the piece the reader was fed so much more
pub reads_on : (limit : ℕ) (continued : Bool) (request : ChunkedRequest) (piece : List ℕ) (reader : ReaderValue) (used : UsedBytes) (r : ReadsChunks limit continued request)
    → used.items ≡ request.used.items ++ piece → reader.limit ≡ request.reader.limit → HasFed reader (r.fed ++ piece) → IsPartOfBody limit InChunks (r.fed ++ piece)
    → ReadsChunks limit continued (record request { reader = reader; used = used })
reads_on limit continued request piece reader used r used_is same_limit has_fed part = record {
  front = r.front;
  fed = r.fed ++ piece;
  used_is = used_is ∙ whole_is limit continued request piece piece r refl;
  begun = r.begun;
  limit_is = same_limit ∙ r.limit_is;
  has_fed = has_fed;
  part = part;
}
