-- A stream begins with one body, one fault, or a part of a body.
use Rattle.std.proofs.Common.{◌≡◌, ℕ, ◌+◌, ◌≤◌, List, [], ◌∷◌, ◌++◌, length, All, refl, sym, ap, subst, ◌∙◌, arith, append_assoc, append-nil, length-append, add_assoc, zero-add}
use Rattle.std.proofs.lemmas.List.Elements.{All-head, All-tail}
use Rattle.dep_body.specs.Lines.{crlf, line_text, line_size}
use Rattle.dep_body.specs.Body.{Chunk, IsChunk, chunk_text, chunks_text, chunks_content, HasChunks, IsChunkedBody, IsChunkedFault, IsChunkedPart, IsBodyText, IsBodyFault, IsPartOfBody}
use Rattle.dep_body.specs.declared.frame.Framing.{Framing}
use Rattle.dep_body.specs.declared.frame.Framing.TheVariants.{Empty, Length, Chunked}
use Rattle.dep_body.specs.declared.frame.FrameFault.{FrameFault}
use Rattle.dep_body.proofs.Splits.{lines_same, rests_same, fronts_same, backs_same}
use Rattle.dep_body.proofs.SectionLaws.{Verdict, Ended, Failed, Waits, Goes}
use Rattle.dep_body.proofs.UnitLaws.{First, first_same, chunk_first, last_first, fault_first, begun_first}

-- two chunks that begin the same bytes
record SameChunk (c d : Chunk) (x y : List ℕ) : Type 0 where
  pub chunk : c ≡ d
  pub rest : x ≡ y

size_same : (c d : Chunk) → IsChunk c → IsChunk d → c.line ≡ d.line → length c.bytes ≡ length d.bytes
size_same c d h k e =
    let both = sym h.size.says ∙ ap line_size e ∙ k.size.says in cc (both)

chunk_same : (c d : Chunk) (x y : List ℕ) → IsChunk c → IsChunk d → chunk_text c ++ x ≡ chunk_text d ++ y → SameChunk c d x y
chunk_same c d x y h k e =
    let split = λ (b : Chunk) (z : List ℕ). append_assoc (line_text b.line) (b.bytes ++ crlf) z ∙ ap (λ t. line_text b.line ++ t) (append_assoc b.bytes crlf z) in
    let f : line_text c.line ++ (c.bytes ++ (crlf ++ x)) ≡ line_text d.line ++ (d.bytes ++ (crlf ++ y)) = sym (split c x) ∙ e ∙ split d y in
    let line = lines_same c.line d.line _ _ h.size.ends k.size.ends f in
    let rest = rests_same c.line d.line _ _ h.size.ends k.size.ends f in
    let size = size_same c d h k line in
    let bytes = fronts_same c.bytes d.bytes _ _ size rest in
    let behind = backs_same c.bytes d.bytes _ _ size rest in
    record { chunk = λ i. record { line = line i; bytes = bytes i }; rest = backs_same crlf crlf x y refl behind }

pub record SameChunks (cs ds : List Chunk) (x y : List ℕ) : Type 0 where
  pub chunks : cs ≡ ds
  pub rest : x ≡ y

content_size : (c : Chunk) (cs : List Chunk) (t : ℕ) → t + length (chunks_content (c ∷ cs)) ≡ t + length c.bytes + length (chunks_content cs)
content_size c cs t = ap (λ n. t + n) (length-append c.bytes (chunks_content cs)) ∙ sym (add_assoc t (length c.bytes) (length (chunks_content cs)))

same_chunks : (limit t : ℕ) (cs ds : List Chunk) (x y : List ℕ) (v w : Verdict) → All IsChunk cs → All IsChunk ds
    → t + length (chunks_content cs) ≤ limit → t + length (chunks_content ds) ≤ limit
    → First limit (t + length (chunks_content cs)) x v → First limit (t + length (chunks_content ds)) y w → (v ≡ Goes → ⊥) → (w ≡ Goes → ⊥)
    → chunks_text cs ++ x ≡ chunks_text ds ++ y → SameChunks cs ds x y
same_chunks limit t [] [] x y v w a b h k p q stops ends e = record { chunks = refl; rest = e }
same_chunks limit t [] (d ∷ ds) x y v w a b h k p q stops ends e =
    let goes = chunk_first limit (t + 0) x (chunks_text ds ++ y) d (All-head IsChunk d ds b) (omega (arith, k, content_size d ds t)) (e ∙ append_assoc (chunk_text d) (chunks_text ds) y) in
    absurd (stops (first_same limit (t + 0) x v Goes p goes))
same_chunks limit t (c ∷ cs) [] x y v w a b h k p q stops ends e =
    let goes = chunk_first limit (t + 0) y (chunks_text cs ++ x) c (All-head IsChunk c cs a) (omega (arith, h, content_size c cs t)) (sym e ∙ append_assoc (chunk_text c) (chunks_text cs) x) in
    absurd (ends (first_same limit (t + 0) y w Goes q goes))
same_chunks limit t (c ∷ cs) (d ∷ ds) x y v w a b h k p q stops ends e =
    let f : chunk_text c ++ (chunks_text cs ++ x) ≡ chunk_text d ++ (chunks_text ds ++ y) =
    sym (append_assoc (chunk_text c) (chunks_text cs) x) ∙ e ∙ append_assoc (chunk_text d) (chunks_text ds) y in
    let first = chunk_same c d _ _ (All-head IsChunk c cs a) (All-head IsChunk d ds b) f in
    let sizes : length d.bytes ≡ length c.bytes = ap (λ (m : Chunk). length m.bytes) (sym first.chunk) in
    let other : t + length (chunks_content (d ∷ ds)) ≡ t + length c.bytes + length (chunks_content ds) =
    content_size d ds t ∙ ap (λ n. t + n + length (chunks_content ds)) sizes in
    let later =
    same_chunks limit (t + length c.bytes) cs ds x y v w (All-tail IsChunk c cs a) (All-tail IsChunk d ds b)
    (omega (arith, h, content_size c cs t)) (omega (arith, k, other))
    (subst (λ n. First limit n x v) (content_size c cs t) p) (subst (λ n. First limit n y w) other q) stops ends first.rest in
    record { chunks = ap (λ m. m ∷ cs) first.chunk ∙ ap (λ ms. d ∷ ms) later.chunks; rest = later.rest }

-- two readings of the same bytes
pub record SameReading (a b c d : List ℕ) (v w : Verdict) : Type 0 where
  pub content : a ≡ b
  pub rest : c ≡ d
  pub verdict : v ≡ w

-- bytes that are chunks and then what a verdict says
same_reading : (limit : ℕ) (a b x y p q r s : List ℕ) (v w : Verdict) → a ++ x ≡ b ++ y → HasChunks limit a p r → HasChunks limit b q s
    → First limit (length p) (r ++ x) v → First limit (length q) (s ++ y) w → (v ≡ Goes → ⊥) → (w ≡ Goes → ⊥) → SameReading p q (r ++ x) (s ++ y) v w
same_reading limit a b x y p q r s v w e h k f g stops ends =
    let split : chunks_text h.chunks ++ (r ++ x) ≡ chunks_text k.chunks ++ (s ++ y) =
    sym (ap (λ t. t ++ x) h.text_is ∙ append_assoc (chunks_text h.chunks) r x) ∙ e ∙ ap (λ t. t ++ y) k.text_is ∙ append_assoc (chunks_text k.chunks) s y in
    let first_of = λ (c : List ℕ) (chunks : List Chunk) (is : c ≡ chunks_content chunks). ap length is ∙ sym (zero-add (length (chunks_content chunks))) in
    let left = first_of p h.chunks h.content_is in
    let right = first_of q k.chunks k.content_is in
    let same =
    same_chunks limit 0 h.chunks k.chunks (r ++ x) (s ++ y) v w h.are k.are (omega (arith, left, h.fits)) (omega (arith, right, k.fits))
    (subst (λ n. First limit n (r ++ x) v) left f) (subst (λ n. First limit n (s ++ y) w) right g) stops ends split in
    let content : p ≡ q = h.content_is ∙ ap chunks_content same.chunks ∙ sym k.content_is in
    record {
      content = content;
      rest = same.rest;
      verdict =
          first_same limit (length q) (s ++ y) v w
          (subst (λ n. First limit n (s ++ y) v) (ap length content) (subst (λ t. First limit (length p) t v) same.rest f)) g;
    }

-- texts of the same reading that use as many bytes are the same
same_text : (limit : ℕ) (a b x y p q r s : List ℕ) → a ++ x ≡ b ++ y → HasChunks limit a p r → HasChunks limit b q s → r ++ x ≡ s ++ y
    → length r ≡ length s → a ≡ b
same_text limit a b x y p q r s e h k rest used =
    let all : length a + length x ≡ length b + length y = sym (length-append a x) ∙ ap length e ∙ length-append b y in
    let tail : length r + length x ≡ length s + length y = sym (length-append r x) ∙ ap length rest ∙ length-append s y in
    fronts_same a b x y (omega (arith, all, tail, used)) e

body_first : (limit : ℕ) (a x content : List ℕ) → (h : IsChunkedBody limit a content) → First limit (length content) (h.rest ++ x) (Ended (length h.rest))
body_first limit a x content h = last_first limit (length content) (h.rest ++ x) h.rest x h.last refl

fault_of : (limit : ℕ) (a x content : List ℕ) (fault : FrameFault) → (h : IsChunkedFault limit a fault content)
    → First limit (length h.before) (h.rest ++ x) (Failed fault (length h.rest))
fault_of limit a x content fault h = fault_first limit (length h.before) (h.rest ++ x) h.rest x h.held fault h.chunks.fits h.unit refl

part_of : (limit : ℕ) (a content : List ℕ) → (h : IsChunkedPart limit a content) → First limit (length h.before) (h.rest ++ []) Waits
part_of limit a content h = subst (λ t. First limit (length h.before) t Waits) (sym (append-nil h.rest)) (begun_first limit (length h.before) h.rest h.held h.unit)

pub one_chunked : (limit : ℕ) (a b x y c d : List ℕ) → a ++ x ≡ b ++ y → IsChunkedBody limit a c → IsChunkedBody limit b d → (a ≡ b) × (c ≡ d)
one_chunked limit a b x y c d e h k =
    let same =
    same_reading limit a b x y c d h.rest k.rest _ _ e h.chunks k.chunks (body_first limit a x c h) (body_first limit b y d k) (λ v. cc) (λ v. cc) in
    (same_text limit a b x y c d h.rest k.rest e h.chunks k.chunks same.rest (cc (same.verdict)), same.content)

pub one_chunked_fault : (limit : ℕ) (a b x y c d : List ℕ) (f g : FrameFault) → a ++ x ≡ b ++ y → IsChunkedFault limit a f c → IsChunkedFault limit b g d
    → (a ≡ b) × (f ≡ g)
one_chunked_fault limit a b x y c d f g e h k =
    let same =
    same_reading limit a b x y h.before k.before h.rest k.rest _ _ e h.chunks k.chunks (fault_of limit a x c f h) (fault_of limit b y d g k) (λ v. cc) (λ v. cc) in
    (same_text limit a b x y h.before k.before h.rest k.rest e h.chunks k.chunks same.rest (cc (same.verdict)), cc (same.verdict))

chunked_no_fault : (limit : ℕ) (a b x y c d : List ℕ) (f : FrameFault) → a ++ x ≡ b ++ y → IsChunkedBody limit a c → IsChunkedFault limit b f d → ⊥
chunked_no_fault limit a b x y c d f e h k =
    let same =
    same_reading limit a b x y c k.before h.rest k.rest _ _ e h.chunks k.chunks (body_first limit a x c h) (fault_of limit b y d f k) (λ v. cc) (λ v. cc) in
    cc (same.verdict)

chunked_no_part : (limit : ℕ) (a x c d : List ℕ) → IsChunkedBody limit a c → IsChunkedPart limit (a ++ x) d → ⊥
chunked_no_part limit a x c d h k =
    let same =
    same_reading limit a (a ++ x) x [] c k.before h.rest k.rest _ _ (sym (append-nil (a ++ x))) h.chunks k.chunks (body_first limit a x c h) (part_of limit (a ++ x) d k) (λ v. cc) (λ v. cc) in
    cc (same.verdict)

fault_no_chunked_part : (limit : ℕ) (a x c d : List ℕ) (f : FrameFault) → IsChunkedFault limit a f c → IsChunkedPart limit (a ++ x) d → ⊥
fault_no_chunked_part limit a x c d f h k =
    let same =
    same_reading limit a (a ++ x) x [] h.before k.before h.rest k.rest _ _ (sym (append-nil (a ++ x))) h.chunks k.chunks (fault_of limit a x c f h) (part_of limit (a ++ x) d k) (λ v. cc) (λ v. cc) in
    cc (same.verdict)

-- a stream begins with one body at most, which has one content
pub one_body : (limit : ℕ) (framing : Framing) (a b x y c d : List ℕ) → a ++ x ≡ b ++ y → IsBodyText limit framing a c → IsBodyText limit framing b d
    → (a ≡ b) × (c ≡ d)
one_body limit Empty a b x y c d e h k = (h.0 ∙ sym k.0, h.1 ∙ sym k.1)
one_body limit (Length n) a b x y c d e h k =
    let same = fronts_same a b x y (h.0 ∙ sym k.0) e in (same, h.1 ∙ same ∙ sym k.1)
one_body limit Chunked a b x y c d e h k = one_chunked limit a b x y c d e h k

-- and with one fault at most
pub one_fault : (limit : ℕ) (framing : Framing) (a b x y : List ℕ) (f g : FrameFault) → a ++ x ≡ b ++ y → IsBodyFault limit framing a f → IsBodyFault limit framing b g
    → (a ≡ b) × (f ≡ g)
one_fault limit Empty a b x y f g e h k = absurd h
one_fault limit (Length n) a b x y f g e h k = absurd h
one_fault limit Chunked a b x y f g e h k = one_chunked_fault limit a b x y h.0 k.0 f g e h.1 k.1

-- never with both
pub body_no_fault : (limit : ℕ) (framing : Framing) (a b x y c : List ℕ) (f : FrameFault) → a ++ x ≡ b ++ y → IsBodyText limit framing a c → IsBodyFault limit framing b f → ⊥
body_no_fault limit Empty a b x y c f e h k = absurd k
body_no_fault limit (Length n) a b x y c f e h k = absurd k
body_no_fault limit Chunked a b x y c f e h k = chunked_no_fault limit a b x y c k.0 f e h k.1

-- a part of a body begins with no body
pub body_no_part : (limit : ℕ) (framing : Framing) (a x c : List ℕ) → IsBodyText limit framing a c → IsPartOfBody limit framing (a ++ x) → ⊥
body_no_part limit Empty a x c h k = absurd k
body_no_part limit (Length n) a x c h k = absurd (omega (arith, h.0, k, length-append a x))
body_no_part limit Chunked a x c h k = chunked_no_part limit a x c k.0 h k.1

-- and with no fault
pub fault_no_part : (limit : ℕ) (framing : Framing) (a x : List ℕ) (f : FrameFault) → IsBodyFault limit framing a f → IsPartOfBody limit framing (a ++ x) → ⊥
fault_no_part limit Empty a x f h k = absurd h
fault_no_part limit (Length n) a x f h k = absurd h
fault_no_part limit Chunked a x f h k = fault_no_chunked_part limit a x h.0 k.0 f h.1 k.1
