-- What stands first in bytes behind some chunks: a unit of one kind at most.
use Rattle.std.proofs.Common.{◌≡◌, ℕ, ◌+◌, ◌-◌, ◌<◌, ◌≤◌, Bool, true, false, nat_lt, nat_le, List, [], ◌∷◌, ◌++◌, length, take, drop, Option, Some, None, if◌then◌else◌, bytes_eq, refl, sym, ap, subst, ◌∙◌, arith, append_assoc, length-append, length-take, min, take_all, inl, inr, lt-ltb}
use Rattle.std.specs.List.{list_all}
use Rattle.std.proofs.lemmas.Bool.{cases_Bool}
use Rattle.std.proofs.lemmas.Bool.Decides.{nat_tests}
use Rattle.std.proofs.lemmas.List.{take-append-drop}
use Rattle.std.proofs.lemmas.Slice.Eq.{bytes_eq-Decides}
use Rattle.std.proofs.Math.Seq.{take-append_seam, drop-append_seam}
use Rattle.dep_body.specs.Lines.{crlf, line_text, line_end, line_size, IsLine, is_trailer_line}
use Rattle.dep_body.specs.Body.{Chunk, IsChunk, chunk_text, IsSizeLine, IsLastPart, lines_text, section_limit, line_limit, IsUnitFault, long_line, bad_line, large_chunk, bad_end, long_trailers, bad_trailers, IsBegunUnit, begun_line, begun_chunk, begun_trailers}
use Rattle.dep_body.specs.declared.frame.FrameFault.{FrameFault}
use Rattle.dep_body.specs.declared.frame.FrameFault.TheVariants.{Bad, TooLarge}
use Rattle.dep_body.proofs.LineEnds.{end_front}
use Rattle.dep_body.proofs.Splits.{line_first, text_length}
use Rattle.dep_body.proofs.SectionLaws.{Verdict, Ended, Failed, Waits, Goes, Ends, Long, Begun, ends_ends, ends_long, ends_begun, long_begun}

-- what the line that stands first says, and how long it is with its end
data Class : Type 0 where
  NoEnd : Class
  TooLong : Class
  NoSize : (line : ℕ) → Class
  OverLimit : (line : ℕ) → Class
  Bytes : (line size : ℕ) → Class
  LastLine : (line : ℕ) → Class

by_size : (limit taken line : ℕ) → Option ℕ → Class
by_size limit taken line None = NoSize line
by_size limit taken line (Some n) = if nat_lt 0 n then (if nat_le (taken + n) limit then Bytes line n else OverLimit line) else LastLine line

by_end : (limit taken : ℕ) → List ℕ → Option ℕ → Class
by_end limit taken bytes None = if nat_lt (length bytes) line_limit then NoEnd else TooLong
by_end limit taken bytes (Some k) = by_size limit taken k (line_size (take (k - 2) bytes))

class : (limit taken : ℕ) → List ℕ → Class
class limit taken bytes = by_end limit taken bytes (line_end (take line_limit bytes))

-- what the bytes behind a chunk line are
chunk_verdict : (line size : ℕ) → List ℕ → Verdict
chunk_verdict line size bytes =
    if nat_lt (length bytes) (size + 2) then Waits
    else (if bytes_eq (take 2 (drop size bytes)) crlf then Goes else Failed Bad (line + (size + 2)))

-- what the bytes behind the line of value 0 are
data SectionVerdict (line : ℕ) (bytes : List ℕ) (v : Verdict) : Type 0 where
  ends : (lines : List (List ℕ)) → Ends bytes lines
      → v ≡ (if list_all is_trailer_line lines then Ended (line + (length (lines_text lines) + 2)) else Failed Bad (line + (length (lines_text lines) + 2)))
      → SectionVerdict line bytes v
  long : Long bytes → v ≡ Failed Bad (line + section_limit) → SectionVerdict line bytes v
  begun : Begun bytes → v ≡ Waits → SectionVerdict line bytes v

Detail : List ℕ → Class → Verdict → Type 0
Detail bytes NoEnd v = v ≡ Waits
Detail bytes TooLong v = v ≡ Failed Bad line_limit
Detail bytes (NoSize line) v = v ≡ Failed Bad line
Detail bytes (OverLimit line) v = v ≡ Failed TooLarge line
Detail bytes (Bytes line size) v = v ≡ chunk_verdict line size (drop line bytes)
Detail bytes (LastLine line) v = SectionVerdict line (drop line bytes) v

-- the verdict on what stands first in the bytes, behind chunks of so many bytes
pub First : (limit taken : ℕ) → List ℕ → Verdict → Type 0
First limit taken bytes v = Detail bytes (class limit taken bytes) v

section_same : (line : ℕ) (bytes : List ℕ) (v w : Verdict) → SectionVerdict line bytes v → SectionVerdict line bytes w → v ≡ w
section_same line bytes v w (ends ms h e) (ends ns k f) =
    e ∙ ap (λ ls. if list_all is_trailer_line ls then Ended (line + (length (lines_text ls) + 2)) else Failed Bad (line + (length (lines_text ls) + 2))) (ends_ends bytes ms ns h k) ∙ sym f
section_same line bytes v w (ends ms h e) (long k f) = absurd (ends_long bytes ms h k)
section_same line bytes v w (ends ms h e) (begun k f) = absurd (ends_begun bytes ms h k)
section_same line bytes v w (long h e) (ends ns k f) = absurd (ends_long bytes ns k h)
section_same line bytes v w (long h e) (long k f) = e ∙ sym f
section_same line bytes v w (long h e) (begun k f) = absurd (long_begun bytes h k)
section_same line bytes v w (begun h e) (ends ns k f) = absurd (ends_begun bytes ns k h)
section_same line bytes v w (begun h e) (long k f) = absurd (long_begun bytes k h)
section_same line bytes v w (begun h e) (begun k f) = e ∙ sym f

detail_same : (bytes : List ℕ) (c : Class) (v w : Verdict) → Detail bytes c v → Detail bytes c w → v ≡ w
unfolding Detail
detail_same bytes NoEnd v w h k = h ∙ sym k
detail_same bytes TooLong v w h k = h ∙ sym k
detail_same bytes (NoSize line) v w h k = h ∙ sym k
detail_same bytes (OverLimit line) v w h k = h ∙ sym k
detail_same bytes (Bytes line size) v w h k = h ∙ sym k
detail_same bytes (LastLine line) v w h k = section_same line (drop line bytes) v w h k

pub first_same : (limit taken : ℕ) (bytes : List ℕ) (v w : Verdict) → First limit taken bytes v → First limit taken bytes w → v ≡ w
unfolding First
first_same limit taken bytes v w h k = detail_same bytes (class limit taken bytes) v w h k

first_is : (limit taken : ℕ) (bytes : List ℕ) (v : Verdict) (c : Class) → class limit taken bytes ≡ c → Detail bytes c v → First limit taken bytes v
unfolding First
first_is limit taken bytes v c e d = subst (λ k. Detail bytes k v) (sym e) d

-- bytes that begin with a line
line_class : (limit taken : ℕ) (bytes line after : List ℕ) → bytes ≡ line_text line ++ after → IsLine line → length line + 2 ≤ line_limit
    → class limit taken bytes ≡ by_size limit taken (length line + 2) (line_size line)
unfolding class by_end
line_class limit taken bytes line after e h short =
    let whole : line_end bytes ≡ Some (length line + 2) = ap line_end e ∙ line_first line after h in
    let long : length bytes ≡ length line + 2 + length after = ap length e ∙ length-append (line_text line) after ∙ ap (λ n. n + length after) (text_length line) in
    let front : length (take line_limit bytes) ≡ min line_limit (length bytes) = length-take line_limit bytes in
    let found : line_end (take line_limit bytes) ≡ Some (length line + 2) =
    end_front (take line_limit bytes) (drop line_limit bytes) (length line + 2) (ap line_end (take-append-drop line_limit bytes) ∙ whole) (omega (arith, long, front, short)) in
    let back : length line + 2 - 2 ≡ length line = omega arith in
    let is : take (length line + 2 - 2) bytes ≡ line =
    ap (λ n. take n bytes) back ∙ ap (take (length line)) (e ∙ append_assoc line crlf after) ∙ take-append_seam line (crlf ++ after) in
    ap (by_end limit taken bytes) found ∙ ap (λ l. by_size limit taken (length line + 2) (line_size l)) is

after_line : (bytes line after : List ℕ) → bytes ≡ line_text line ++ after → drop (length line + 2) bytes ≡ after
after_line bytes line after e =
    ap (λ n. drop n bytes) (sym (text_length line)) ∙ ap (drop (length (line_text line))) e ∙ drop-append_seam (line_text line) after

size_class : (limit taken : ℕ) (bytes line after : List ℕ) (size : ℕ) → bytes ≡ line_text line ++ after → IsSizeLine line size
    → class limit taken bytes ≡ by_size limit taken (length line + 2) (Some size)
size_class limit taken bytes line after size e h =
    line_class limit taken bytes line after e h.ends h.short ∙ ap (by_size limit taken (length line + 2)) h.says

zero_class : (limit taken : ℕ) (bytes line after : List ℕ) → bytes ≡ line_text line ++ after → IsSizeLine line 0
    → class limit taken bytes ≡ LastLine (length line + 2)
unfolding by_size
zero_class limit taken bytes line after e h = size_class limit taken bytes line after 0 e h

bytes_class : (limit taken : ℕ) (bytes line after : List ℕ) (size : ℕ) → bytes ≡ line_text line ++ after → IsSizeLine line size → 0 < size → taken + size ≤ limit
    → class limit taken bytes ≡ Bytes (length line + 2) size
unfolding by_size
bytes_class limit taken bytes line after size e h some room =
    size_class limit taken bytes line after size e h
    ∙ ap (λ (b : Bool). if b then (if nat_le (taken + size) limit then Bytes (length line + 2) size else OverLimit (length line + 2)) else LastLine (length line + 2)) (lt-ltb 0 size some)
    ∙ ap (λ (b : Bool). if b then Bytes (length line + 2) size else OverLimit (length line + 2)) (let t : nat_le (taken + size) limit ≡ true = grind (arith, nat_tests) in t)

over_class : (limit taken : ℕ) (bytes line after : List ℕ) (size : ℕ) → bytes ≡ line_text line ++ after → IsSizeLine line size → taken ≤ limit → limit < taken + size
    → class limit taken bytes ≡ OverLimit (length line + 2)
unfolding by_size
over_class limit taken bytes line after size e h before over =
    let some : 0 < size = omega arith in
    size_class limit taken bytes line after size e h
    ∙ ap (λ (b : Bool). if b then (if nat_le (taken + size) limit then Bytes (length line + 2) size else OverLimit (length line + 2)) else LastLine (length line + 2)) (lt-ltb 0 size some)
    ∙ ap (λ (b : Bool). if b then Bytes (length line + 2) size else OverLimit (length line + 2)) (let f : nat_le (taken + size) limit ≡ false = grind (arith, nat_tests) in f)

-- a whole chunk
whole_chunk : (line size : ℕ) (bytes more : List ℕ) → length bytes ≡ size → chunk_verdict line size (bytes ++ (crlf ++ more)) ≡ Goes
unfolding chunk_verdict
whole_chunk line size bytes more e =
    let all = bytes ++ (crlf ++ more) in
    let long : length all ≡ size + (2 + length more) = length-append bytes (crlf ++ more) ∙ ap (λ n. n + length (crlf ++ more)) e ∙ ap (λ n. size + n) (length-append crlf more) in
    let enough : nat_lt (length all) (size + 2) ≡ false = grind (arith, nat_tests) in
    let behind : drop size all ≡ crlf ++ more = ap (λ n. drop n all) (sym e) ∙ drop-append_seam bytes (crlf ++ more) in
    let two : take 2 (drop size all) ≡ crlf = ap (take 2) behind in
    ap (λ (b : Bool). if b then Waits else (if bytes_eq (take 2 (drop size all)) crlf then Goes else Failed Bad (line + (size + 2)))) enough
    ∙ ap (λ (b : Bool). if b then Goes else Failed Bad (line + (size + 2))) ((bytes_eq-Decides _ _).1 two)

wrong_end : (line size : ℕ) (bytes two more : List ℕ) → length bytes ≡ size → length two ≡ 2 → (two ≡ crlf → ⊥)
    → chunk_verdict line size (bytes ++ (two ++ more)) ≡ Failed Bad (line + (size + 2))
unfolding chunk_verdict
wrong_end line size bytes two more e n other =
    let all = bytes ++ (two ++ more) in
    let long : length all ≡ size + (2 + length more) = length-append bytes (two ++ more) ∙ ap (λ n. n + length (two ++ more)) e ∙ ap (λ n. size + n) (length-append two more ∙ ap (λ k. k + length more) n) in
    let enough : nat_lt (length all) (size + 2) ≡ false = grind (arith, nat_tests) in
    let behind : drop size all ≡ two ++ more = ap (λ n. drop n all) (sym e) ∙ drop-append_seam bytes (two ++ more) in
    let is : take 2 (drop size all) ≡ two = ap (take 2) behind ∙ ap (λ k. take k (two ++ more)) (sym n) ∙ take-append_seam two more in
    let differs : bytes_eq (take 2 (drop size all)) crlf ≡ false =
    elim (cases_Bool (bytes_eq (take 2 (drop size all)) crlf)) [ inl t ↦ absurd (other (sym is ∙ (bytes_eq-Decides _ _).0 t)) | inr f ↦ f ] in
    ap (λ (b : Bool). if b then Waits else (if bytes_eq (take 2 (drop size all)) crlf then Goes else Failed Bad (line + (size + 2)))) enough
    ∙ ap (λ (b : Bool). if b then Goes else Failed Bad (line + (size + 2))) differs

not_all : (line size : ℕ) (bytes : List ℕ) → length bytes < size + 2 → chunk_verdict line size bytes ≡ Waits
unfolding chunk_verdict
not_all line size bytes short =
    ap (λ (b : Bool). if b then Waits else (if bytes_eq (take 2 (drop size bytes)) crlf then Goes else Failed Bad (line + (size + 2)))) (lt-ltb _ _ short)

pub chunk_first : (limit taken : ℕ) (bytes more : List ℕ) (c : Chunk) → IsChunk c → taken + length c.bytes ≤ limit → bytes ≡ chunk_text c ++ more
    → First limit taken bytes Goes
unfolding Detail
chunk_first limit taken bytes more c h room e =
    let split : bytes ≡ line_text c.line ++ (c.bytes ++ (crlf ++ more)) =
    e ∙ append_assoc (line_text c.line) (c.bytes ++ crlf) more ∙ ap (λ t. line_text c.line ++ t) (append_assoc c.bytes crlf more) in
    first_is limit taken bytes Goes (Bytes (length c.line + 2) (length c.bytes)) (bytes_class limit taken bytes c.line _ (length c.bytes) split h.size h.some room)
    (sym (ap (chunk_verdict (length c.line + 2) (length c.bytes)) (after_line bytes c.line _ split) ∙ whole_chunk (length c.line + 2) (length c.bytes) c.bytes more refl))

pub last_first : (limit taken : ℕ) (bytes rest behind : List ℕ) → IsLastPart rest → bytes ≡ rest ++ behind → First limit taken bytes (Ended (length rest))
unfolding Detail
last_first limit taken bytes rest behind h e =
    let split : bytes ≡ line_text h.line ++ (h.section ++ behind) = e ∙ ap (λ t. t ++ behind) h.rest_is ∙ append_assoc (line_text h.line) h.section behind in
    let size : length h.section ≡ length (lines_text h.lines) + 2 = ap length h.whole.text_is ∙ length-append (lines_text h.lines) crlf in
    let used : length rest ≡ length h.line + 2 + (length (lines_text h.lines) + 2) =
    ap length h.rest_is ∙ length-append (line_text h.line) h.section ∙ ap (λ n. n + length h.section) (text_length h.line) ∙ ap (λ n. length h.line + 2 + n) size in
    first_is limit taken bytes (Ended (length rest)) (LastLine (length h.line + 2)) (zero_class limit taken bytes h.line _ split h.zero)
    (subst (λ s. SectionVerdict (length h.line + 2) s (Ended (length rest))) (sym (after_line bytes h.line _ split))
    (ends h.lines
    (record {
      behind = behind;
      are = h.whole.are;
      bytes_are = ap (λ t. t ++ behind) h.whole.text_is ∙ append_assoc (lines_text h.lines) crlf behind;
      small = omega (arith, size, h.whole.small);
    })
    (ap (λ n. Ended n) used
    ∙ sym (ap (λ (b : Bool). if b then Ended (length h.line + 2 + (length (lines_text h.lines) + 2)) else Failed Bad (length h.line + 2 + (length (lines_text h.lines) + 2))) h.good))))

pub fault_first : (limit taken : ℕ) (bytes rest behind held : List ℕ) (fault : FrameFault) → taken ≤ limit → IsUnitFault limit taken rest fault held → bytes ≡ rest ++ behind
    → First limit taken bytes (Failed fault (length rest))
unfolding Detail class by_end by_size
fault_first limit taken bytes rest behind [] Bad before (long_line none size_is) e =
    let front : take line_limit bytes ≡ rest = ap (take line_limit) e ∙ ap (λ n. take n (rest ++ behind)) (sym size_is) ∙ take-append_seam rest behind in
    let size : length bytes ≡ line_limit + length behind = ap length e ∙ length-append rest behind ∙ ap (λ n. n + length behind) size_is in
    let over : nat_lt (length bytes) line_limit ≡ false = grind (arith, nat_tests) in
    first_is limit taken bytes _ TooLong
    (ap (by_end limit taken bytes) (ap line_end front ∙ none) ∙ ap (λ (b : Bool). if b then NoEnd else TooLong) over)
    (ap (Failed Bad) size_is)
fault_first limit taken bytes rest behind [] Bad before (bad_line line is ends_once short none) e =
    first_is limit taken bytes _ (NoSize (length line + 2))
    (line_class limit taken bytes line behind (e ∙ ap (λ t. t ++ behind) is) ends_once short ∙ ap (by_size limit taken (length line + 2)) none)
    (ap (Failed Bad) (ap length is ∙ text_length line))
fault_first limit taken bytes rest behind [] TooLarge before (large_chunk line size is h over) e =
    first_is limit taken bytes _ (OverLimit (length line + 2))
    (over_class limit taken bytes line behind size (e ∙ ap (λ t. t ++ behind) is) h before over)
    (ap (Failed TooLarge) (ap length is ∙ text_length line))
fault_first limit taken bytes rest behind held Bad before (bad_end line data_bytes two is h some room n other) e =
    let split : bytes ≡ line_text line ++ (data_bytes ++ (two ++ behind)) =
    e ∙ ap (λ t. t ++ behind) is ∙ append_assoc (line_text line) (data_bytes ++ two) behind ∙ ap (λ t. line_text line ++ t) (append_assoc data_bytes two behind) in
    let used : length rest ≡ length line + 2 + (length data_bytes + 2) =
    ap length is ∙ length-append (line_text line) (data_bytes ++ two) ∙ ap (λ k. k + length (data_bytes ++ two)) (text_length line)
    ∙ ap (λ k. length line + 2 + k) (length-append data_bytes two ∙ ap (λ k. length data_bytes + k) n) in
    first_is limit taken bytes _ (Bytes (length line + 2) (length data_bytes)) (bytes_class limit taken bytes line _ (length data_bytes) split h some room)
    (ap (Failed Bad) used
    ∙ sym (ap (chunk_verdict (length line + 2) (length data_bytes)) (after_line bytes line _ split) ∙ wrong_end (length line + 2) (length data_bytes) data_bytes two behind refl n other))
fault_first limit taken bytes rest behind [] Bad before (long_trailers line section is h begun_section long_section) e =
    let split : bytes ≡ line_text line ++ (section ++ behind) = e ∙ ap (λ t. t ++ behind) is ∙ append_assoc (line_text line) section behind in
    let used : length rest ≡ length line + 2 + section_limit =
    ap length is ∙ length-append (line_text line) section ∙ ap (λ k. k + length section) (text_length line) ∙ ap (λ k. length line + 2 + k) long_section in
    let size : length section ≡ length (lines_text begun_section.lines) + length begun_section.last =
    ap length begun_section.text_is ∙ length-append (lines_text begun_section.lines) begun_section.last in
    first_is limit taken bytes _ (LastLine (length line + 2)) (zero_class limit taken bytes line _ split h)
    (subst (λ s. SectionVerdict (length line + 2) s (Failed Bad (length rest))) (sym (after_line bytes line _ split))
    (long
    (record {
      lines = begun_section.lines;
      last = begun_section.last;
      behind = behind;
      are = begun_section.are;
      bytes_are = ap (λ t. t ++ behind) begun_section.text_is ∙ append_assoc (lines_text begun_section.lines) begun_section.last behind;
      no_end = begun_section.no_end;
      long = sym size ∙ long_section;
    })
    (ap (Failed Bad) used)))
fault_first limit taken bytes rest behind [] Bad before (bad_trailers line section lines is h whole bad) e =
    let split : bytes ≡ line_text line ++ (section ++ behind) = e ∙ ap (λ t. t ++ behind) is ∙ append_assoc (line_text line) section behind in
    let size : length section ≡ length (lines_text lines) + 2 = ap length whole.text_is ∙ length-append (lines_text lines) crlf in
    let used : length rest ≡ length line + 2 + (length (lines_text lines) + 2) =
    ap length is ∙ length-append (line_text line) section ∙ ap (λ k. k + length section) (text_length line) ∙ ap (λ k. length line + 2 + k) size in
    first_is limit taken bytes _ (LastLine (length line + 2)) (zero_class limit taken bytes line _ split h)
    (subst (λ s. SectionVerdict (length line + 2) s (Failed Bad (length rest))) (sym (after_line bytes line _ split))
    (ends lines
    (record {
      behind = behind;
      are = whole.are;
      bytes_are = ap (λ t. t ++ behind) whole.text_is ∙ append_assoc (lines_text lines) crlf behind;
      small = omega (arith, size, whole.small);
    })
    (ap (Failed Bad) used
    ∙ sym (ap (λ (b : Bool). if b then Ended (length line + 2 + (length (lines_text lines) + 2)) else Failed Bad (length line + 2 + (length (lines_text lines) + 2))) bad))))
fault_first limit taken bytes rest behind (byte ∷ held) TooLarge before unit e = elim unit [ ]

pub begun_first : (limit taken : ℕ) (bytes held : List ℕ) → IsBegunUnit limit taken bytes held → First limit taken bytes Waits
unfolding Detail class by_end
begun_first limit taken bytes [] (begun_line none short) =
    let front : take line_limit bytes ≡ bytes = take_all line_limit bytes (omega arith) in
    first_is limit taken bytes _ NoEnd
    (ap (by_end limit taken bytes) (ap line_end front ∙ none) ∙ ap (λ (b : Bool). if b then NoEnd else TooLong) (lt-ltb _ _ short))
    refl
begun_first limit taken bytes held (begun_chunk line come size is h some room short) =
    first_is limit taken bytes _ (Bytes (length line + 2) size) (bytes_class limit taken bytes line come size is h some room)
    (sym (ap (chunk_verdict (length line + 2) size) (after_line bytes line come is) ∙ not_all (length line + 2) size come short))
begun_first limit taken bytes [] (begun_trailers line section is h begun_section short) =
    let size : length section ≡ length (lines_text begun_section.lines) + length begun_section.last =
    ap length begun_section.text_is ∙ length-append (lines_text begun_section.lines) begun_section.last in
    first_is limit taken bytes _ (LastLine (length line + 2)) (zero_class limit taken bytes line section is h)
    (subst (λ s. SectionVerdict (length line + 2) s Waits) (sym (after_line bytes line section is))
    (begun
    (record {
      lines = begun_section.lines;
      last = begun_section.last;
      are = begun_section.are;
      bytes_are = begun_section.text_is;
      no_end = begun_section.no_end;
      short = omega (arith, size, short);
    })
    refl))
