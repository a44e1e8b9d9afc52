-- Bytes begin with a whole body or a fault of one, or are a part of a body.
use Rattle.std.proofs.Common.{◌≡◌, ℕ, suc, zero, ◌+◌, ◌<◌, ◌≤◌, Bool, true, false, List, [], ◌∷◌, ◌++◌, length, take, drop, All, Option, Some, None, bytes_eq, refl, sym, ap, subst, ◌∙◌, arith, append_assoc, length-append, length-take, length-drop, inl, inr}
use Rattle.std.proofs.lemmas.List.Elements.{All-cons, All-nil}
use Rattle.std.specs.List.{list_all}
use Rattle.std.proofs.lemmas.Bool.{cases_lt}
use Rattle.std.proofs.lemmas.List.{take-append-drop, length-take-le, take_all}
use Rattle.std.proofs.lemmas.Slice.Eq.{bytes_eq-Decides}
use Rattle.dep_body.specs.Lines.{crlf, line_text, line_end, line_size, IsLine, is_trailer_line}
use Rattle.dep_body.specs.Body.{line_limit, section_limit, IsSizeLine, Chunk, IsChunk, chunk_text, HasChunks, IsTrailer, lines_text, IsSection, IsBegunSection, IsLastPart, IsUnitFault, long_line, bad_line, large_chunk, bad_end, long_trailers, bad_trailers, IsBegunUnit, begun_line, begun_chunk, begun_trailers, IsBodyText, IsBodyFault, IsPartOfBody}
use Rattle.dep_body.specs.declared.frame.Framing.{Framing}
use Rattle.dep_body.specs.declared.frame.Framing.TheVariants.{Empty, Length, Chunked}
use Rattle.dep_body.specs.declared.frame.FrameFault.{FrameFault}
use Rattle.dep_body.specs.declared.frame.FrameFault.TheVariants.{Bad, TooLarge}
use Rattle.dep_head.proofs.MarkEnds.{end_within, ends_by}
use Rattle.dep_body.proofs.LineEnds.{end_nil, end_front}
use Rattle.dep_body.proofs.Splits.{text_length}
use Rattle.dep_body.proofs.ChunkLemmas.{chunks_none, chunks_more, chunks_join}

-- ---- the line that stands first

record FirstLine (bytes : List ℕ) (k : ℕ) : Type 0 where
  pub line : List ℕ
  pub behind : List ℕ
  pub whole : bytes ≡ line_text line ++ behind
  pub size : k ≡ length line + 2

first_line : (bytes : List ℕ) (k : ℕ) → line_end bytes ≡ Some k → FirstLine bytes k
first_line [] k e = let n = end_nil in cc
first_line (a ∷ bytes) k e =
    elim (ends_by crlf a k bytes e) [
      | inl h ↦
          let same : crlf ≡ take 2 (a ∷ bytes) = (bytes_eq-Decides crlf (take 2 (a ∷ bytes))).0 h.0 in
          record { line = []; behind = drop 2 (a ∷ bytes); whole = sym (take-append-drop 2 (a ∷ bytes)) ∙ ap (λ t. t ++ drop 2 (a ∷ bytes)) (sym same); size = h.1 }
      | inr h ↦
          let l = first_line bytes h.0 h.2 in
          record { line = a ∷ l.line; behind = l.behind; whole = ap (λ t. a ∷ t) l.whole; size = omega (arith, l.size, h.3) }
    ]

line_is : (bytes : List ℕ) (k : ℕ) → line_end bytes ≡ Some k → (l : FirstLine bytes k) → IsLine l.line
line_is bytes k e l =
    let long : length (line_text l.line) ≡ length l.line + 2 = text_length l.line in
    end_front (line_text l.line) l.behind (length l.line + 2) (ap line_end (sym l.whole) ∙ (e ∙ ap Some l.size)) (omega (arith, long))

-- ---- trailers

data Lines (bytes : List ℕ) : Type 0 where
  ended : (lines : List (List ℕ)) (behind : List ℕ) → All IsTrailer lines → bytes ≡ lines_text lines ++ (crlf ++ behind) → Lines bytes
  goes_on : IsBegunSection bytes → Lines bytes

line_before : (line behind bytes : List ℕ) → bytes ≡ line_text line ++ behind → IsTrailer line → Lines behind → Lines bytes
line_before line behind bytes whole h (ended lines after all is) =
    ended (line ∷ lines) after (All-cons IsTrailer line lines h all)
    (whole ∙ (ap (λ t. line_text line ++ t) is ∙ sym (append_assoc (line_text line) (lines_text lines) (crlf ++ after))))
line_before line behind bytes whole h (goes_on s) = goes_on (record {
  lines = line ∷ s.lines;
  last = s.last;
  are = All-cons IsTrailer line s.lines h s.are;
  text_is = whole ∙ (ap (λ t. line_text line ++ t) s.text_is ∙ sym (append_assoc (line_text line) (lines_text s.lines) s.last));
  no_end = s.no_end;
})

by_line : (n : ℕ) (line behind bytes : List ℕ) → bytes ≡ line_text line ++ behind → IsLine line → length bytes ≤ n
    → ((b : List ℕ) → length b < n → Lines b) → Lines bytes
by_line n [] behind bytes whole h l f = ended [] behind (All-nil IsTrailer) whole
by_line n (x ∷ line) behind bytes whole h l f =
    let size : length bytes ≡ length (x ∷ line) + 2 + length behind = ap length whole ∙ (length-append (line_text (x ∷ line)) behind ∙ ap (λ k. k + length behind) (text_length (x ∷ line))) in
    line_before (x ∷ line) behind bytes whole (h, omega arith) (f behind (omega (arith, size)))

by_end : (n : ℕ) (bytes : List ℕ) (o : Option ℕ) → line_end bytes ≡ o → length bytes ≤ n → ((b : List ℕ) → length b < n → Lines b) → Lines bytes
by_end n bytes None e l f = goes_on (record { lines = []; last = bytes; are = All-nil IsTrailer; text_is = refl; no_end = e })
by_end n bytes (Some k) e l f =
    let first = first_line bytes k e in
    by_line n first.line first.behind bytes first.whole (line_is bytes k e first) l f

lines_of : (n : ℕ) (bytes : List ℕ) → length bytes < n → Lines bytes
lines_of zero bytes l = absurd (omega arith)
lines_of (suc n) bytes l = by_end n bytes (line_end bytes) refl (omega arith) (λ b m. lines_of n b m)

-- ---- the unit that stands first behind chunks of so many bytes

data UnitCase (limit taken : ℕ) (rest : List ℕ) : Type 0 where
  faulty : (text behind held : List ℕ) (fault : FrameFault) → rest ≡ text ++ behind → IsUnitFault limit taken text fault held → UnitCase limit taken rest
  begun : (held : List ℕ) → IsBegunUnit limit taken rest held → UnitCase limit taken rest
  last : (text behind : List ℕ) → rest ≡ text ++ behind → IsLastPart text → UnitCase limit taken rest
  chunk : (c : Chunk) (behind : List ℕ) → rest ≡ chunk_text c ++ behind → IsChunk c → taken + length c.bytes ≤ limit → UnitCase limit taken rest

-- trailers behind the line of value 0
section_cases : (limit taken : ℕ) (rest line come : List ℕ) → rest ≡ line_text line ++ come → IsSizeLine line 0 → UnitCase limit taken rest
section_cases limit taken rest line come whole zero_line = by_lines (lines_of (suc (length front)) front (omega arith))
  where
    front : List ℕ
    front = take section_limit come

    behind : List ℕ
    behind = drop section_limit come

    split : come ≡ take section_limit come ++ drop section_limit come
    split = sym (take-append-drop section_limit come)

    by_good : (lines : List (List ℕ)) (after section : List ℕ) → come ≡ section ++ after → IsSection section lines → (good : Bool)
        → list_all is_trailer_line lines ≡ good → UnitCase limit taken rest
    by_good lines after section is s true good =
        last (line_text line ++ section) after (whole ∙ (ap (λ t. line_text line ++ t) is ∙ sym (append_assoc (line_text line) section after)))
        (record { line = line; section = section; lines = lines; rest_is = refl; zero = zero_line; whole = s; good = good })
    by_good lines after section is s false bad =
        faulty (line_text line ++ section) after [] Bad (whole ∙ (ap (λ t. line_text line ++ t) is ∙ sym (append_assoc (line_text line) section after)))
        (bad_trailers line section lines refl zero_line s bad)

    by_lines : Lines (take section_limit come) → UnitCase limit taken rest
    by_lines (ended lines after all is) =
        let section : List ℕ = lines_text lines ++ crlf in
        let front_is : take section_limit come ≡ section ++ after = is ∙ sym (append_assoc (lines_text lines) crlf after) in
        let small : length (take section_limit come) ≤ section_limit = omega (arith, length-take section_limit come) in
        let size : length (take section_limit come) ≡ length section + length after = ap length front_is ∙ length-append section after in
        by_good lines (after ++ drop section_limit come) section
        (split ∙ (ap (λ t. t ++ drop section_limit come) front_is ∙ append_assoc section after (drop section_limit come)))
        (record { are = all; text_is = refl; small = omega (arith, small, size) })
        (list_all is_trailer_line lines) refl
    by_lines (goes_on s) = elim (cases_lt (length come) section_limit) [
      | inl short ↦ (
          let all : take section_limit come ≡ come = take_all section_limit come (omega arith) in
          begun [] (begun_trailers line come whole zero_line (subst (λ (t : List ℕ). IsBegunSection t) all s) short)
          )
      | inr long ↦ faulty (line_text line ++ take section_limit come) (drop section_limit come) [] Bad
          (whole ∙ (ap (λ t. line_text line ++ t) split ∙ sym (append_assoc (line_text line) (take section_limit come) (drop section_limit come))))
          (long_trailers line (take section_limit come) refl zero_line s (length-take-le section_limit come long))
    ]

-- the bytes of a chunk, and what ends them
by_two : (limit taken : ℕ) (rest line bytes two behind : List ℕ) → rest ≡ line_text line ++ (bytes ++ (two ++ behind))
    → IsSizeLine line (length bytes) → 0 < length bytes → taken + length bytes ≤ limit → length two ≡ 2 → (t : Bool) → bytes_eq two crlf ≡ t
    → UnitCase limit taken rest
by_two limit taken rest line bytes two behind whole is some room long true e =
    let same : two ≡ crlf = (bytes_eq-Decides two crlf).0 e in
    chunk (record { line = line; bytes = bytes }) behind
    (whole ∙ (ap (λ t. line_text line ++ (bytes ++ (t ++ behind))) same
    ∙ (ap (λ t. line_text line ++ t) (sym (append_assoc bytes crlf behind)) ∙ sym (append_assoc (line_text line) (bytes ++ crlf) behind))))
    (record { size = is; some = some }) room
by_two limit taken rest line bytes two behind whole is some room long false e =
    faulty (line_text line ++ (bytes ++ two)) behind bytes Bad
    (whole ∙ (ap (λ t. line_text line ++ t) (sym (append_assoc bytes two behind)) ∙ sym (append_assoc (line_text line) (bytes ++ two) behind)))
    (bad_end line bytes two refl is some room long (λ same. let t : bytes_eq two crlf ≡ true = (bytes_eq-Decides two crlf).1 same in cc))

chunk_cases : (limit taken : ℕ) (rest line come : List ℕ) (size : ℕ) → rest ≡ line_text line ++ come → IsSizeLine line size → 0 < size → taken + size ≤ limit
    → UnitCase limit taken rest
chunk_cases limit taken rest line come size whole is some room = elim (cases_lt (length come) (size + 2)) [
  | inl short ↦ begun (take size come) (begun_chunk line come size whole is some room short)
  | inr long ↦ (
      let bytes : List ℕ = take size come in
      let two : List ℕ = take 2 (drop size come) in
      let count : length bytes ≡ size = length-take-le size come (omega arith) in
      let parts : come ≡ bytes ++ (two ++ drop 2 (drop size come)) =
      sym (take-append-drop size come) ∙ ap (λ t. take size come ++ t) (sym (take-append-drop 2 (drop size come))) in
      let left : 2 ≤ length (drop size come) = omega (arith, length-drop size come) in
      by_two limit taken rest line bytes two (drop 2 (drop size come)) (whole ∙ ap (λ t. line_text line ++ t) parts)
      (subst (λ n. IsSizeLine line n) (sym count) is) (omega (arith, count)) (omega (arith, count)) (length-take-le 2 (drop size come) left)
      (bytes_eq two crlf) refl
      )
]

sized_cases : (limit taken : ℕ) (rest line come : List ℕ) (size : ℕ) → rest ≡ line_text line ++ come → IsSizeLine line size → UnitCase limit taken rest
sized_cases limit taken rest line come zero whole is = section_cases limit taken rest line come whole is
sized_cases limit taken rest line come (suc n) whole is = elim (cases_lt limit (taken + suc n)) [
  | inl large ↦ faulty (line_text line) come [] TooLarge whole (large_chunk line (suc n) refl is large)
  | inr room ↦ chunk_cases limit taken rest line come (suc n) whole is (omega arith) room
]

said_cases : (limit taken : ℕ) (rest line come : List ℕ) → rest ≡ line_text line ++ come → IsLine line → length line + 2 ≤ line_limit
    → (o : Option ℕ) → line_size line ≡ o → UnitCase limit taken rest
said_cases limit taken rest line come whole is short None e = faulty (line_text line) come [] Bad whole (bad_line line refl is short e)
said_cases limit taken rest line come whole is short (Some n) e = sized_cases limit taken rest line come n whole (record { ends = is; short = short; says = e })

line_cases : (limit taken : ℕ) (rest : List ℕ) (o : Option ℕ) → line_end (take line_limit rest) ≡ o → UnitCase limit taken rest
line_cases limit taken rest None e = elim (cases_lt (length rest) line_limit) [
  | inl short ↦ begun [] (begun_line (subst (λ (t : List ℕ). line_end t ≡ None) (take_all line_limit rest (omega arith)) e) short)
  | inr long ↦ faulty (take line_limit rest) (drop line_limit rest) [] Bad (sym (take-append-drop line_limit rest)) (long_line e (length-take-le line_limit rest long))
]
line_cases limit taken rest (Some k) e =
    let front : List ℕ = take line_limit rest in
    let first = first_line front k e in
    let within : k ≤ length front = (end_within crlf front k e).1 in
    let whole : rest ≡ line_text first.line ++ (first.behind ++ drop line_limit rest) =
    sym (take-append-drop line_limit rest) ∙ (ap (λ t. t ++ drop line_limit rest) first.whole ∙ append_assoc (line_text first.line) first.behind (drop line_limit rest)) in
    said_cases limit taken rest first.line (first.behind ++ drop line_limit rest) whole (line_is front k e first)
    (omega (arith, first.size, within, length-take line_limit rest)) (line_size first.line) refl

unit_cases : (limit taken : ℕ) (rest : List ℕ) → UnitCase limit taken rest
unit_cases limit taken rest = line_cases limit taken rest (line_end (take line_limit rest)) refl

-- ---- the body

pub data BodyCase (limit : ℕ) (frame : Framing) (bytes : List ℕ) : Type 0 where
  is_whole : (text behind content : List ℕ) → bytes ≡ text ++ behind → IsBodyText limit frame text content → BodyCase limit frame bytes
  is_faulty : (text behind : List ℕ) (fault : FrameFault) → bytes ≡ text ++ behind → IsBodyFault limit frame text fault → BodyCase limit frame bytes
  is_part : IsPartOfBody limit frame bytes → BodyCase limit frame bytes

module _ (limit : ℕ) (bytes done content rest : List ℕ) (whole : bytes ≡ done ++ rest) (chunks : HasChunks limit done content []) where
  -- behind chunks, by the unit that stands first
  by_unit : (n : ℕ) → length rest ≤ n → UnitCase limit (length content) rest
      → ((more held left : List ℕ) → bytes ≡ more ++ left → HasChunks limit more held [] → length left < n → BodyCase limit Chunked bytes)
      → BodyCase limit Chunked bytes
  by_unit n l (faulty text behind held fault is unit) go =
      is_faulty (done ++ text) behind fault (whole ∙ (ap (λ t. done ++ t) is ∙ sym (append_assoc done text behind)))
      (content ++ held, record { before = content; rest = text; held = held; chunks = chunks_more limit done content [] text chunks; unit = unit; content_is = refl })
  by_unit n l (begun held unit) go =
      is_part (content ++ held, record { before = content; rest = rest; held = held; chunks = subst (λ (t : List ℕ). HasChunks limit t content rest) (sym whole) (chunks_more limit done content [] rest chunks); unit = unit; content_is = refl })
  by_unit n l (last text behind is part) go =
      is_whole (done ++ text) behind content (whole ∙ (ap (λ t. done ++ t) is ∙ sym (append_assoc done text behind)))
      (record { rest = text; chunks = chunks_more limit done content [] text chunks; last = part })
  by_unit n l (chunk c behind is good room) go =
      let size : length rest ≡ length (chunk_text c) + length behind = ap length is ∙ length-append (chunk_text c) behind in
      let some : length (chunk_text c) ≡ length c.line + 2 + length (c.bytes ++ crlf) = length-append (line_text c.line) (c.bytes ++ crlf) ∙ ap (λ k. k + length (c.bytes ++ crlf)) (text_length c.line) in
      go (done ++ chunk_text c) (content ++ c.bytes) behind (whole ∙ (ap (λ t. done ++ t) is ∙ sym (append_assoc done (chunk_text c) behind)))
      (chunks_join limit (done ++ chunk_text c) content c.line c.bytes (chunks_more limit done content [] (chunk_text c) chunks) good.size good.some room)
      (omega (arith, size, some))

chunked_cases : (n limit : ℕ) (bytes done content rest : List ℕ) → bytes ≡ done ++ rest → HasChunks limit done content [] → length rest < n → BodyCase limit Chunked bytes
chunked_cases zero limit bytes done content rest whole chunks l = absurd (omega arith)
chunked_cases (suc n) limit bytes done content rest whole chunks l =
    by_unit limit bytes done content rest whole chunks n (omega arith) (unit_cases limit (length content) rest)
    (λ more held left w c m. chunked_cases n limit bytes more held left w c m)

pub body_cases : (limit : ℕ) (frame : Framing) (bytes : List ℕ) → BodyCase limit frame bytes
body_cases limit Empty bytes = is_whole [] bytes [] refl (refl, refl)
body_cases limit (Length n) bytes = elim (cases_lt (length bytes) n) [
  | inl short ↦ is_part short
  | inr long ↦ is_whole (take n bytes) (drop n bytes) (take n bytes) (sym (take-append-drop n bytes)) (length-take-le n bytes long, refl)
]
body_cases limit Chunked bytes = chunked_cases (suc (length bytes)) limit bytes [] [] bytes refl (chunks_none limit) (omega arith)
