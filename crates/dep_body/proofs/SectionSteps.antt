-- One byte more of the trailers.
use Rattle.std.proofs.Common.{◌≡◌, ℕ, ◌+◌, ◌<◌, ◌==◌, ◌&&◌, Bool, true, false, List, [], ◌∷◌, ◌++◌, length, Some, refl, sym, ap, subst, ◌∙◌, arith, append_assoc, append-nil, length-append}
use Rattle.std.specs.List.{list_all}
use Rattle.std.proofs.lemmas.Grind.{flat_map-append}
use Rattle.std.proofs.lemmas.List.Elements.{All-append, All-cons, All-nil}
use Rattle.std.proofs.lemmas.List.Folds.{list_all-append}
use Rattle.dep_body.specs.Lines.{crlf, line_text, is_trailer_line}
use Rattle.dep_body.specs.Body.{IsSizeLine, HasChunks, IsTrailer, lines_text, IsSection, IsChunkedBody, IsChunkedFault, long_trailers, bad_trailers, section_limit}
use Rattle.dep_body.specs.Reading.{trailer_after, trailer_reading, next_trailer, ReportsTrailer}
use Rattle.dep_body.specs.Standing.{IsBegunLine, IsInTrailers, IsBehindLines, IsSizedLine}
use Rattle.dep_body.specs.declared.frame.FrameFault.TheVariants.{Bad}
use Rattle.dep_body.specs.declared.trailers.Trailers.{Trailers}
use Rattle.dep_body.specs.declared.trailers.TrailerReading as T
use Rattle.dep_body.specs.declared.trailers.TrailerReading.TheVariants as V
use Rattle.dep_body.proofs.LineEnds.{end_nil}
use Rattle.dep_body.proofs.BegunLines.{begun_none, begun_line, begun_text, reading_more}
use Rattle.dep_body.proofs.ChunkLemmas.{chunks_more, chunks_rest}
use Rattle.dep_body.proofs.Readings.{trailer_reported}
use Rattle.dep_body.proofs.SizeSteps.{begun_next, next_line, not_both, capped_some}

reading_next : (bytes line : List ℕ) (cr : Bool) (b : ℕ) → IsBegunLine bytes line cr
    → next_trailer (trailer_reading line) cr b ≡ trailer_reading (next_line bytes b)
unfolding next_line
reading_next bytes line cr b h = reading_more trailer_after V.Empty bytes line cr b h.bytes_are

-- the bytes with one more
with_byte : (limit : ℕ) (content text : List ℕ) (state : Trailers) (b : ℕ) → (h : IsInTrailers limit content state text)
    → HasChunks limit (text ++ b ∷ []) content (line_text h.size_line ++ (lines_text h.lines ++ (h.rest ++ b ∷ [])))
with_byte limit content text state b h =
    chunks_rest limit _ content _ _
    (append_assoc (line_text h.size_line) (lines_text h.lines ++ h.rest) (b ∷ [])
    ∙ ap (λ t. line_text h.size_line ++ t) (append_assoc (lines_text h.lines) h.rest (b ∷ [])))
    (chunks_more limit text content _ (b ∷ []) h.chunks)

one_longer : (limit : ℕ) (content text : List ℕ) (state : Trailers) (b : ℕ) → (h : IsInTrailers limit content state text)
    → length (lines_text h.lines ++ (h.rest ++ b ∷ [])) ≡ state.length + 1
one_longer limit content text state b h =
    let before : state.length ≡ length (lines_text h.lines) + length h.rest = h.length_is ∙ length-append (lines_text h.lines) h.rest in
    let all = length-append (lines_text h.lines) (h.rest ++ b ∷ []) in
    let last : length (h.rest ++ b ∷ []) ≡ length h.rest + 1 = length-append h.rest (b ∷ []) in
    omega (arith, before, all, last)

pub section_goes : (limit : ℕ) (content text : List ℕ) (state next : Trailers) (b : ℕ) → IsInTrailers limit content state text
    → (state.after_cr && b == 10) ≡ false → state.length + 1 < section_limit → next.length ≡ state.length + 1 → next.good ≡ state.good
    → next.after_cr ≡ (b == 13) → next.reading ≡ next_trailer state.reading state.after_cr b → IsInTrailers limit content next (text ++ b ∷ [])
section_goes limit content text state next b h other short length_is good_is cr_is reading_is = record {
  size_line = h.size_line;
  lines = h.lines;
  rest = h.rest ++ b ∷ [];
  line = next_line h.rest b;
  chunks = with_byte limit content text state b h;
  zero = h.zero;
  are = h.are;
  good_is = good_is ∙ h.good_is;
  begun = subst (IsBegunLine (h.rest ++ b ∷ []) (next_line h.rest b)) (sym cr_is) (begun_next h.rest h.line state.after_cr b h.begun (not_both state.after_cr b other));
  length_is = length_is ∙ sym (one_longer limit content text state b h);
  short = omega (arith, one_longer limit content text state b h, short);
  reading_is = reading_is ∙ ap (λ r. next_trailer r state.after_cr b) h.reading_is ∙ reading_next h.rest h.line state.after_cr b h.begun;
}

pub section_long : (limit : ℕ) (content text : List ℕ) (state : Trailers) (b : ℕ) → IsInTrailers limit content state text
    → (state.after_cr && b == 10) ≡ false → state.length + 1 ≡ section_limit → IsChunkedFault limit (text ++ b ∷ []) Bad content
section_long limit content text state b h other long = record {
  before = content;
  rest = line_text h.size_line ++ (lines_text h.lines ++ (h.rest ++ b ∷ []));
  held = [];
  chunks = with_byte limit content text state b h;
  unit =
      long_trailers h.size_line (lines_text h.lines ++ (h.rest ++ b ∷ [])) refl h.zero
      (record {
        lines = h.lines;
        last = h.rest ++ b ∷ [];
        are = h.are;
        text_is = refl;
        no_end = (begun_next h.rest h.line state.after_cr b h.begun (not_both state.after_cr b other)).no_end;
      })
      (one_longer limit content text state b h ∙ long);
  content_is = sym (append-nil content);
}

-- the bytes with the LF that ends the last line
ended : (limit : ℕ) (content text : List ℕ) (state : Trailers) → (h : IsInTrailers limit content state text) → state.after_cr ≡ true
    → HasChunks limit (text ++ 10 ∷ []) content (line_text h.size_line ++ (lines_text h.lines ++ line_text h.line))
ended limit content text state h cr =
    chunks_rest limit _ content _ _
    (ap (λ t. line_text h.size_line ++ (lines_text h.lines ++ t)) (begun_text h.rest h.line (subst (IsBegunLine h.rest h.line) cr h.begun)))
    (with_byte limit content text state 10 h)

ended_length : (limit : ℕ) (content text : List ℕ) (state : Trailers) → (h : IsInTrailers limit content state text) → state.after_cr ≡ true
    → length (lines_text h.lines ++ line_text h.line) ≡ state.length + 1
ended_length limit content text state h cr =
    ap (λ t. length (lines_text h.lines ++ t)) (sym (begun_text h.rest h.line (subst (IsBegunLine h.rest h.line) cr h.begun)))
    ∙ one_longer limit content text state 10 h

reported : (limit : ℕ) (content text : List ℕ) (state : Trailers) (r : T.TrailerReading) → (h : IsInTrailers limit content state text)
    → state.reading ≡ r → ReportsTrailer r h.line
reported limit content text state r h e = subst (λ q. ReportsTrailer q h.line) (sym h.reading_is ∙ e) (trailer_reported h.line)

whole : (limit : ℕ) (content text : List ℕ) (state : Trailers) → (h : IsInTrailers limit content state text) → state.after_cr ≡ true
    → h.line ≡ [] → IsSection (lines_text h.lines ++ crlf) h.lines
whole limit content text state h cr none = record {
  are = h.are;
  text_is = refl;
  small =
      let e : length (lines_text h.lines ++ crlf) ≡ state.length + 1 =
      ap (λ l. length (lines_text h.lines ++ line_text l)) (sym none) ∙ ended_length limit content text state h cr in
      omega (arith, e, h.short, h.length_is);
}

last_text : (limit : ℕ) (content text : List ℕ) (state : Trailers) → (h : IsInTrailers limit content state text) → state.after_cr ≡ true
    → h.line ≡ [] → HasChunks limit (text ++ 10 ∷ []) content (line_text h.size_line ++ (lines_text h.lines ++ crlf))
last_text limit content text state h cr none =
    chunks_rest limit _ content _ _ (ap (λ l. line_text h.size_line ++ (lines_text h.lines ++ line_text l)) none) (ended limit content text state h cr)

pub section_done : (limit : ℕ) (content text : List ℕ) (state : Trailers) → IsInTrailers limit content state text → state.after_cr ≡ true
    → state.reading ≡ V.Empty → state.good ≡ true → IsChunkedBody limit (text ++ 10 ∷ []) content
section_done limit content text state h cr empty good =
    let none = (reported limit content text state V.Empty h empty).0 in
    record {
      rest = line_text h.size_line ++ (lines_text h.lines ++ crlf);
      chunks = last_text limit content text state h cr none;
      last = record {
        line = h.size_line;
        section = lines_text h.lines ++ crlf;
        lines = h.lines;
        rest_is = refl;
        zero = h.zero;
        whole = whole limit content text state h cr none;
        good = sym h.good_is ∙ good;
      };
    }

pub section_bad : (limit : ℕ) (content text : List ℕ) (state : Trailers) → IsInTrailers limit content state text → state.after_cr ≡ true
    → state.reading ≡ V.Empty → state.good ≡ false → IsChunkedFault limit (text ++ 10 ∷ []) Bad content
section_bad limit content text state h cr empty bad =
    let none = (reported limit content text state V.Empty h empty).0 in
    record {
      before = content;
      rest = line_text h.size_line ++ (lines_text h.lines ++ crlf);
      held = [];
      chunks = last_text limit content text state h cr none;
      unit = bad_trailers h.size_line (lines_text h.lines ++ crlf) h.lines refl h.zero (whole limit content text state h cr none) (sym h.good_is ∙ bad);
      content_is = sym (append-nil content);
    }

and_true : (a : Bool) → (a && true) ≡ a
and_true true = refl
and_true false = refl

-- a line that isn't empty joins the lines
pub line_joins : (limit : ℕ) (content text : List ℕ) (state : Trailers) (good : Bool) → (h : IsInTrailers limit content state text) → state.after_cr ≡ true
    → 0 < length h.line → good ≡ (state.good && is_trailer_line h.line) → IsBehindLines limit content (state.length + 1) good (text ++ 10 ∷ [])
line_joins limit content text state good h cr some good_is =
    let begun = subst (IsBegunLine h.rest h.line) cr h.begun in
    let joined : lines_text h.lines ++ line_text h.line ≡ lines_text (h.lines ++ h.line ∷ []) =
    ap (λ t. lines_text h.lines ++ t) (sym (append-nil (line_text h.line))) ∙ sym (flat_map-append line_text h.lines (h.line ∷ [])) in
    record {
      size_line = h.size_line;
      lines = h.lines ++ h.line ∷ [];
      chunks = chunks_rest limit _ content _ _ (ap (λ t. line_text h.size_line ++ t) joined) (ended limit content text state h cr);
      zero = h.zero;
      are = All-append IsTrailer h.lines (h.line ∷ []) h.are (All-cons IsTrailer h.line [] (begun_line h.rest h.line begun, some) (All-nil IsTrailer));
      good_is =
          good_is ∙ ap (λ b. b && is_trailer_line h.line) h.good_is
          ∙ ap (λ b. list_all is_trailer_line h.lines && b) (sym (and_true (is_trailer_line h.line)))
          ∙ sym (list_all-append is_trailer_line h.lines (h.line ∷ []));
      size_is = sym (ended_length limit content text state h cr) ∙ ap length joined;
    }

pub value_joins : (limit : ℕ) (content text : List ℕ) (state : Trailers) → IsInTrailers limit content state text → state.after_cr ≡ true
    → state.reading ≡ V.Value → IsBehindLines limit content (state.length + 1) state.good (text ++ 10 ∷ [])
value_joins limit content text state h cr value =
    let t = reported limit content text state V.Value h value in
    line_joins limit content text state state.good h cr t.0 (sym (and_true state.good) ∙ ap (λ b. state.good && b) (sym t.1))

and_false : (a : Bool) → (a && false) ≡ false
and_false true = refl
and_false false = refl

pub name_joins : (limit : ℕ) (content text : List ℕ) (state : Trailers) → IsInTrailers limit content state text → state.after_cr ≡ true
    → state.reading ≡ V.Name → IsBehindLines limit content (state.length + 1) false (text ++ 10 ∷ [])
name_joins limit content text state h cr name =
    let t = reported limit content text state V.Name h name in
    line_joins limit content text state false h cr t.0 (sym (and_false state.good) ∙ ap (λ b. state.good && b) (sym t.1))

pub broken_joins : (limit : ℕ) (content text : List ℕ) (state : Trailers) → IsInTrailers limit content state text → state.after_cr ≡ true
    → state.reading ≡ V.Broken → IsBehindLines limit content (state.length + 1) false (text ++ 10 ∷ [])
broken_joins limit content text state h cr broken =
    let t = reported limit content text state V.Broken h broken in
    line_joins limit content text state false h cr t.0 (sym (and_false state.good) ∙ ap (λ b. state.good && b) (sym t.1))

pub lines_long : (limit : ℕ) (content text : List ℕ) (size : ℕ) (good : Bool) → IsBehindLines limit content size good text → size ≡ section_limit
    → IsChunkedFault limit text Bad content
lines_long limit content text size good h long = record {
  before = content;
  rest = line_text h.size_line ++ lines_text h.lines;
  held = [];
  chunks = h.chunks;
  unit =
      long_trailers h.size_line (lines_text h.lines) refl h.zero
      (record { lines = h.lines; last = []; are = h.are; text_is = sym (append-nil (lines_text h.lines)); no_end = end_nil })
      (sym h.size_is ∙ long);
  content_is = sym (append-nil content);
}

pub lines_go : (limit : ℕ) (content text : List ℕ) (size : ℕ) (good : Bool) (next : Trailers) → IsBehindLines limit content size good text → size < section_limit
    → next.length ≡ size → next.good ≡ good → next.after_cr ≡ false → next.reading ≡ V.Empty → IsInTrailers limit content next text
lines_go limit content text size good next h short length_is good_is cr_is reading_is =
    let none : lines_text h.lines ≡ lines_text h.lines ++ [] = sym (append-nil (lines_text h.lines)) in
    record {
      size_line = h.size_line;
      lines = h.lines;
      rest = [];
      line = [];
      chunks = chunks_rest limit text content _ _ (ap (λ t. line_text h.size_line ++ t) none) h.chunks;
      zero = h.zero;
      are = h.are;
      good_is = good_is ∙ h.good_is;
      begun = subst (IsBegunLine [] []) (sym cr_is) begun_none;
      length_is = length_is ∙ h.size_is ∙ ap length none;
      short = omega (arith, ap length none, h.size_is, short);
      reading_is = reading_is;
    }

-- behind a chunk line of value 0 no trailer line has come
pub sized_zero : (limit : ℕ) (content text : List ℕ) (size : ℕ) (next : Trailers) → IsSizedLine limit content size (Some 0) text
    → next.length ≡ 0 → next.good ≡ true → next.after_cr ≡ false → next.reading ≡ V.Empty → IsInTrailers limit content next text
sized_zero limit content text size next h length_is good_is cr_is reading_is =
    lines_go limit content text 0 true next
    (record {
      size_line = h.line;
      lines = [];
      chunks = chunks_rest limit text content _ _ (sym (append-nil (line_text h.line))) h.chunks;
      zero = subst (IsSizeLine h.line) (sym (capped_some limit size 0 h.value_is)) h.size_line;
      are = λ k d below. absurd (omega arith);
      good_is = refl;
      size_is = refl;
    })
    (omega arith) length_is good_is cr_is reading_is
