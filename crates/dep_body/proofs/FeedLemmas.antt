-- What a reader was fed, and what its answer says.
use Rattle.std.proofs.Common.{◌≡◌, ℕ, ◌+◌, ◌-◌, ◌<◌, ◌≤◌, true, false, List, [], ◌++◌, length, take, drop, Option, Some, None, refl, sym, ap, subst, ◌∙◌, arith, append_assoc, append-nil, length-append, length-take, length-drop, take_all, inl, inr}
use Rattle.std.specs.Option.{option_to_list}
use Rattle.std.proofs.lemmas.Bool.{cases_Bool}
use Rattle.std.proofs.lemmas.List.{take-append-drop, take-append-le, length-take-le}
use Rattle.std.proofs.Math.Seq.{take-append_seam, take-append-add, drop-length}
use Rattle.dep_body.specs.Lines.{line_text}
use Rattle.dep_body.specs.Body.{IsChunkedPart, begun_line, begun_chunk, begun_trailers, lines_text}
use Rattle.dep_body.specs.Standing.{StandsAt, is_settled, IsInLine, IsInData, IsBehindData, IsInTrailers}
use Rattle.dep_body.specs.ReaderValue.{ReaderValue}
use Rattle.dep_body.specs.Feeding.{HasFed, HasChunkByte, ReportsFed, answer_of}
use Rattle.dep_body.specs.declared.left.DataLeft.{DataLeft}
use Rattle.dep_body.specs.declared.size.SizeLine.{SizeLine}
use Rattle.dep_body.specs.declared.trailers.Trailers.{Trailers}
use Rattle.dep_body.specs.declared.stage.Stage.{Stage}
use Rattle.dep_body.specs.declared.stage.Stage.TheVariants.{Line, Data, ChunkEnd, Section, Done, Bad, TooLarge}

line_part : (limit : ℕ) (content text : List ℕ) (state : SizeLine) → IsInLine limit content state text → IsChunkedPart limit text content
line_part limit content text state h = record {
  before = content;
  rest = h.rest;
  held = [];
  chunks = h.chunks;
  unit = begun_line h.begun.no_end h.short;
  content_is = sym (append-nil content);
}

data_part : (limit : ℕ) (content text : List ℕ) (left : ℕ) → IsInData limit content left text → IsChunkedPart limit text content
data_part limit content text left h =
    let all : take (length h.bytes + left) h.bytes ≡ h.bytes = take_all _ _ (omega arith) in
    record {
      before = h.before;
      rest = line_text h.line ++ h.bytes;
      held = take (length h.bytes + left) h.bytes;
      chunks = h.chunks;
      unit = begun_chunk h.line h.bytes (length h.bytes + left) refl h.size (omega (arith, h.some)) h.room (omega arith);
      content_is = h.content_is ∙ ap (λ t. h.before ++ t) (sym all);
    }

at_most_one : (byte : Option ℕ) → length (option_to_list byte) ≤ 1
at_most_one None = omega arith
at_most_one (Some b) = omega arith

end_part : (limit : ℕ) (content text : List ℕ) (byte : Option ℕ) → IsBehindData limit content byte text → IsChunkedPart limit text content
end_part limit content text byte h = record {
  before = h.before;
  rest = line_text h.line ++ (h.bytes ++ option_to_list byte);
  held = take (length h.bytes) (h.bytes ++ option_to_list byte);
  chunks = h.chunks;
  unit =
      begun_chunk h.line (h.bytes ++ option_to_list byte) (length h.bytes) refl h.size h.some h.room
      (omega (arith, length-append h.bytes (option_to_list byte), at_most_one byte));
  content_is = h.content_is ∙ ap (λ t. h.before ++ t) (sym (take-append_seam h.bytes (option_to_list byte)));
}

section_part : (limit : ℕ) (content text : List ℕ) (state : Trailers) → IsInTrailers limit content state text → IsChunkedPart limit text content
section_part limit content text state h = record {
  before = content;
  rest = line_text h.size_line ++ (lines_text h.lines ++ h.rest);
  held = [];
  chunks = h.chunks;
  unit =
      begun_trailers h.size_line (lines_text h.lines ++ h.rest) refl h.zero
      (record { lines = h.lines; last = h.rest; are = h.are; text_is = refl; no_end = h.begun.no_end }) h.short;
  content_is = sym (append-nil content);
}

-- where a stage and a piece lead
pub record FeedsTo (reader : ReaderValue) (fed piece : List ℕ) (used : ℕ) : Type 0 where
  pub text : List ℕ
  pub behind : List ℕ
  pub stream_is : fed ++ piece ≡ text ++ behind
  pub stands : StandsAt reader.limit reader.content reader.stage text
  pub all : is_settled reader.stage ≡ false → behind ≡ []
  pub used_is : used ≡ length text - length fed

-- what isn't settled has used all
pub all_used : (reader : ReaderValue) (fed : List ℕ) (h : HasFed reader fed) → is_settled reader.stage ≡ false → fed ≡ h.text
all_used reader fed h f = h.fed_is ∙ ap (λ s. h.text ++ s) (h.all f) ∙ append-nil h.text

pub feeds : (old new : ReaderValue) (fed piece : List ℕ) (used : ℕ) → HasFed old fed
    → ((text : List ℕ) → StandsAt old.limit old.content old.stage text → StandsAt new.limit new.content new.stage (text ++ take used piece))
    → used ≤ length piece → (is_settled new.stage ≡ false → used ≡ length piece)
    → (is_settled old.stage ≡ true → (used ≡ 0) × (new.stage ≡ old.stage)) → FeedsTo new fed piece used
feeds old new fed piece used h goes within all settled =
    elim (cases_Bool (is_settled old.stage)) [
      | inl t ↦
          let none = (settled t).0 in
          let nothing : take used piece ≡ [] = ap (λ n. take n piece) none in
          record {
            text = h.text;
            behind = h.behind ++ piece;
            stream_is = ap (λ s. s ++ piece) h.fed_is ∙ append_assoc h.text h.behind piece;
            stands = subst (λ s. StandsAt new.limit new.content new.stage s) (ap (λ s. h.text ++ s) nothing ∙ append-nil h.text) (goes h.text h.stands);
            all = λ f. absurd (let same : true ≡ false = sym t ∙ ap is_settled (sym (settled t).1) ∙ f in cc);
            used_is = let long : length fed ≡ length h.text + length h.behind = ap length h.fed_is ∙ length-append h.text h.behind in omega arith;
          }
      | inr f ↦
          let whole = all_used old fed h f in
          record {
            text = h.text ++ take used piece;
            behind = drop used piece;
            stream_is =
                ap (λ s. s ++ piece) whole ∙ ap (λ s. h.text ++ s) (sym (take-append-drop used piece)) ∙ sym (append_assoc h.text (take used piece) (drop used piece));
            stands = goes h.text h.stands;
            all = λ goes_on. ap (λ n. drop n piece) (all goes_on) ∙ drop-length piece;
            used_is =
                let long = length-append h.text (take used piece) in
                let part : length (take used piece) ≡ used = length-take-le used piece within in
                omega (arith, long, part, ap length whole);
          }
    ]

pub feeds_fed : (new : ReaderValue) (fed piece : List ℕ) (used : ℕ) → FeedsTo new fed piece used → HasFed new (fed ++ piece)
feeds_fed new fed piece used h = record { text = h.text; behind = h.behind; fed_is = h.stream_is; stands = h.stands; all = h.all }

whole_stream : (fed piece text behind : List ℕ) → fed ++ piece ≡ text ++ behind → behind ≡ [] → text ≡ fed ++ piece
whole_stream fed piece text behind e none = sym (e ∙ ap (λ s. text ++ s) none ∙ append-nil text)

pub reports : (limit : ℕ) (content fed piece : List ℕ) (stage : Stage) (used : ℕ)
    → FeedsTo (record { limit = limit; content = content; stage = stage }) fed piece used
    → ReportsFed (record { limit = limit; content = content; stage = stage }) fed piece (answer_of stage used)
reports limit content fed piece (Line state) used h = subst (λ s. IsChunkedPart limit s content) (whole_stream fed piece h.text h.behind h.stream_is (h.all refl)) (line_part limit content h.text state h.stands)
reports limit content fed piece (Data left) used h = subst (λ s. IsChunkedPart limit s content) (whole_stream fed piece h.text h.behind h.stream_is (h.all refl)) (data_part limit content h.text left.bytes h.stands)
reports limit content fed piece (ChunkEnd byte) used h = subst (λ s. IsChunkedPart limit s content) (whole_stream fed piece h.text h.behind h.stream_is (h.all refl)) (end_part limit content h.text byte h.stands)
reports limit content fed piece (Section state) used h = subst (λ s. IsChunkedPart limit s content) (whole_stream fed piece h.text h.behind h.stream_is (h.all refl)) (section_part limit content h.text state h.stands)
reports limit content fed piece Done used h = record { text = h.text; behind = h.behind; stream_is = h.stream_is; body = h.stands; used_is = h.used_is }
reports limit content fed piece Bad used h = record { text = h.text; behind = h.behind; stream_is = h.stream_is; shown = h.stands }
reports limit content fed piece TooLarge used h = record { text = h.text; behind = h.behind; stream_is = h.stream_is; shown = h.stands }

-- a front, and a prefix of what follows it
pub take_further : (text piece : List ℕ) (used count : ℕ) → used ≤ length piece
    → (text ++ take used piece) ++ take count (drop used piece) ≡ text ++ take (used + count) piece
take_further text piece used count within =
    let long : length (take used piece) ≡ used = length-take-le used piece within in
    let seam : take (used + count) piece ≡ take used piece ++ take count (drop used piece) =
    ap (take (used + count)) (sym (take-append-drop used piece))
    ∙ ap (λ n. take (n + count) (take used piece ++ drop used piece)) (sym long)
    ∙ take-append-add (take used piece) (drop used piece) count in
    append_assoc text (take used piece) (take count (drop used piece)) ∙ ap (λ s. text ++ s) (sym seam)

-- what a list begins with, it begins with still when more is added behind it
pub kept_further : (first mid last : List ℕ) → take (length first) mid ≡ first → take (length mid) last ≡ mid → take (length first) last ≡ first
kept_further first mid last h k =
    let short : length first ≤ length mid = let e : length (take (length first) mid) ≡ length first = ap length h in omega (arith, simp length-take at e) in
    let front : take (length first) (take (length mid) last ++ drop (length mid) last) ≡ take (length first) (take (length mid) last) =
    take-append-le _ _ _ (let e : length (take (length mid) last) ≡ length mid = ap length k in omega (arith, e, short)) in
    ap (take (length first)) (sym (take-append-drop (length mid) last)) ∙ front ∙ ap (take (length first)) k ∙ h

-- where a step fails within a chunk, one of its bytes comes
pub chunk_byte : (limit used : ℕ) (content text piece : List ℕ) (stage : Stage) → StandsAt limit content stage (text ++ take used piece)
    → (left : DataLeft) × (stage ≡ Data left) → used < length piece → HasChunkByte limit text piece
chunk_byte limit used content text piece stage stands within more = record {
  front = take used piece;
  rest = drop used piece;
  piece_is = sym (take-append-drop used piece);
  some = omega (arith, length-drop used piece);
  content = content;
  left = within.0.bytes;
  within = subst (λ (s : Stage). StandsAt limit content s (text ++ take used piece)) within.1 stands;
}
