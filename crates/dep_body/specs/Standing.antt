-- Where a chunk reader stands behind a text.
use Rattle.std.specs.Prelude.{◌≡◌, ℕ, ◌+◌, ◌<◌, ◌≤◌, Bool, true, false, List, [], ◌∷◌, ◌++◌, length, All, Option, None, if◌then◌else◌}
use Rattle.std.specs.List.{list_all}
use Rattle.std.specs.Option.{option_to_list}
use Rattle.dep_octets.specs.Octets.{capped}
use Rattle.dep_body.specs.Lines.{line_end, line_text, line_size, IsLine, is_trailer_line}
use Rattle.dep_body.specs.Body.{line_limit, section_limit, IsSizeLine, HasChunks, IsTrailer, lines_text, IsChunkedBody, IsChunkedFault}
use Rattle.dep_body.specs.Reading.{size_reading, trailer_reading, SaysSize}
use Rattle.dep_body.specs.declared.size.SizeLine.{SizeLine}
use Rattle.dep_body.specs.declared.size.SizeReading.{SizeReading}
use Rattle.dep_body.specs.declared.trailers.Trailers.{Trailers}
use Rattle.dep_body.specs.declared.stage.Stage.{Stage}
use Rattle.dep_body.specs.declared.stage.Stage.TheVariants as S
use Rattle.dep_body.specs.declared.frame.FrameFault.TheVariants as F

-- a line without an end: its bytes, but for a CR at their end
pub record IsBegunLine (bytes line : List ℕ) (after_cr : Bool) : Type 0 where
  pub bytes_are : bytes ≡ line ++ (if after_cr then 13 ∷ [] else [])
  pub plain : after_cr ≡ false → (front : List ℕ) → ¬ (line ≡ front ++ 13 ∷ [])
  pub no_end : line_end bytes ≡ None

-- within a chunk line
pub record IsInLine (limit : ℕ) (content : List ℕ) (state : SizeLine) (text : List ℕ) : Type 0 where
  pub rest : List ℕ
  pub line : List ℕ
  pub chunks : HasChunks limit text content rest
  pub begun : IsBegunLine rest line state.after_cr
  pub length_is : state.length ≡ length rest
  pub short : length rest < line_limit
  pub reading_is : state.reading ≡ size_reading limit line

-- within the bytes of a chunk, of which so many are left
pub record IsInData (limit : ℕ) (content : List ℕ) (left : ℕ) (text : List ℕ) : Type 0 where
  pub before : List ℕ
  pub line : List ℕ
  pub bytes : List ℕ
  pub chunks : HasChunks limit text before (line_text line ++ bytes)
  pub size : IsSizeLine line (length bytes + left)
  pub some : 0 < left
  pub room : length before + (length bytes + left) ≤ limit
  pub content_is : content ≡ before ++ bytes

-- behind the bytes of a chunk, and perhaps one byte more
pub record IsBehindData (limit : ℕ) (content : List ℕ) (byte : Option ℕ) (text : List ℕ)
    : Type 0 where
  pub before : List ℕ
  pub line : List ℕ
  pub bytes : List ℕ
  pub chunks : HasChunks limit text before (line_text line ++ (bytes ++ option_to_list byte))
  pub size : IsSizeLine line (length bytes)
  pub some : 0 < length bytes
  pub room : length before + length bytes ≤ limit
  pub content_is : content ≡ before ++ bytes

-- within the trailers
pub record IsInTrailers (limit : ℕ) (content : List ℕ) (state : Trailers) (text : List ℕ) : Type 0 where
  pub size_line : List ℕ
  pub lines : List (List ℕ)
  pub rest : List ℕ
  pub line : List ℕ
  pub chunks : HasChunks limit text content (line_text size_line ++ (lines_text lines ++ rest))
  pub zero : IsSizeLine size_line 0
  pub are : All IsTrailer lines
  pub good_is : state.good ≡ list_all is_trailer_line lines
  pub begun : IsBegunLine rest line state.after_cr
  pub length_is : state.length ≡ length (lines_text lines ++ rest)
  pub short : length (lines_text lines ++ rest) < section_limit
  pub reading_is : state.reading ≡ trailer_reading line

-- where the reader stands, with this content, once it has used this text
abbrev pub StandsAt : ℕ → List ℕ → Stage → List ℕ → Type 0
StandsAt limit content (S.Line state) text = IsInLine limit content state text
StandsAt limit content (S.Data left) text = IsInData limit content left.bytes text
StandsAt limit content (S.ChunkEnd byte) text = IsBehindData limit content byte text
StandsAt limit content (S.Section state) text = IsInTrailers limit content state text
StandsAt limit content S.Done text = IsChunkedBody limit text content
StandsAt limit content S.Bad text = IsChunkedFault limit text F.Bad content
StandsAt limit content S.TooLarge text = IsChunkedFault limit text F.TooLarge content

-- the reader uses no more bytes
abbrev pub is_settled : Stage → Bool
is_settled S.Done = true
is_settled S.Bad = true
is_settled S.TooLarge = true
is_settled _ = false

-- at the end of a chunk line with this reading
pub record IsAtLineEnd (limit : ℕ) (content : List ℕ) (reading : SizeReading) (text : List ℕ)
    : Type 0 where
  pub line : List ℕ
  pub chunks : HasChunks limit text content (line_text line)
  pub ends : IsLine line
  pub short : length line + 2 ≤ line_limit
  pub said : SaysSize limit reading (line_size line)

-- at the end of a chunk line of this value, which is None where it is above the limit
pub record IsSizedLine (limit : ℕ) (content : List ℕ) (size : ℕ) (value : Option ℕ) (text : List ℕ)
    : Type 0 where
  pub line : List ℕ
  pub chunks : HasChunks limit text content (line_text line)
  pub size_line : IsSizeLine line size
  pub value_is : value ≡ capped limit size

-- behind whole trailer lines of so many bytes
pub record IsBehindLines (limit : ℕ) (content : List ℕ) (size : ℕ) (good : Bool) (text : List ℕ)
    : Type 0 where
  pub size_line : List ℕ
  pub lines : List (List ℕ)
  pub chunks : HasChunks limit text content (line_text size_line ++ lines_text lines)
  pub zero : IsSizeLine size_line 0
  pub are : All IsTrailer lines
  pub good_is : good ≡ list_all is_trailer_line lines
  pub size_is : size ≡ length (lines_text lines)
