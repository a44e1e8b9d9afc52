-- The text of a request's body, by its framing (RFC 9112, sections 6 and 7.1).
use Rattle.std.specs.Prelude.{◌≡◌, ℕ, ◌+◌, ◌<◌, ◌≤◌, true, false, List, [], ◌++◌, length, take, All, Some, None}
use Rattle.std.specs.List.{flat_map, list_all}
use Rattle.dep_body.specs.Lines.{crlf, line_end, line_text, IsLine, line_size, is_trailer_line}
use Rattle.dep_body.specs.declared.frame.Framing.{Framing}
use Rattle.dep_body.specs.declared.frame.Framing.TheVariants.{Empty, Length, Chunked}
use Rattle.dep_body.specs.declared.frame.FrameFault.{FrameFault}
use Rattle.dep_body.specs.declared.frame.FrameFault.TheVariants.{Bad, TooLarge}

-- how many bytes a chunk line has at most, with its CR LF
abbrev pub line_limit : ℕ
line_limit = 1024

-- how many bytes the trailers have at most, with the last CR LF
abbrev pub section_limit : ℕ
section_limit = 16384

-- a chunk line of this value
pub record IsSizeLine (line : List ℕ) (size : ℕ) : Type 0 where
  pub ends : IsLine line
  pub short : length line + 2 ≤ line_limit
  pub says : line_size line ≡ Some size

-- a chunk: its line, and its bytes
pub record Chunk : Type 0 where
  pub line : List ℕ
  pub bytes : List ℕ

-- the line says how many bytes there are
pub record IsChunk (chunk : Chunk) : Type 0 where
  pub size : IsSizeLine chunk.line (length chunk.bytes)
  pub some : 0 < length chunk.bytes

-- the line, the bytes and CR LF
abbrev pub chunk_text : Chunk → List ℕ
chunk_text chunk = line_text chunk.line ++ (chunk.bytes ++ crlf)

abbrev pub chunks_text : List Chunk → List ℕ
chunks_text chunks = flat_map chunk_text chunks

-- the bytes of the chunks, joined
abbrev pub chunks_content : List Chunk → List ℕ
chunks_content chunks = flat_map (λ chunk. chunk.bytes) chunks

-- the text is chunks with this content, of at most limit bytes, and then the rest
pub record HasChunks (limit : ℕ) (text content rest : List ℕ) : Type 0 where
  pub chunks : List Chunk
  pub are : All IsChunk chunks
  pub text_is : text ≡ chunks_text chunks ++ rest
  pub content_is : content ≡ chunks_content chunks
  pub fits : length content ≤ limit

-- a line that isn't empty
abbrev pub IsTrailer : List ℕ → Type 0
IsTrailer line = IsLine line × (0 < length line)

abbrev pub lines_text : List (List ℕ) → List ℕ
lines_text lines = flat_map line_text lines

-- trailer lines and CR LF
pub record IsSection (text : List ℕ) (lines : List (List ℕ)) : Type 0 where
  pub are : All IsTrailer lines
  pub text_is : text ≡ lines_text lines ++ crlf
  pub small : length text ≤ section_limit

-- trailer lines, and a line that has no end yet
pub record IsBegunSection (text : List ℕ) : Type 0 where
  pub lines : List (List ℕ)
  pub last : List ℕ
  pub are : All IsTrailer lines
  pub text_is : text ≡ lines_text lines ++ last
  pub no_end : line_end last ≡ None

-- a line of value 0 and the trailers
pub record IsLastPart (rest : List ℕ) : Type 0 where
  pub line : List ℕ
  pub section : List ℕ
  pub lines : List (List ℕ)
  pub rest_is : rest ≡ line_text line ++ section
  pub zero : IsSizeLine line 0
  pub whole : IsSection section lines
  pub good : list_all is_trailer_line lines ≡ true

-- behind chunks of so many bytes the rest is a unit that is bad or too large, judged once it is whole
-- or once its limit of bytes stands there without its end; held are the bytes of an unfinished chunk
pub data IsUnitFault (limit taken : ℕ) (rest : List ℕ) : FrameFault → (held : List ℕ) → Type 0 where
  long_line : line_end rest ≡ None → length rest ≡ line_limit → IsUnitFault limit taken rest Bad []
  bad_line : (line : List ℕ) → rest ≡ line_text line → IsLine line → length line + 2 ≤ line_limit
      → line_size line ≡ None → IsUnitFault limit taken rest Bad []
  large_chunk : (line : List ℕ) (size : ℕ) → rest ≡ line_text line → IsSizeLine line size
      → limit < taken + size → IsUnitFault limit taken rest TooLarge []
  bad_end : (line bytes two : List ℕ) → rest ≡ line_text line ++ (bytes ++ two)
      → IsSizeLine line (length bytes) → 0 < length bytes → taken + length bytes ≤ limit
      → length two ≡ 2 → ¬ (two ≡ crlf)
      → IsUnitFault limit taken rest Bad bytes
  long_trailers : (line section : List ℕ) → rest ≡ line_text line ++ section → IsSizeLine line 0
      → IsBegunSection section → length section ≡ section_limit → IsUnitFault limit taken rest Bad []
  bad_trailers : (line section : List ℕ) (lines : List (List ℕ)) → rest ≡ line_text line ++ section
      → IsSizeLine line 0 → IsSection section lines → list_all is_trailer_line lines ≡ false
      → IsUnitFault limit taken rest Bad []

-- behind chunks of so many bytes the rest is a prefix of a unit, and no fault yet; held are the bytes
-- of an unfinished chunk
pub data IsBegunUnit (limit taken : ℕ) (rest : List ℕ) : (held : List ℕ) → Type 0 where
  begun_line : line_end rest ≡ None → length rest < line_limit → IsBegunUnit limit taken rest []
  begun_chunk : (line come : List ℕ) (size : ℕ) → rest ≡ line_text line ++ come
      → IsSizeLine line size → 0 < size → taken + size ≤ limit → length come < size + 2
      → IsBegunUnit limit taken rest (take size come)
  begun_trailers : (line section : List ℕ) → rest ≡ line_text line ++ section → IsSizeLine line 0
      → IsBegunSection section → length section < section_limit → IsBegunUnit limit taken rest []

-- chunks, a line of value 0 and trailers
pub record IsChunkedBody (limit : ℕ) (text content : List ℕ) : Type 0 where
  pub rest : List ℕ
  pub chunks : HasChunks limit text content rest
  pub last : IsLastPart rest

-- chunks and a unit that is bad or too large; content are the bytes of chunks up to there
pub record IsChunkedFault (limit : ℕ) (text : List ℕ) (fault : FrameFault) (content : List ℕ)
    : Type 0 where
  pub before : List ℕ
  pub rest : List ℕ
  pub held : List ℕ
  pub chunks : HasChunks limit text before rest
  pub unit : IsUnitFault limit (length before) rest fault held
  pub content_is : content ≡ before ++ held

-- chunks and a prefix of a unit; content are the bytes of chunks up to there
pub record IsChunkedPart (limit : ℕ) (text content : List ℕ) : Type 0 where
  pub before : List ℕ
  pub rest : List ℕ
  pub held : List ℕ
  pub chunks : HasChunks limit text before rest
  pub unit : IsBegunUnit limit (length before) rest held
  pub content_is : content ≡ before ++ held

-- the text is a whole body with this content, of at most limit bytes
abbrev pub IsBodyText : ℕ → Framing → List ℕ → List ℕ → Type 0
IsBodyText limit Empty text content = (text ≡ []) × (content ≡ [])
IsBodyText limit (Length n) text content = (length text ≡ n) × (content ≡ text)
IsBodyText limit Chunked text content = IsChunkedBody limit text content

-- the text is the shortest prefix of a stream that shows this fault of a body
abbrev pub IsBodyFault : ℕ → Framing → List ℕ → FrameFault → Type 0
IsBodyFault limit Empty text fault = ⊥
IsBodyFault limit (Length n) text fault = ⊥
IsBodyFault limit Chunked text fault = (content : List ℕ) × IsChunkedFault limit text fault content

-- the text is a proper prefix of a body, and no fault of one
abbrev pub IsPartOfBody : ℕ → Framing → List ℕ → Type 0
IsPartOfBody limit Empty text = ⊥
IsPartOfBody limit (Length n) text = length text < n
IsPartOfBody limit Chunked text = (content : List ℕ) × IsChunkedPart limit text content
