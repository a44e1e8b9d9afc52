-- What a chunk reader was fed, and what it returns. Its state doesn't show the bytes, so these are relations.
use Rattle.std.specs.Prelude.{◌≡◌, ℕ, ◌-◌, ◌<◌, false, List, [], ◌++◌, length}
use Rattle.dep_body.specs.Body.{IsBodyText, IsChunkedPart, IsChunkedFault}
use Rattle.dep_body.specs.Standing.{StandsAt, IsInData, is_settled}
use Rattle.dep_body.specs.ReaderValue.{ReaderValue}
use Rattle.dep_body.specs.declared.frame.Framing.TheVariants.{Chunked}
use Rattle.dep_body.specs.declared.frame.FrameFault.{FrameFault}
use Rattle.dep_body.specs.declared.frame.FrameFault.TheVariants as F
use Rattle.dep_body.specs.declared.stage.Stage.{Stage}
use Rattle.dep_body.specs.declared.stage.Stage.TheVariants as S
use Rattle.dep_body.specs.declared.reader.Fed.{Fed}
use Rattle.dep_body.specs.declared.reader.Fed.TheVariants as A

-- the pieces that the reader was fed, joined
pub record HasFed (reader : ReaderValue) (fed : List ℕ) : Type 0 where
  pub text : List ℕ
  pub behind : List ℕ
  pub fed_is : fed ≡ text ++ behind
  pub stands : StandsAt reader.limit reader.content reader.stage text
  pub all : is_settled reader.stage ≡ false → behind ≡ []

-- the stream so far begins with a body of this content, of which so many bytes are in the piece behind those fed before
pub record EndsBody (limit : ℕ) (content fed piece : List ℕ) (used : ℕ) : Type 0 where
  pub text : List ℕ
  pub behind : List ℕ
  pub stream_is : fed ++ piece ≡ text ++ behind
  pub body : IsBodyText limit Chunked text content
  pub used_is : used ≡ length text - length fed

-- the stream so far begins with a fault, and this is the content up to there
pub record ShowsFault (limit : ℕ) (content fed piece : List ℕ) (fault : FrameFault) : Type 0 where
  pub text : List ℕ
  pub behind : List ℕ
  pub stream_is : fed ++ piece ≡ text ++ behind
  pub shown : IsChunkedFault limit text fault content

-- what is returned for a piece says this of the stream: the bytes fed before and the piece
abbrev pub ReportsFed : ReaderValue → List ℕ → List ℕ → Fed → Type 0
ReportsFed reader fed piece A.More = IsChunkedPart reader.limit (fed ++ piece) reader.content
ReportsFed reader fed piece (A.Done used) = EndsBody reader.limit reader.content fed piece used
ReportsFed reader fed piece A.Bad = ShowsFault reader.limit reader.content fed piece F.Bad
ReportsFed reader fed piece A.TooLarge = ShowsFault reader.limit reader.content fed piece F.TooLarge

-- a byte of a chunk stands in the piece, behind the stream that was fed before
pub record HasChunkByte (limit : ℕ) (fed piece : List ℕ) : Type 0 where
  pub front : List ℕ
  pub rest : List ℕ
  pub piece_is : piece ≡ front ++ rest
  pub some : 0 < length rest
  pub content : List ℕ
  pub left : ℕ
  pub within : IsInData limit content left (fed ++ front)

-- what is returned at a stage
abbrev pub answer_of : Stage → ℕ → Fed
answer_of S.Done used = A.Done used
answer_of S.Bad used = A.Bad
answer_of S.TooLarge used = A.TooLarge
answer_of (S.Line state) used = A.More
answer_of (S.Data left) used = A.More
answer_of (S.ChunkEnd byte) used = A.More
answer_of (S.Section state) used = A.More

-- how many bytes of the piece were used
abbrev pub used_by : Fed → ℕ
used_by (A.Done used) = used
used_by A.More = 0
used_by A.Bad = 0
used_by A.TooLarge = 0
