-- Fields as spans over a text.
use Rattle.std.specs.Prelude.{ℕ, List, length, map, All}
use Rattle.httparse.specs.Spans.{header_bytes, span_bytes, IsWithin, IsHeaderWithin}
use Rattle.httparse.specs.declared.spans.Span.{Span}
use Rattle.httparse.specs.declared.spans.HeaderSpan.{HeaderSpan}
use Rattle.dep_head.specs.Head.{HeadParts}

-- the fields that spans cover
abbrev pub fields_at : List ℕ → List HeaderSpan → List (List ℕ × List ℕ)
fields_at text spans = map (header_bytes text) spans

-- each span lies in the text
abbrev pub AreWithin : List ℕ → List HeaderSpan → Type 0
AreWithin text spans = All (IsHeaderWithin (length text)) spans

-- the parts of a head, by its text, the spans in it, and the path of its target
abbrev pub spanned_parts : List ℕ → Span → List ℕ → ℕ → List HeaderSpan → HeadParts
spanned_parts text method path minor spans = record {
  method = span_bytes text method;
  path = path;
  minor = minor;
  fields = fields_at text spans;
}

-- the spans of a head lie in its text
pub record SpansFit (text : List ℕ) (method : Span) (spans : List HeaderSpan) : Type 0 where
  pub method_fits : IsWithin (length text) method
  pub fields_fit : AreWithin text spans
