-- Where trailers end.
use Rattle.std.specs.Prelude.{ℕ, List, Option, Some, nat_eq, if◌then◌else◌}
use Rattle.std.specs.List.{starts_with}
use Rattle.dep_head.specs.Head.{head_end}
use Rattle.dep_body.specs.Lines.{crlf}

-- trailers end at CR LF where they begin so, and else at their first CR LF CR LF
abbrev pub section_end : List ℕ → Option ℕ
section_end text = if starts_with nat_eq text crlf then Some 2 else head_end text
