use Rattle.std.proofs.Common.{◌∙◌, refl, sym}
use Rattle.dep_params.proofs.Extended.{extended, no_first, no_second, as_extended}
use Rattle.dep_params.proofs.Runs.{not_both}
use Rattle.dep_params.proofs.file_name.escaped_part.Goals as goal
use Rattle.dep_params.proofs.file_name.escaped_part.Goals.{else-is_utf8_charset-via-then-is_utf8_charset+else-has_whole_escapes, else-is_utf8_charset-via-else-is_utf8_charset}

pub returns-in_err-charset : goal.returns-in_err-charset
returns-in_err-charset c = rw c.from_residual.ensures (λ name is. no_first c.args.text.now name is c.in_err-charset.ensures)

pub returns-in_err-escaped : goal.returns-in_err-escaped
returns-in_err-escaped c = rw c.from_residual-in_err-escaped.ensures (λ name is.
    no_second c.args.text.now name (c.in_ok-charset.charset.now, c.in_ok-charset.rest.now) is c.in_ok-charset.ensures c.in_err-escaped.ensures)

pub returns-then-has_whole_escapes : goal.returns-then-has_whole_escapes
returns-then-has_whole_escapes c =
    extended c.args.text.now _ (record {
      charset = c.in_ok-charset.charset.now;
      rest = c.in_ok-charset.rest.now;
      language = c.in_ok-escaped.field-0-0.now;
      escaped = c.in_ok-escaped.escaped.now;
      first = c.in_ok-charset.ensures;
      second = c.in_ok-escaped.ensures;
      utf8 = sym c.is_utf8_charset.ensures ∙ c.if-is_utf8_charset.true;
      whole = c.has_whole_escapes.ensures.0 c.if-has_whole_escapes.true;
      reported = refl;
    })

pub returns-else-is_utf8_charset : goal.returns-else-is_utf8_charset
returns-else-is_utf8_charset c = λ name is.
    let facts = as_extended c.args.text.now name (c.in_ok-charset.charset.now, c.in_ok-charset.rest.now) (c.in_ok-escaped.field-0-0.now, c.in_ok-escaped.escaped.now)
    is c.in_ok-charset.ensures c.in_ok-escaped.ensures in
    elim c.else-is_utf8_charset.branch [
      | else-is_utf8_charset-via-then-is_utf8_charset+else-has_whole_escapes w ↦
          not_both _ (w.has_whole_escapes.ensures.1 facts.1) w.if-has_whole_escapes.false
      | else-is_utf8_charset-via-else-is_utf8_charset w ↦ not_both _ (c.is_utf8_charset.ensures ∙ facts.0) w.if-is_utf8_charset.false
    ]
