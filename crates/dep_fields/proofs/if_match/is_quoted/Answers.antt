use Rattle.std.proofs.Common.{◌∙◌, ◌==◌, sym, bytes_eq}
use Rattle.dep_fields.proofs.TagLemmas.{quotes, unquoted, quoted}
use Rattle.dep_fields.proofs.if_match.is_quoted.Goals as goal

pub returns-then-last-ne34 : goal.returns-then-last-ne34
returns-then-last-ne34 c =
    let first = c.in-Some.first.now in
    let last = c.in-Some-split_last.last.now in
    let between = c.in-Some-split_last.between.now in
    let inner = c.args.inner.now in
    sym (quotes _ _ between inner first last c.in-Some.ensures.cases.0 c.in-Some-split_last.ensures.cases.0
    ∙ unquoted (first == 34) (bytes_eq between inner) last c.if-last-ne34.true)

pub returns : goal.returns
returns c =
    let first = c.in-Some.first.now in
    let last = c.in-Some-split_last.last.now in
    let between = c.in-Some-split_last.between.now in
    let inner = c.args.inner.now in
    c.eq.ensures ∙ sym (quotes _ _ between inner first last c.in-Some.ensures.cases.0 c.in-Some-split_last.ensures.cases.0
    ∙ quoted (bytes_eq between inner) first last c.if-first-ne34.false c.if-last-ne34.false)
