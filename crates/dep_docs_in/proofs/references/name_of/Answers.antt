use Rattle.std.proofs.Common.{◌∙◌, sym, ap, subst, Some, Err, option_and_then, codes}
use Rattle.std.proofs.lemmas.Result.{err_from_is_err_and}
use Rattle.serde_json.specs.Find.{as_str, get}
use Rattle.serde_json.specs.View.{view}
use Rattle.dep_docs_in.specs.Faults.{GivesRead}
use Rattle.dep_docs_in.specs.Documents.{name_of}
use Rattle.dep_docs_in.proofs.Names.{name-is, unread}
use Rattle.dep_docs_in.proofs.references.name_of.Goals as goal

pub returns-in_err-disposition : goal.returns-in_err-disposition
unfolding name_of
returns-in_err-disposition c =
    let there = option_and_then as_str (get (codes "contentDisposition") (view c.args.entry.now)) in
    let text = sym c.in-Some.ensures ∙ ap Some (sym c.as_bytes.ensures.value) in
    let why = c.in_err-disposition.ensures in
    let p = err_from_is_err_and c.from_residual.result c.from_residual.ensures.1 in
    rw (p.1, p.2) (unread there c.as_bytes.result.now _ text (λ is. why.malformed (ap Err is)) (λ is. why.repeated (ap Err is)) (λ is. why.never_of_names (ap Err is)))

pub returns : goal.returns
unfolding name_of
returns c =
    let there = option_and_then as_str (get (codes "contentDisposition") (view c.args.entry.now)) in
    let text = sym c.in-Some.ensures ∙ ap Some (sym c.as_bytes.ensures.value) in
    subst (GivesRead c.attachment_name.result) (sym (name-is there c.as_bytes.result.now c.in_ok-disposition.disposition text c.in_ok-disposition.ensures.read.0 c.in_ok-disposition.ensures.read.1)) c.attachment_name.ensures
