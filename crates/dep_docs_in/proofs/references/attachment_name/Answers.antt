use Rattle.std.proofs.Common.{◌≡◌, ◌∙◌, sym, ap, true, Some, Err, codes, bytes_eq, rules}
use Rattle.std.proofs.lemmas.Result.{err_from_is_err_and}
use Rattle.dep_docs_in.proofs.Names.{form_name-is, unnamed}
use Rattle.dep_docs_in.proofs.references.attachment_name.Goals as goal

pub returns-in_err-file_name : goal.returns-in_err-file_name
returns-in_err-file_name c =
    let p = err_from_is_err_and c.from_residual.result c.from_residual.ensures.1 in
    rw (p.1, p.2) (unnamed c.args.disposition.now _ (λ is. c.in_err-file_name.ensures.unnamed (ap Err is)) c.in_err-file_name.ensures.faults)

pub returns : goal.returns
returns c =
    let form : bytes_eq c.args.disposition.now.form (codes "attachment") ≡ true = search rules in
    form_name-is c.args.disposition.now _ form c.in_ok-file_name.ensures.named ∙ ap Some (sym c.new.ensures)
