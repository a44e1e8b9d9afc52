use Rattle.std.proofs.Common.{◌∙◌, Some, ap, sym, subst, arith}
use Rattle.std.proofs.lemmas.Result.{err_from_is_err_and}
use Rattle.dep_docs_in.specs.Faults.{IsUnreadable}
use Rattle.dep_docs_in.proofs.Parts.{all_read, none_read_yet}
use Rattle.dep_docs_in.proofs.references.entries_in.Goals as goal

pub returns-in_err-read_some : goal.returns-in_err-read_some
returns-in_err-read_some c =
    let p = err_from_is_err_and c.from_residual.result c.from_residual.ensures.1 in
    rw (p.1, p.2) (subst (IsUnreadable _) (sym (none_read_yet c.args.config.now.base c.args.entries.now c.new-references.result.items c.new-references.ensures.items)) c.in_err-read_some.ensures.err)

pub returns : goal.returns
returns c =
    none_read_yet c.args.config.now.base c.args.entries.now c.new-references.result.items c.new-references.ensures.items
    ∙ c.in_ok-read_some.ensures.ok
    ∙ all_read c.args.config.now.base c.args.entries.now c.read_some.new.references.items (c.in_ok-read_some.ensures.all (omega arith))
    ∙ ap Some (sym c.from_vec.ensures)
