use Rattle.std.proofs.Common.{◌∙◌, Some, arith, ap, sym}
use Rattle.std.proofs.lemmas.Result.{err_from_is_err_and}
use Rattle.serde_json.specs.Find.{as_str}
use Rattle.dep_docs_in.proofs.Items.{one_more, failed, at_end}
use Rattle.dep_docs_in.proofs.metadata.listed.Goals as goal

pub returns-in_err-text_in : goal.returns-in_err-text_in
returns-in_err-text_in c =
    let p = err_from_is_err_and c.from_residual.result c.from_residual.ensures.1 in
    rw (p.1, p.2) (failed as_str _ c.args.values.now c.loop-value.value-index c.value-item.result c.loop-value.texts.items _ c.loop-value.invariant (omega arith) (sym c.value-item.is) c.in_err-text_in.ensures)

pub loop-value-preserved : goal.loop-value-preserved
loop-value-preserved c =
    one_more as_str _ c.args.values.now c.loop-value.value-index c.value-item.result c.loop-value.texts.items c.push.new.self.items c.in_ok-text_in.field-0
    c.loop-value.invariant (omega arith) (sym c.value-item.is) c.in_ok-text_in.ensures c.in_ok-push.ensures.items

pub returns : goal.returns
returns c = at_end as_str _ c.args.values.now c.loop-value.value-index c.loop-value.texts.items c.loop-value.invariant (omega arith) ∙ ap Some (sym c.from_vec.ensures)
