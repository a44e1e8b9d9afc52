use Rattle.std.proofs.Common.{arith}
use Rattle.dep_docs_out.specs.Json.{text}
use Rattle.dep_docs_out.proofs.TokenLemmas.{list_member}
use Rattle.dep_docs_out.proofs.Loops.{item_next, items_all}
use Rattle.dep_docs_out.proofs.metadata.add_texts.Goals as goal

pub loop-text-preserved : goal.loop-text-preserved
loop-text-preserved c =
    item_next (λ s. text s) c.args.texts.now c.loop-text.text-index c.text-item.result (omega arith) c.text-item.is c.loop-text.invariant
    (rw c.as_str.ensures at c.text_item.ensures)

pub returns : goal.returns
returns c =
    let texts = items_all (λ s. text s) c.args.texts.now c.loop-text.text-index (omega arith) c.loop-text.invariant in
    list_member c.token.ensures c.token-2.ensures texts c.token-3.ensures
