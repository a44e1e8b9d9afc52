use Rattle.std.proofs.Common.{arith}
use Rattle.dep_docs_out.specs.Json.{whole_number}
use Rattle.dep_docs_out.proofs.TokenLemmas.{list_member}
use Rattle.dep_docs_out.proofs.Loops.{number_next, items_all}
use Rattle.dep_docs_out.proofs.upload.add_received.Goals as goal

pub loop-number-preserved : goal.loop-number-preserved
loop-number-preserved c =
    number_next (λ n. whole_number n) c.args.received.now c.loop-number.number-index (omega arith) c.loop-number.invariant c.whole_number_item.ensures

pub returns : goal.returns
returns c =
    let numbers = items_all (λ n. whole_number n) c.args.received.now c.loop-number.number-index (omega arith) c.loop-number.invariant in
    list_member c.token.ensures c.token-2.ensures numbers c.token-3.ensures
