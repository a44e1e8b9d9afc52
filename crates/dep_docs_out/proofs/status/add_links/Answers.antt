use Rattle.std.proofs.Common.{map, arith}
use Rattle.dep_docs_out.specs.Json.{AddsItems}
use Rattle.dep_docs_out.specs.Documents.{link_data, links_data}
use Rattle.dep_docs_out.proofs.TokenLemmas.{list_member}
use Rattle.dep_docs_out.proofs.Loops.{item_next, items_all}
use Rattle.dep_docs_out.proofs.status.add_links.Goals as goal

pub loop-file-preserved : goal.loop-file-preserved
loop-file-preserved c =
    let link = link_data c.args.config.now c.args.view.now.object.object in
    item_next link c.as_slice-file-items.result.now c.loop-file.file-index c.file-item.result (omega arith) c.file-item.is c.loop-file.invariant c.add_link.ensures

pub returns : goal.returns
unfolding links_data
returns c =
    let link = link_data c.args.config.now c.args.view.now.object.object in
    let written : AddsItems c.token-2.new.self c.loop-file.document (map link c.as_slice-file-items.result.now) =
    items_all link c.as_slice-file-items.result.now c.loop-file.file-index (omega arith) c.loop-file.invariant in
    let links = rw c.as_slice-file-items.ensures at written in
    list_member c.token.ensures c.token-2.ensures links c.token-3.ensures
