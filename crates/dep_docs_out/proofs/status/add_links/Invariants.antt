use Rattle.std.proofs.Common.{map, take}
use Rattle.dep_docs_out.specs.Documents.{link_data}
use Rattle.dep_docs_out.specs.Json.{AddsItems}
use Rattle.dep_docs_out.proofs.status.add_links.Given as goal

abbrev pub invariant-loop-file : goal.invariant-loop-file
invariant-loop-file l = AddsItems l.initial.document l.document (map (link_data l.config l.view.object.object) (take l.file-index l.file-items))
