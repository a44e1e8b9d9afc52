use Rattle.std.proofs.Common.{map, take}
use Rattle.dep_docs_out.specs.Json.{AddsMembers}
use Rattle.dep_docs_out.specs.Documents.{texts_data}
use Rattle.dep_docs_out.proofs.metadata.add_metadata.Given as goal

abbrev pub invariant-loop-entry : goal.invariant-loop-entry
invariant-loop-entry l = AddsMembers l.initial.document l.document (map (λ e. (e.name, texts_data e.texts)) (take l.entry-index l.entry-items))
