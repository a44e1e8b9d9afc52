use Rattle.std.proofs.Common.{map, take}
use Rattle.dep_docs_out.specs.Json.{text}
use Rattle.dep_docs_out.specs.Json.{AddsItems}
use Rattle.dep_docs_out.proofs.metadata.add_texts.Given as goal

abbrev pub invariant-loop-text : goal.invariant-loop-text
invariant-loop-text l = AddsItems l.initial.document l.document (map (λ s. text s) (take l.text-index l.texts))
