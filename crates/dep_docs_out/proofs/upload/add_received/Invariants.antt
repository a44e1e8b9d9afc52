use Rattle.std.proofs.Common.{map, take}
use Rattle.dep_docs_out.specs.Json.{whole_number}
use Rattle.dep_docs_out.specs.Json.{AddsItems}
use Rattle.dep_docs_out.proofs.upload.add_received.Given as goal

abbrev pub invariant-loop-number : goal.invariant-loop-number
invariant-loop-number l = AddsItems l.initial.document l.document (map (λ n. whole_number n) (take l.number-index l.received))
