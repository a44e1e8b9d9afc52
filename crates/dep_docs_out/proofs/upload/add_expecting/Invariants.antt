use Rattle.std.proofs.Common.{map}
use Rattle.dep_docs_out.specs.Json.{AddsItems, whole_number}
use Rattle.dep_docs_out.specs.Documents.{expecting}
use Rattle.dep_docs_out.proofs.Waiting.{IsLeft}
use Rattle.dep_docs_out.proofs.upload.add_expecting.Given as goal

abbrev pub invariant-loop-before : goal.invariant-loop-before
invariant-loop-before l = record {
  left : IsLeft l.before l.received l.left;
  written : AddsItems l.initial.document l.document (map (λ n. whole_number n) (expecting l.before l.received));
}
