use Rattle.std.proofs.Common.{◌≡◌, drop}
use Rattle.serde_json.specs.Find.{as_str}
use Rattle.serde_json.specs.View.{items_view}
use Rattle.dep_docs_in.specs.Documents.{each_read}
use Rattle.dep_docs_in.specs.Ahead.{with_front}
use Rattle.dep_docs_in.proofs.metadata.listed.Given as goal

-- the texts so far stand before those of the values that are left
abbrev pub invariant-loop-value : goal.invariant-loop-value
invariant-loop-value l = each_read as_str (items_view l.values) ≡ with_front l.texts.items (each_read as_str (items_view (drop l.value-index l.values)))
