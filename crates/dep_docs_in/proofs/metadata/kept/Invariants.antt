use Rattle.std.proofs.Common.{◌≡◌}
use Rattle.std.specs.FinMap as map
use Rattle.serde_json.specs.View.{members_view}
use Rattle.dep_docs_in.specs.Documents.{kept_texts}
use Rattle.dep_docs_in.proofs.metadata.kept.Given as goal

-- what is kept so far, with what the members that are left add
abbrev pub invariant-loop-name : goal.invariant-loop-name
invariant-loop-name l = kept_texts map.empty (members_view l.members.entries) ≡ kept_texts l.metadata (members_view l.name-iterator)
