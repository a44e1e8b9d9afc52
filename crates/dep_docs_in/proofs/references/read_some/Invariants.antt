use Rattle.std.proofs.Common.{◌≡◌, ◌-◌, length}
use Rattle.serde_json.specs.View.{items_view}
use Rattle.dep_docs_in.specs.Ahead.{read_behind}
use Rattle.dep_docs_in.proofs.references.read_some.Given as goal

-- the references so far say with the entries that are left what they said before
abbrev pub invariant-loop-alloc : goal.invariant-loop-alloc
invariant-loop-alloc l =
    read_behind l.config.base l.fn.references.items (items_view l.entries) ≡ read_behind l.config.base l.references.items (items_view l.entries)

abbrev pub decreases-loop-alloc : goal.decreases-loop-alloc
decreases-loop-alloc l = l.end - length l.references.items
