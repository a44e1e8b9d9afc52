use Rattle.std.proofs.Common.{◌≡◌, length, IsTrue}
use Rattle.sqlite.specs.State.{HasCleanDisk}
use Rattle.dep_types.specs.State.{State}
use Rattle.dep_decisions.specs.LookUps.{in_state}
use Rattle.dep_decisions.specs.Rules.{each, upload_refusal}
use Rattle.dep_tables.specs.Tables.{tables_of, IsOurs}
use Rattle.dep_tables.proofs.Chains.{MayReads}
use Rattle.dep_row_maps.specs.TablesAre.{TablesAre}
use Rattle.dep_views.proofs.named.refuse_lacking.Given as goal

-- those so far are there
abbrev pub invariant-loop-upload : goal.invariant-loop-upload
invariant-loop-upload g l =
    let old = g.T.Statements.state l.fn.tx in
    let now = g.T.Statements.state l.tx in
    MayReads g.T.Statements.lenders g.T.Statements.state l.fn.tx l.tx
    × (IsTrue old.is_open → HasCleanDisk now → IsTrue old.in_transaction → IsOurs old → (s : State) → TablesAre (tables_of old) s
    → each (upload_refusal (in_state s)) l.fn.uploads ≡ each (upload_refusal (in_state s)) l.rest)

abbrev pub decreases-loop-upload : goal.decreases-loop-upload
decreases-loop-upload g l = length l.rest
