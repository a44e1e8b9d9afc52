use Rattle.std.proofs.Common.{◌≡◌, false, map, take, IsTrue}
use Rattle.sqlite.specs.State.{HasCleanDisk}
use Rattle.dep_types.specs.State.{State}
use Rattle.dep_tables.specs.Tables.{tables_of, IsOurs}
use Rattle.dep_tables.proofs.Chains.{MayReads}
use Rattle.dep_row_maps.specs.TablesAre.{TablesAre}
use Rattle.dep_operations.specs.Views.{upload_undigested}
use Rattle.dep_views.proofs.uploads.find_uploads.Given as goal

-- the views so far are those of the uploads so far
abbrev pub invariant-uploads : goal.invariant-uploads
invariant-uploads g l =
    let old = g.T.Statements.state l.fn.tx in
    let now = g.T.Statements.state l.tx in
    MayReads g.T.Statements.lenders g.T.Statements.state l.fn.tx l.tx
    × (IsTrue old.is_open → HasCleanDisk now → IsTrue old.in_transaction → IsOurs old → (s : State) → TablesAre (tables_of old) s
    → l.views.items ≡ map (upload_undigested false s) (take l.upload-index l.uploads))
