use Rattle.std.specs.List.{All}
use Rattle.std.proofs.Common.{◌≡◌, true, map, take, IsTrue}
use Rattle.sqlite.specs.State.{HasCleanDisk}
use Rattle.dep_types.specs.State.{State}
use Rattle.dep_tables.specs.Tables.{tables_of, IsOurs}
use Rattle.dep_tables.proofs.Chains.{MayReads}
use Rattle.dep_row_maps.specs.TablesAre.{TablesAre}
use Rattle.dep_operations.specs.Views.{upload_view}
use Rattle.dep_operations.specs.declared.view.UploadView.{UploadView}
use Rattle.dep_staging.specs.HashedAhead.{Hashes}
use Rattle.dep_views.specs.Seen.{IsUndigested}
use Rattle.dep_views.proofs.digests.hash_uploads.Given as goal

-- each upload so far is shown with its digests
abbrev pub invariant-views : goal.invariant-views
invariant-views g l =
    let old = g.T.Statements.state l.fn.tx in
    let now = g.T.Statements.state l.tx in
    MayReads g.T.Statements.lenders g.T.Statements.state l.fn.tx l.tx
    × (IsTrue old.is_open → HasCleanDisk now → IsTrue old.in_transaction → IsOurs old → (s : State) → TablesAre (tables_of old) s → Hashes s l.fn.running l.running
    (All (IsUndigested s) l.views → l.hashed.items ≡ map (λ (v : UploadView). upload_view true s v.upload) (take l.view-index l.views)))
