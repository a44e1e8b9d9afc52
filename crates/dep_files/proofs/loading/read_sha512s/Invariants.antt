use Rattle.std.proofs.Common.{◌≡◌, ◌≤◌, ℕ, max, length, take, IsTrue}
use Rattle.sqlite.specs.State.{HasCleanDisk}
use Rattle.dep_types.specs.State.{State}
use Rattle.dep_types.specs.Rows.{sha512s_of}
use Rattle.dep_tables.specs.Tables.{tables_of, IsOurs}
use Rattle.dep_tables.proofs.Chains.{MayReads}
use Rattle.dep_row_maps.specs.ReadLaws.{file_rows}
use Rattle.dep_row_maps.specs.TablesAre.{TablesAre, files_at}
use Rattle.dep_files.proofs.loading.read_sha512s.Given as goal

-- the values so far are those of the files before the place
abbrev pub invariant-loop-place : goal.invariant-loop-place
invariant-loop-place g l =
    let old = g.T.Statements.state l.fn.tx in
    let now = g.T.Statements.state l.tx in
    MayReads g.T.Statements.lenders g.T.Statements.state l.fn.tx l.tx
    × (IsTrue old.is_open → HasCleanDisk now → IsOurs old → (s : State) → TablesAre (tables_of old) s → (n : ℕ)
    → l.rows ≡ take (length l.rows) (file_rows n (files_at s.objects n)) → l.fn.first.items ≡ take (length l.fn.first.items) (sha512s_of (files_at s.objects n))
    → l.values.items ≡ take l.place (sha512s_of (files_at s.objects n)))
    × (l.place ≤ max l.end (length l.fn.first.items))
