use Rattle.std.proofs.Common.{◌≡◌, ℕ, List}
use Rattle.sqlite.specs.State.{HasCleanDisk}
use Rattle.dep_transactions.specs.OpenTables.{StaysFile}
use Rattle.std.specs.Io.KnownBytes.{Appends}
use Rattle.dep_tables.specs.Tables.{Tables}
use Rattle.dep_store.specs.Staying.{KeepsTables}
use Rattle.dep_commands.proofs.ReportLemmas.{IsCounted}
use Rattle.dep_commands.proofs.reporting.report_objects.Given as goal

-- the objects up to a number were told
abbrev pub invariant-objects : goal.invariant-objects
invariant-objects g l = record {
  stays : KeepsTables (g.S.AuditSource.database l.fn.store) (g.S.AuditSource.database l.store);
  kept : HasCleanDisk (g.S.AuditSource.database l.store) → (t : Tables) → StaysFile (g.S.AuditSource.database l.fn.store) t → StaysFile (g.S.AuditSource.database l.store) t;
  writes : (written : List ℕ) × Appends (g.W.Outlet.taken l.fn.out) (g.W.Outlet.taken l.out) written
      × (HasCleanDisk (g.S.AuditSource.database l.store) → (t : Tables) → StaysFile (g.S.AuditSource.database l.fn.store) t → IsCounted t l.after written l.tally l.counter);
  count : g.W.Outlet.failures l.out ≡ g.W.Outlet.failures l.fn.out;
}
