use Rattle.std.proofs.Common.{◌≡◌, ℕ, List, flat_map, take}
use Rattle.std.specs.Io.KnownBytes.{Appends}
use Rattle.dep_commands.specs.Audits.{damaged_line}
use Rattle.dep_commands.proofs.lines.write_damaged.Given as goal

abbrev pub invariant-files : goal.invariant-files
invariant-files g l = record {
  writes : (written : List ℕ) × Appends (g.W.Outlet.taken l.fn.out) (g.W.Outlet.taken l.out) written
      × (written ≡ flat_map (damaged_line l.object) (take l.file-index l.files));
  count : g.W.Outlet.failures l.out ≡ g.W.Outlet.failures l.fn.out;
}
