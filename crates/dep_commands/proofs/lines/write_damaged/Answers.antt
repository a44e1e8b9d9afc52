use Rattle.std.proofs.Common.{◌++◌, ◌∙◌, [], refl}
use Rattle.std.proofs.KnownBytes.{Appends-nil, Appends-trans}
use Rattle.std.proofs.lemmas.List.{take_all}
use Rattle.dep_commands.specs.Audits.{damaged_line}
use Rattle.dep_commands.proofs.LineLemmas.{line_fails, lines_next, blame_none, blame_passed}
use Rattle.dep_commands.proofs.lines.write_damaged.Goals as goal

pub returns-in_err-write_line : goal.returns-in_err-write_line
returns-in_err-write_line g c =
    let before = c.files.invariant.writes in
    let more = c.in_err-write_line.ensures.writes in record {
      writes = (
        before.0 ++ more.0,
        Appends-trans (g.W.Outlet.taken c.args.out.now) (g.W.Outlet.taken c.files.out) (g.W.Outlet.taken c.write_line.new.out) before.0 more.0 before.1 more.1,
        line_fails (damaged_line c.args.object) c.args.files.now c.files.file-index _ c.files-test.true before.0 more.0 before.2 more.2
            _ c.from_residual.result c.from_residual.ensures.1,
      );
      blames = blame_passed _ _ _ c.files.invariant.count c.in_err-write_line.field-0.0 c.in_err-write_line.ensures.blames c.from_residual.result c.from_residual.ensures.1;
    }

pub returns : goal.returns
returns g c =
    let so_far = c.files.invariant in record {
      writes = rw (take_all c.files.file-index c.args.files.now c.files-test.false) at so_far.writes;
      blames = blame_none _ _ _ so_far.count (λ is. cc is);
    }

pub files-init : goal.files-init
files-init g c = record { writes = ([], Appends-nil (g.W.Outlet.taken c.args.out.now), refl); count = refl }

pub files-preserved : goal.files-preserved
files-preserved g c =
    let so_far = c.files.invariant in
    let before = so_far.writes in
    let more = c.in_ok-write_line.ensures in record {
      writes = (
        before.0 ++ more.writes.0,
        Appends-trans (g.W.Outlet.taken c.args.out.now) (g.W.Outlet.taken c.files.out) (g.W.Outlet.taken c.write_line.new.out) before.0 more.writes.0 before.1 more.writes.1,
        lines_next (damaged_line c.args.object) c.args.files.now c.files.file-index _ c.files-test.true before.0 more.writes.0 before.2 more.writes.2,
      );
      count = more.blames.kept ∙ so_far.count;
    }
