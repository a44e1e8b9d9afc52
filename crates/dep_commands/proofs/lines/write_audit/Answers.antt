use Rattle.std.proofs.Common.{◌≡◌, length, refl, rules}
use Rattle.dep_commands.proofs.LineLemmas.{blame_none, blame_passed}
use Rattle.dep_commands.proofs.ReportLemmas.{reported_object, object_fails}
use Rattle.dep_commands.proofs.lines.write_audit.Goals as goal

pub returns-in_err-write_damaged-clause-reports : goal.returns-in_err-write_damaged-clause-reports
returns-in_err-write_damaged-clause-reports g c =
    let wrote = c.in_err-write_damaged.ensures.writes in (
      wrote.0,
      wrote.1,
      λ t audited. object_fails t c.args.object c.args.audit c.as_slice.result.now wrote.0 audited c.as_slice.ensures.value
          wrote.2 _ c.from_residual.result c.from_residual.ensures.1,
    )

pub returns-in_err-write_damaged-clause-blames : goal.returns-in_err-write_damaged-clause-blames
returns-in_err-write_damaged-clause-blames g c = blame_passed _ _ _ refl c.in_err-write_damaged.field-0.0 c.in_err-write_damaged.ensures.blames c.from_residual.result c.from_residual.ensures.1

pub returns-clause-reports : goal.returns-clause-reports
returns-clause-reports g c =
    let wrote = c.in_ok-write_damaged.ensures.writes in
    let counted : c.len.result ≡ length c.args.audit.damaged.items = search rules in (
      wrote.0,
      wrote.1,
      λ t audited. reported_object t c.args.object c.args.audit c.as_slice.result.now wrote.0 _ audited c.as_slice.ensures.value
          wrote.2 refl counted,
    )

pub returns-clause-blames : goal.returns-clause-blames
returns-clause-blames g c = blame_none _ _ _ c.in_ok-write_damaged.ensures.blames.kept (λ is. cc is)
