use Rattle.std.proofs.Common.{◌∙◌, ◌++◌, ◌<◌, ℕ, List, Err, sym, ap, subst, arith}
use Rattle.std.proofs.KnownBytes.{Appends-trans}
use Rattle.dep_commands.specs.Audits.{AuditIsWhole, outcome_of_audit}
use Rattle.dep_program.specs.declared.outcome.Outcome.TheVariants.{Done, Damaged, StoreFault}
use Rattle.dep_schema.specs.Faults.{BlamesOutlet}
use Rattle.dep_commands.specs.declared.audit_fault.AuditFault.TheVariants.{Writer}
use Rattle.dep_commands.proofs.ReportLemmas.{all_whole, all_begun, is_damaged, fault_begun, no_transfer, transfer_of}
use Rattle.dep_commands.proofs.reporting.audit_all.Goals as goal

pub returns-in-Err : goal.returns-in-Err
returns-in-Err g c =
    let did = c.in-Err.ensures in
    record {
      writes = (did.writes.0, did.writes.1, λ clean t at. fault_begun t did.writes.0 c.in-Err.fault c.outcome_of.result c.outcome_of.ensures (did.writes.2 clean t at));
      stays = did.stays;
      blames = transfer_of _ _ c.in-Err.fault c.outcome_of.result c.outcome_of.ensures did.blames;
    }

-- more files are checked than are counted
pub returns-in-Ok-None : goal.returns-in-Ok-None
returns-in-Ok-None g c =
    let reported = rw c.in-Ok-None.field-0-is at c.in-Ok-None.ensures in
    record {
      writes = (reported.writes.0, reported.writes.1, λ clean t at. (reported.writes.2 clean t at).0);
      stays = reported.stays;
      blames = no_transfer _ _ StoreFault tt reported.blames.kept;
    }

pub returns-in-Ok : goal.returns-in-Ok
returns-in-Ok g c =
    let reported = rw c.in-Ok-Some.field-0-is at c.in-Ok-Some.ensures in
    let lines = reported.writes in
    let last = c.in-Ok.ensures in
    record {
      writes = (
        lines.0 ++ last.writes.0,
        Appends-trans (g.W.Outlet.taken c.args.out.now) (g.W.Outlet.taken c.report_objects.new.out) (g.W.Outlet.taken c.write_count.new.out) lines.0 last.writes.0 lines.1 last.writes.1,
        λ clean t at. subst (λ (l : List ℕ). AuditIsWhole t (lines.0 ++ l) Done) (sym last.writes.2)
            (all_whole t lines.0 c.in-Ok-Some.tally (lines.2 clean t at) Done (ap outcome_of_audit (sym c.if-tally-eq0.true))),
      );
      stays = reported.stays;
      blames = no_transfer _ _ Done tt (last.blames.kept ∙ reported.blames.kept);
    }

pub returns-in-Ok-2 : goal.returns-in-Ok-2
returns-in-Ok-2 g c =
    let reported = rw c.in-Ok-Some.field-0-is at c.in-Ok-Some.ensures in
    let lines = reported.writes in
    let last = c.in-Ok-2.ensures in
    let some : 0 < c.in-Ok-Some.tally.damaged = omega (arith, c.if-tally-eq0.false) in
    record {
      writes = (
        lines.0 ++ last.writes.0,
        Appends-trans (g.W.Outlet.taken c.args.out.now) (g.W.Outlet.taken c.report_objects.new.out) (g.W.Outlet.taken c.write_count.new.out) lines.0 last.writes.0 lines.1 last.writes.1,
        λ clean t at. subst (λ (l : List ℕ). AuditIsWhole t (lines.0 ++ l) Damaged) (sym last.writes.2)
            (all_whole t lines.0 c.in-Ok-Some.tally (lines.2 clean t at) Damaged (is_damaged c.in-Ok-Some.tally.damaged some)),
      );
      stays = reported.stays;
      blames = no_transfer _ _ Damaged tt (last.blames.kept ∙ reported.blames.kept);
    }

pub returns-in-Err-write_count : goal.returns-in-Err-write_count
returns-in-Err-write_count g c =
    let reported = rw c.in-Ok-Some.field-0-is at c.in-Ok-Some.ensures in
    let lines = reported.writes in
    let failed = c.in-Err-write_count in
    let part = failed.ensures in
    let outcome = c.outcome_of-in-Err-write_count in
    record {
      writes = (
        lines.0 ++ part.writes.0,
        Appends-trans (g.W.Outlet.taken c.args.out.now) (g.W.Outlet.taken c.report_objects.new.out) (g.W.Outlet.taken c.write_count.new.out) lines.0 part.writes.0 lines.1 part.writes.1,
        λ clean t at. fault_begun t (lines.0 ++ part.writes.0) failed.fault outcome.result outcome.ensures (all_begun t lines.0 c.in-Ok-Some.tally (lines.2 clean t at) part.writes.0 part.writes.2),
      );
      stays = reported.stays;
      blames = transfer_of {X = Unit {0}} _ _ failed.fault outcome.result outcome.ensures
          (subst (λ n. BlamesOutlet {A = Unit {0}} Writer n (g.W.Outlet.failures c.write_count.new.out) (Err failed.fault)) reported.blames.kept part.blames);
    }
