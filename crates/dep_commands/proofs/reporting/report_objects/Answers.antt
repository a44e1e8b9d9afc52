use Rattle.std.proofs.Common.{◌++◌, [], Err, inl, refl, subst, ◌∙◌, arith}
use Rattle.std.proofs.KnownBytes.{Appends-nil, Appends-trans}
use Rattle.dep_tables.specs.Edits.{IsObjectAfter}
use Rattle.dep_commands.specs.declared.tally.Tally.{Tally}
use Rattle.dep_commands.specs.declared.audit_fault.AuditFault.TheVariants.{Store}
use Rattle.dep_commands.proofs.LineLemmas.{blame_none, blame_passed}
use Rattle.dep_commands.proofs.ReportLemmas.{objects_rise, reported_none, reported_so_far, reported_more, reported_all, objects_fail, sum_passes, begun_fails}
use Rattle.dep_store.proofs.Tries.{reports_keeps, keeps_then, keeps_still}
use Rattle.dep_commands.proofs.reporting.report_objects.Goals as goal

pub returns-in_default : goal.returns-in_default
returns-in_default g c =
    let before = c.objects.invariant.writes in record {
      writes = (
        before.0,
        before.1,
        λ clean t at. let earlier = c.in_ok-object.ensures.rows.honest clean in
            let after = (c.in_ok-object.ensures.rows.ok clean t (c.objects.invariant.kept earlier t at)).0 in
            reported_all t c.objects.after before.0 c.objects.tally (before.2 earlier t at).0 (subst (IsObjectAfter c.objects.after t) c.in_default.is after),
      );
      stays =
          let inv = c.objects.invariant in
          keeps_then (g.S.AuditSource.database c.args.store.now) (g.S.AuditSource.database c.objects.store) (g.S.AuditSource.database c.next_object.new.self) inv.kept inv.stays (reports_keeps (g.S.AuditSource.database c.objects.store) (g.S.AuditSource.database c.next_object.new.self) _ _ c.in_ok-object.ensures.rows);
      blames = blame_none _ _ _ c.objects.invariant.count (λ is. cc is);
    }

-- an object that can't be read
pub returns-in_err-audit : goal.returns-in_err-audit
returns-in_err-audit g c =
    let inv = c.objects.invariant in
    let rows = c.in_ok-object.ensures.rows in
    let does = c.in_err-audit.ensures.does in record {
      writes = (
        inv.writes.0,
        inv.writes.1,
        λ clean t at. begun_fails t inv.writes.0 (reported_so_far t c.objects.after inv.writes.0 c.objects.tally (inv.writes.2 (rows.honest (does.honest clean)) t at).0)
            _ c.from_residual-in_err-audit.result c.from_residual-in_err-audit.ensures.1,
      );
      stays = keeps_then (g.S.AuditSource.database c.args.store.now) (g.S.AuditSource.database c.next_object.new.self) (g.S.AuditSource.database c.audit.new.self) (λ clean t at. (rows.ok clean t (inv.kept (rows.honest clean) t at)).1) (keeps_then (g.S.AuditSource.database c.args.store.now) (g.S.AuditSource.database c.objects.store) (g.S.AuditSource.database c.next_object.new.self) inv.kept inv.stays (reports_keeps (g.S.AuditSource.database c.objects.store) (g.S.AuditSource.database c.next_object.new.self) _ _ rows)) (reports_keeps (g.S.AuditSource.database c.next_object.new.self) (g.S.AuditSource.database c.audit.new.self) _ _ does);
      blames = blame_passed {X = Tally} _ _ _ inv.count Store (blame_none _ _ (Err Store) refl (λ is. cc is)) c.from_residual-in_err-audit.result c.from_residual-in_err-audit.ensures.1;
    }

pub returns-in_err-more : goal.returns-in_err-more
returns-in_err-more g c =
    let before = c.objects.invariant.writes in
    let does = c.in_ok-audit.ensures.does in
    let more = c.in_err-more.ensures.reports in record {
      writes = (
        before.0 ++ more.0,
        Appends-trans (g.W.Outlet.taken c.args.out.now) (g.W.Outlet.taken c.objects.out) (g.W.Outlet.taken c.write_audit.new.out) before.0 more.0 before.1 more.1,
        λ clean t at. let mid = does.honest clean in
            let earlier = c.in_ok-object.ensures.rows.honest mid in
            let stood = c.objects.invariant.kept earlier t at in
            let after = c.in_ok-object.ensures.rows.ok mid t stood in
            objects_fail t (objects_rise stood) c.objects.after c.in-Some.object before.0 c.objects.tally (before.2 earlier t at).0
            (subst (IsObjectAfter c.objects.after t) c.in-Some.is after.0) more.0 (c.in_err-more.field-0.0) (more.2 t (does.ok clean t after.1).0)
            c.from_residual-in_err-more.result c.from_residual-in_err-more.ensures.1,
      );
      stays =
          let inv = c.objects.invariant in
          let rows = c.in_ok-object.ensures.rows in
          keeps_then (g.S.AuditSource.database c.args.store.now) (g.S.AuditSource.database c.next_object.new.self) (g.S.AuditSource.database c.audit.new.self) (λ clean t at. (rows.ok clean t (inv.kept (rows.honest clean) t at)).1) (keeps_then (g.S.AuditSource.database c.args.store.now) (g.S.AuditSource.database c.objects.store) (g.S.AuditSource.database c.next_object.new.self) inv.kept inv.stays (reports_keeps (g.S.AuditSource.database c.objects.store) (g.S.AuditSource.database c.next_object.new.self) _ _ rows)) (reports_keeps (g.S.AuditSource.database c.next_object.new.self) (g.S.AuditSource.database c.audit.new.self) _ _ does);
      blames = blame_passed _ _ _ c.objects.invariant.count c.in_err-more.field-0.0 c.in_err-more.ensures.blames c.from_residual-in_err-more.result c.from_residual-in_err-more.ensures.1;
    }

-- more files are checked than are counted
pub returns-in_default-plus : goal.returns-in_default-plus
returns-in_default-plus g c =
    let before = c.objects.invariant.writes in
    let does = c.in_ok-audit.ensures.does in
    let more = c.in_ok-more.ensures.reports in record {
      writes = (
        before.0 ++ more.0,
        Appends-trans (g.W.Outlet.taken c.args.out.now) (g.W.Outlet.taken c.objects.out) (g.W.Outlet.taken c.write_audit.new.out) before.0 more.0 before.1 more.1,
        λ clean t at. let mid = does.honest clean in
            let earlier = c.in_ok-object.ensures.rows.honest mid in
            let stood = c.objects.invariant.kept earlier t at in
            let after = c.in_ok-object.ensures.rows.ok mid t stood in
            sum_passes t (objects_rise stood) c.objects.after c.in-Some.object before.0 c.objects.tally (before.2 earlier t at).0
            (subst (IsObjectAfter c.objects.after t) c.in-Some.is after.0) more.0 c.in_ok-more.more (more.2 t (does.ok clean t after.1).0) (c.plus.ensures.none c.in_default-plus.is),
      );
      stays =
          let inv = c.objects.invariant in
          let rows = c.in_ok-object.ensures.rows in
          keeps_then (g.S.AuditSource.database c.args.store.now) (g.S.AuditSource.database c.next_object.new.self) (g.S.AuditSource.database c.audit.new.self) (λ clean t at. (rows.ok clean t (inv.kept (rows.honest clean) t at)).1) (keeps_then (g.S.AuditSource.database c.args.store.now) (g.S.AuditSource.database c.objects.store) (g.S.AuditSource.database c.next_object.new.self) inv.kept inv.stays (reports_keeps (g.S.AuditSource.database c.objects.store) (g.S.AuditSource.database c.next_object.new.self) _ _ rows)) (reports_keeps (g.S.AuditSource.database c.next_object.new.self) (g.S.AuditSource.database c.audit.new.self) _ _ does);
      blames = blame_none _ _ _ (c.in_ok-more.ensures.blames.kept ∙ c.objects.invariant.count) (λ is. cc is);
    }

pub objects-preserved : goal.objects-preserved
objects-preserved g c =
    let inv = c.objects.invariant in
    let before = inv.writes in
    let rows = c.in_ok-object.ensures.rows in
    let does = c.in_ok-audit.ensures.does in
    let more = c.in_ok-more.ensures.reports in record {
      stays = keeps_then (g.S.AuditSource.database c.args.store.now) (g.S.AuditSource.database c.next_object.new.self) (g.S.AuditSource.database c.audit.new.self) (λ clean t at. (rows.ok clean t (inv.kept (rows.honest clean) t at)).1) (keeps_then (g.S.AuditSource.database c.args.store.now) (g.S.AuditSource.database c.objects.store) (g.S.AuditSource.database c.next_object.new.self) inv.kept inv.stays (reports_keeps (g.S.AuditSource.database c.objects.store) (g.S.AuditSource.database c.next_object.new.self) _ _ rows)) (reports_keeps (g.S.AuditSource.database c.next_object.new.self) (g.S.AuditSource.database c.audit.new.self) _ _ does);
      kept = λ clean t at. let mid = does.honest clean in
          (does.ok clean t (rows.ok mid t (inv.kept (rows.honest mid) t at)).1).1;
      writes = (
        before.0 ++ more.0,
        Appends-trans (g.W.Outlet.taken c.args.out.now) (g.W.Outlet.taken c.objects.out) (g.W.Outlet.taken c.write_audit.new.out) before.0 more.0 before.1 more.1,
        λ clean t at. let mid = does.honest clean in
            let earlier = rows.honest mid in
            let stood = inv.kept earlier t at in
            let after = rows.ok mid t stood in
            let reported = before.2 earlier t at in
            reported_more t (objects_rise stood) c.objects.after c.in-Some.object before.0 c.objects.tally reported.0
            (subst (IsObjectAfter c.objects.after t) c.in-Some.is after.0) more.0 c.in_ok-more.more c.in-Some-plus.sum c.objects.counter (more.2 t (does.ok clean t after.1).0)
            (rw c.in-Some-plus.is at c.plus.ensures.checked) (rw c.in-Some-plus.is at c.plus.ensures.damaged) reported.1,
      );
      count = c.in_ok-more.ensures.blames.kept ∙ inv.count;
    }

pub objects-init : goal.objects-init
objects-init g c = record {
  stays = keeps_still (g.S.AuditSource.database c.args.store.now) (λ is_open trees may. g.met.S.AuditSource.settled c.args.store.now trees is_open may);
  kept = λ clean t at. at;
  writes = ([], Appends-nil (g.W.Outlet.taken c.args.out.now), λ clean t at. reported_none t _ refl refl);
  count = refl;
}

pub returns-in_err-object : goal.returns-in_err-object
returns-in_err-object g c =
    let before = c.objects.invariant.writes in record {
      writes = (
        before.0,
        before.1,
        λ clean t at. begun_fails t before.0 (reported_so_far t c.objects.after before.0 c.objects.tally (before.2 (c.in_err-object.ensures.rows.honest clean) t at).0)
            _ c.from_residual.result c.from_residual.ensures.1,
      );
      stays =
          let inv = c.objects.invariant in
          keeps_then (g.S.AuditSource.database c.args.store.now) (g.S.AuditSource.database c.objects.store) (g.S.AuditSource.database c.next_object.new.self) inv.kept inv.stays (reports_keeps (g.S.AuditSource.database c.objects.store) (g.S.AuditSource.database c.next_object.new.self) _ _ c.in_err-object.ensures.rows);
      blames = blame_passed {X = Tally} _ _ _ c.objects.invariant.count Store (blame_none _ _ (Err Store) refl (λ is. cc is)) c.from_residual.result c.from_residual.ensures.1;
    }

pub returns : goal.returns
returns g c =
    let before = c.objects.invariant.writes in record {
      writes = (
        before.0,
        before.1,
        λ clean t at.
            let reported = before.2 clean t at in
            (reported_so_far t c.objects.after before.0 c.objects.tally reported.0, inl (omega (arith, reported.1, c.objects-test.false))),
      );
      stays = c.objects.invariant.stays;
      blames = blame_none _ _ _ c.objects.invariant.count (λ is. cc is);
    }
