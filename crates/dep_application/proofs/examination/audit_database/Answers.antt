use Rattle.std.proofs.Common.{[], refl, sym, subst}
use Rattle.std.proofs.KnownBytes.{Appends-nil}
use Rattle.sqlite.specs.Held.{Held, state}
use Rattle.sqlite.specs.State.{HasCleanDisk}
use Rattle.sqlite.proofs.StateLemmas.{clean_if_open}
use Rattle.dep_application.specs.Examinations.{AuditsDatabase}
use Rattle.dep_application.proofs.ExaminationLemmas.{audits_none, audits_all}
use Rattle.dep_application.proofs.examination.audit_database.Goals as goal

pub returns-in-Ok-clause-audits : goal.returns-in-Ok-clause-audits
returns-in-Ok-clause-audits g c =
    let run = c.audit_all-outcome in
    let it = run.ensures.writes in (
      it.0,
      it.1,
      subst (λ (h : Held _). AuditsDatabase (state g.S.Store c.args.connection) (state g.S.Store h) it.0 run.result) (sym c.close.ensures)
          (audits_all (state g.S.Store c.args.connection) (state g.S.Store c.in-Ok.store) (state g.S.Store run.new.store)
          (λ is_open. clean_if_open (g.S.Store.view run.new.store.store) (g.met.S.Store.shut_if_dirty run.new.store.store) is_open)
          run.ensures.stays.honest c.in-Ok.ensures.fresh c.in-Ok.ensures.found it.0 run.result c.in-Ok.ensures.tables c.in-Ok.ensures.older it.2 run.ensures.stays.still run.ensures.stays.stop),
    )

pub returns-in-Err-clause-audits : goal.returns-in-Err-clause-audits
returns-in-Err-clause-audits g c = (
  [],
  Appends-nil (g.W.Outlet.taken c.args.lines.now),
  audits_none (state g.S.Store c.args.connection) (state g.S.Store c.in-Err.connection) (record { kept = c.in-Err.ensures.left; stop = c.in-Err.ensures.stop }),
)

pub returns-in-Ok-clause-honest : goal.returns-in-Ok-clause-honest
returns-in-Ok-clause-honest g c honest =
    c.in-Ok.ensures.honest (c.audit_all-outcome.ensures.stays.honest (subst (λ (h : Held _). HasCleanDisk (state g.S.Store h)) c.close.ensures honest))

pub returns-in-Err-clause-honest : goal.returns-in-Err-clause-honest
returns-in-Err-clause-honest g c = c.in-Err.ensures.honest

pub returns-in-Ok-clause-count : goal.returns-in-Ok-clause-count
returns-in-Ok-clause-count g c = c.audit_all-outcome.ensures.blames.count

pub returns-in-Err-clause-count : goal.returns-in-Err-clause-count
returns-in-Err-clause-count g c other = refl

pub returns-in-Ok-clause-cause : goal.returns-in-Ok-clause-cause
returns-in-Ok-clause-cause g c = c.audit_all-outcome.ensures.blames.cause
