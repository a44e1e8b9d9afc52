use Rattle.std.proofs.Common.{IsTrue, sym, subst}
use Rattle.sqlite.specs.Held.{Held, state}
use Rattle.sqlite.specs.State.{HasCleanDisk}
use Rattle.sqlite.proofs.StateLemmas.{clean_if_open}
use Rattle.dep_application.specs.Examinations.{ExportsDatabase}
use Rattle.dep_application.proofs.ExaminationLemmas.{exports_none, exports_into}
use Rattle.dep_application.proofs.examination.export_database.Goals as goal

pub returns-in-Ok : goal.returns-in-Ok
returns-in-Ok g c =
    let did = c.in-Ok.ensures in
    let run = c.export_into-outcome in
    let still = run.ensures.still in
    record {
      exports = subst (λ (h : Held _). ExportsDatabase (state g.S.Store c.args.connection) (state g.S.Store h) c.args.object run.result) (sym c.close.ensures)
          (exports_into (state g.S.Store c.args.connection) (state g.S.Store c.in-Ok.store) (state g.S.Store run.new.source)
          (λ is_open. clean_if_open (g.S.Store.view run.new.source.store) (g.met.S.Store.shut_if_dirty run.new.source.store) is_open)
          still.honest_before did.fresh did.found c.args.object run.ensures.gives.0 run.result run.ensures.gives.1
          still.stays still.stop);
      honest = λ honest. did.honest (still.honest_before (subst (λ (h : Held _). HasCleanDisk (state g.S.Store h)) c.close.ensures honest));
      «open» = λ is_open. did.«open» (still.open_before (subst (λ (h : Held _). IsTrue (state g.S.Store h).is_open) c.close.ensures is_open));
    }

pub returns-in-Err : goal.returns-in-Err
returns-in-Err g c =
    let did = c.in-Err.ensures in
    record {
      exports = exports_none (state g.S.Store c.args.connection) (state g.S.Store c.in-Err.connection) (record { kept = did.left; stop = did.stop }) c.args.object;
      honest = did.honest;
      «open» = did.«open»;
    }
