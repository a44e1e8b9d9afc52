use Rattle.std.proofs.Common.{◌≡◌, None, Some, refl}
use Rattle.dep_exchange.specs.Machine.{step}
use Rattle.dep_exchange.specs.Sending.{outside}
use Rattle.dep_exchange.specs.Serving.{BeginsSource}
use Rattle.dep_exchange.specs.Owing.{with_more}
use Rattle.dep_exchange.proofs.BeginLemmas.{begins_as, ready_source}
use Rattle.dep_exchange.proofs.ServingLemmas.{answers_failed, answers_ready}
use Rattle.dep_exchange.proofs.sending.send_step.Goals as goal

pub returns-in-Ok : goal.returns-in-Ok
returns-in-Ok g c = record {
  owing = λ config item moment before makes.
      let y = c.send_performed-answered.ensures.owing in (
        y.0,
        y.1,
        y.2,
        answers_ready config item moment (g.O.Outlet.taken c.args.out.now) (g.O.Outlet.failures c.args.out.now) (g.A.Archive.condition before) (g.A.Archive.condition c.args.store.now)
            (outside (with_more (g.O.Outlet.taken c.send_performed-answered.new.out) y.0) (g.O.Outlet.failures c.send_performed-answered.new.out) (g.A.Archive.condition c.send_performed-answered.new.store))
            c.in-Ok.performed c.send_performed-answered.result.0 (rw c.in-Ok.is at makes) y.3,
      );
  begins = λ config item moment before makes.
      let x = c.send_performed-answered.ensures.owing.3 in
      let made = rw c.in-Ok.is at makes in
      begins_as (λ r. c.in-Ok.performed.stored ≡ Some r.file)
      (BeginsSource config item moment (g.A.Archive.condition before) (g.A.Archive.condition c.send_performed-answered.new.store)) c.send_performed-answered.result.1
      (λ r is disk s at. ready_source (step config s item moment) c.in-Ok.performed r.file (made.makes (x.passes.honest disk) s at).ready is)
      c.send_performed-answered.ensures.begins;
  at_once = c.send_performed-answered.ensures.at_once;
}

pub returns-in-Err : goal.returns-in-Err
returns-in-Err g c = record {
  owing = λ config item moment before makes. (
    None,
    refl,
    (c.send_fault.ensures.0, c.send_fault.ensures.1),
    answers_failed config item moment (g.O.Outlet.taken c.args.out.now) (g.O.Outlet.failures c.args.out.now) (g.A.Archive.condition before) (g.A.Archive.condition c.args.store.now)
        (g.O.Outlet.taken c.send_fault.new.out) (g.O.Outlet.failures c.send_fault.new.out) c.in-Err.fault c.send_fault.result (rw c.in-Err.is at makes) c.send_fault.ensures,
  );
  begins = λ config item moment before makes. tt;
  at_once = λ _. refl;
}
