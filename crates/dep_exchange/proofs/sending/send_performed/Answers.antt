use Rattle.std.proofs.Common.{◌≡◌, None, Some, refl, sym, ap, ◌∙◌}
use Rattle.dep_answers.specs.declared.performed.StoredFile.{StoredFile}
use Rattle.dep_exchange.specs.Sending.{outside}
use Rattle.dep_exchange.specs.Owing.{with_more}
use Rattle.dep_exchange.proofs.Leaving.{leaves_once}
use Rattle.dep_exchange.proofs.OwingLemmas.{takes_both}
use Rattle.dep_exchange.proofs.SendingLemmas.{ready_all, ready_cut, ready_front, front_cut}
use Rattle.dep_exchange.proofs.BeginLemmas.{begins_as}
use Rattle.dep_exchange.proofs.sending.send_performed.Goals as goal

pub returns-in-Ok : goal.returns-in-Ok
returns-in-Ok g c =
    let old = g.A.Archive.condition c.args.store.now in
    let new = g.A.Archive.condition c.deliver.new.store in
    let x = c.in-Ok.ensures.sends in record {
      owing = (
        x.0,
        x.1,
        takes_both (g.O.Outlet.taken c.args.out.now) (g.O.Outlet.taken c.send.new.out) (g.O.Outlet.taken c.deliver.new.out)
            (c.in-Sent.ensures.sends.0, c.in-Sent.ensures.sends.1) c.deliver.ensures.takes,
        ready_all (outside (g.O.Outlet.taken c.args.out.now) (g.O.Outlet.failures c.args.out.now) old) (outside (g.O.Outlet.taken c.send.new.out) (g.O.Outlet.failures c.send.new.out) old)
            (outside (with_more (g.O.Outlet.taken c.deliver.new.out) x.0) (g.O.Outlet.failures c.deliver.new.out) new) c.args.performed.now c.in-Some.it c.in-Some.is
            c.as_slice.result.now c.as_slice.ensures.value c.in-Sent.ensures.sends (c.in-Sent.ensures.kept refl) refl c.deliver.ensures.does.honest c.deliver.ensures.does.was_open
            x.2 (λ disk s at. (c.in-Ok.ensures.does.ok disk s at tt).1) c.in-Ok.ensures.kept,
      );
      begins = begins_as (λ r. r.file ≡ c.in-Some.it) (λ r. c.args.performed.now.stored ≡ Some r.file) c.in-Ok.rest
          (λ r is. c.in-Some.is ∙ ap (λ (it : StoredFile). Some it) (sym is)) c.in-Ok.ensures.begins;
      at_once = c.in-Ok.ensures.at_once;
    }

pub returns-in-Err : goal.returns-in-Err
returns-in-Err g c =
    let old = g.A.Archive.condition c.args.store.now in
    let new = g.A.Archive.condition c.deliver.new.store in
    let x = c.in-Err.ensures.sends in record {
      owing = (
        x.0,
        x.1,
        takes_both (g.O.Outlet.taken c.args.out.now) (g.O.Outlet.taken c.send.new.out) (g.O.Outlet.taken c.deliver.new.out)
            (c.in-Sent.ensures.sends.0, c.in-Sent.ensures.sends.1) c.deliver.ensures.takes,
        ready_cut (outside (g.O.Outlet.taken c.args.out.now) (g.O.Outlet.failures c.args.out.now) old) (outside (g.O.Outlet.taken c.send.new.out) (g.O.Outlet.failures c.send.new.out) old)
            (outside (with_more (g.O.Outlet.taken c.deliver.new.out) x.0) (g.O.Outlet.failures c.deliver.new.out) new) c.args.performed.now c.in-Some.it c.in-Some.is
            c.as_slice.result.now c.as_slice.ensures.value c.in-Sent.ensures.sends (c.in-Sent.ensures.kept refl) refl c.deliver.ensures.does.honest c.deliver.ensures.does.was_open
            _ x.2 c.in-Err.ensures.does.err (λ disk s at. leaves_once new s (c.in-Err.ensures.does.stop disk s at tt)),
      );
      begins = tt;
      at_once = λ _. refl;
    }

pub returns-in-None : goal.returns-in-None
returns-in-None g c = record {
  owing = (
    None,
    refl,
    (c.in-Sent.ensures.sends.0, c.in-Sent.ensures.sends.1),
    ready_front (g.O.Outlet.taken c.args.out.now) (g.O.Outlet.taken c.send.new.out) (g.O.Outlet.failures c.args.out.now) (g.O.Outlet.failures c.send.new.out)
        (g.A.Archive.condition c.args.store.now) c.args.performed.now c.as_slice.result.now c.as_slice.ensures.value c.in-None.is c.in-Sent.ensures.sends (c.in-Sent.ensures.kept refl),
  );
  begins = tt;
  at_once = λ _. refl;
}

pub returns-in_default : goal.returns-in_default
returns-in_default g c = record {
  owing = (
    None,
    refl,
    (c.send.ensures.sends.0, c.send.ensures.sends.1),
    front_cut (g.O.Outlet.taken c.args.out.now) (g.O.Outlet.taken c.send.new.out) (g.O.Outlet.failures c.args.out.now) (g.O.Outlet.failures c.send.new.out)
        (g.A.Archive.condition c.args.store.now) c.args.performed.now c.as_slice.result.now c.send.result c.as_slice.ensures.value
        (g.met.A.Archive.settled c.args.store.now) c.in_default.not-Sent c.send.ensures.sends c.send.ensures.cause,
  );
  begins = tt;
  at_once = λ _. refl;
}
