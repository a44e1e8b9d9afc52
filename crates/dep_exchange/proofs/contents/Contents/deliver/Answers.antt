use Rattle.std.proofs.Common.{◌≡◌, None, Err, refl, ap, ◌∙◌}
use Rattle.std.proofs.lemmas.Result.{err_from_is_err_and}
use Rattle.dep_types.specs.StoreFaults.{stream_fault_for}
use Rattle.dep_types.specs.declared.stream_fault.StreamFault.{StreamFault}
use Rattle.dep_exchange.proofs.OwingLemmas.{err_keeps, in_steps, never_at_once, never_begun, none_streamed, ok_keeps, streamed_part, takes_none}
use Rattle.dep_exchange.proofs.contents.Contents.deliver.Goals as goal

-- sent at once
pub returns-in_ok-stream-in-AtOnce : goal.returns-in_ok-stream-in-AtOnce
returns-in_ok-stream-in-AtOnce g c =
    let sent = c.in_ok-stream-in-AtOnce.ensures in
    record {
      sends = (None, refl, sent.streams);
      begins = tt;
      at_once = λ _. refl;
      does = ok_keeps (g.A.Archive.condition c.args.store.now) (g.A.Archive.condition c.stream.new.self) None sent.does;
      takes = (sent.streams.0, sent.streams.1);
      kept = sent.count.kept;
    }

-- a part of it was sent
pub returns-in_err-stream-in-AtOnce : goal.returns-in_err-stream-in-AtOnce
returns-in_err-stream-in-AtOnce g c =
    let sent = c.in_err-stream-in-AtOnce.ensures in
    let fault = c.in_err-stream-in-AtOnce.field-0.0 in
    let is = err_from_is_err_and c.from_residual.result c.from_residual.ensures.1 in
    let same : c.from_residual.result ≡ Err fault = is.1 ∙ ap (λ (e : StreamFault). Err e) is.2 in
    rw same (record {
      sends = (None, refl, (sent.streams.0, sent.streams.1, λ disk s at. streamed_part s c.args.it.file sent.streams.0 fault (sent.streams.2 disk s at)));
      begins = tt;
      at_once = λ _. refl;
      does = err_keeps (g.A.Archive.condition c.args.store.now) (g.A.Archive.condition c.stream.new.self) fault sent.does;
      takes = (sent.streams.0, sent.streams.1);
      kept = tt;
    })

-- sent later
pub returns-in_ok-begin-in-InSteps : goal.returns-in_ok-begin-in-InSteps
returns-in_ok-begin-in-InSteps g c =
    let old = g.A.Archive.condition c.args.store.now in
    let new = g.A.Archive.condition c.begin.new.self in
    let begun = c.in_ok-begin-in-InSteps.ensures in
    record {
      sends = in_steps old new (g.O.Outlet.taken c.args.out.now) c.args.it begun.begins.0 begun.begins.1 (λ disk s at. (begun.does.ok disk s at tt).1);
      begins = refl;
      at_once = never_at_once c.in-InSteps.is;
      does = ok_keeps old new _ begun.does;
      takes = takes_none (g.O.Outlet.taken c.args.out.now);
      kept = refl;
    }

-- not found
pub returns-in_err-begin-in-InSteps : goal.returns-in_err-begin-in-InSteps
returns-in_err-begin-in-InSteps g c =
    let old = g.A.Archive.condition c.args.store.now in
    let new = g.A.Archive.condition c.begin.new.self in
    let fault = c.in_err-begin-in-InSteps.field-0.0 in
    let residual = c.from_residual-in_err-begin-in-InSteps in
    let is = err_from_is_err_and residual.result residual.ensures.1 in
    let same : residual.result ≡ Err (stream_fault_for fault) = is.1 ∙ ap (λ (e : StreamFault). Err e) is.2 in
    rw same (record {
      sends = never_begun old new (g.O.Outlet.taken c.args.out.now) c.args.it (stream_fault_for fault) (λ s. none_streamed s c.args.it.file fault);
      begins = tt;
      at_once = never_at_once c.in-InSteps.is;
      does = err_keeps old new (stream_fault_for fault) c.in_err-begin-in-InSteps.ensures.does;
      takes = takes_none (g.O.Outlet.taken c.args.out.now);
      kept = tt;
    })
