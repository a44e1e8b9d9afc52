use Rattle.std.proofs.Common.{[], rules, sym, ap, refl, ◌∙◌}
use Rattle.dep_slot.specs.Causes.{causes_of}
use Rattle.dep_sockets.specs.Acceptors.{not_begun, not_let_in}
use Rattle.dep_sockets.proofs.AcceptorLemmas.{ends_at, met_since, went_on}
use Rattle.dep_sockets.proofs.hosting.serve_hub.Goals as goal

pub returns-in-Err : goal.returns-in-Err
returns-in-Err g c =
    let ends = not_begun (c.into_store.ensures.same ∙ ap (λ h. h.store) c.in-Err.ensures.kept) refl in
    record { ends = ([], ends, went_on g.A.Archive.condition g.R.Source.unread g.K.Sink.taken g.P.Spool.held g.A.Archive.call_log g.P.Spool.size (causes_of g.R.Source.halts g.K.Sink.halts g.P.Spool.failures) g.L.HostLog.notes c.args.hub c.into_store.result ends c.hosts_make_a_run.ensures c.nothing_held.ensures.holds) }

pub returns-in_default : goal.returns-in_default
returns-in_default g c =
    let ends = not_begun (c.into_store-in_default.ensures.same ∙ ap (λ h. h.store) (c.into_hub.ensures ∙ c.in-Ok.ensures.hub)) refl in
    record { ends = ([], ends, went_on g.A.Archive.condition g.R.Source.unread g.K.Sink.taken g.P.Spool.held g.A.Archive.call_log g.P.Spool.size (causes_of g.R.Source.halts g.K.Sink.halts g.P.Spool.failures) g.L.HostLog.notes c.args.hub c.into_store-in_default.result ends c.hosts_make_a_run.ensures c.nothing_held.ensures.holds) }

pub returns-then-not-is_open : goal.returns-then-not-is_open
returns-then-not-is_open g c =
    let ends = not_let_in (c.into_store-then-not-is_open.ensures.same ∙ ap (λ h. h.store) (c.into_hub-then-not-is_open.ensures ∙ c.in-Ok.ensures.hub))
    (sym c.open-is_open.ensures.reported ∙ search rules) c.open-is_open.ensures.given in
    record { ends = ([], ends, went_on g.A.Archive.condition g.R.Source.unread g.K.Sink.taken g.P.Spool.held g.A.Archive.call_log g.P.Spool.size (causes_of g.R.Source.halts g.K.Sink.halts g.P.Spool.failures) g.L.HostLog.notes c.args.hub c.into_store-then-not-is_open.result ends c.hosts_make_a_run.ensures c.nothing_held.ensures.holds) }

pub returns : goal.returns
returns g c =
    let run = c.serve-ended.ensures.met in
    let ends = ends_at g.A.Archive.condition g.R.Source.unread g.K.Sink.taken g.P.Spool.held g.A.Archive.call_log g.P.Spool.size (causes_of g.R.Source.halts g.K.Sink.halts g.P.Spool.failures) g.L.HostLog.notes c.args.hub c.into_store-2.result c.serve-ended.result
    (record {
      first = c.in-Ok.host;
      last = c.serve-ended.new.host;
      log = c.acceptor.new.self;
      last_log = c.serve-ended.new.log;
      over = c.in-Ok.ensures.hub;
      within = c.in-Ok.ensures.limits;
      unreported = c.in-Ok.ensures.unreported;
      empty = c.in-Ok.ensures.empty;
      noted = c.acceptor.ensures.noted;
      last_noted = c.ended-2.ensures.noted;
      met = met_since g.A.Archive.condition g.R.Source.unread g.K.Sink.taken g.P.Spool.held g.A.Archive.call_log g.P.Spool.size (causes_of g.R.Source.halts g.K.Sink.halts g.P.Spool.failures) g.L.HostLog.notes c.open-is_open.ensures.given run.1;
      left = c.into_store-2.ensures.same ∙ ap (λ h. h.store) c.into_hub-2.ensures;
    })
    c.serve-ended.ensures.end (λ is. c.serve-ended.ensures.shut is c.in-Ok.ensures.unreported) c.was_cut.result c.was_cut.ensures c.outcome_at-outcome.result c.outcome_at-outcome.ensures in
    record {
      ends = (
        run.0,
        ends,
        went_on g.A.Archive.condition g.R.Source.unread g.K.Sink.taken g.P.Spool.held g.A.Archive.call_log g.P.Spool.size (causes_of g.R.Source.halts g.K.Sink.halts g.P.Spool.failures) g.L.HostLog.notes c.args.hub c.into_store-2.result ends c.hosts_make_a_run.ensures c.nothing_held.ensures.holds,
      );
    }
