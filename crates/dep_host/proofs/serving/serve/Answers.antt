use Rattle.std.proofs.Common.{◌≡◌, true, false, rules, [], Err, refl, ap, ◌∙◌}
use Rattle.dep_hub.specs.Representing.{IsClean}
use Rattle.dep_slot.specs.Causes.{causes_of}
use Rattle.dep_host.proofs.CloseLemmas.{promised}
use Rattle.dep_host.proofs.ShutLemmas.{steps_rightly, reported_by_store, unreported_rightly}
use Rattle.dep_host.proofs.MeetLemmas.{met_none, met_next, met_last, met_all, is_the_end}
use Rattle.dep_host.specs.Meeting.{most_events}
use Rattle.dep_host.specs.declared.ending.Cause.TheVariants.{Store}
use Rattle.dep_host.specs.declared.serving.Ended.TheVariants.{Events, Shut, Spent}
use Rattle.dep_host.proofs.serving.serve.Goals as goal

pub loop-count-init : goal.loop-count-init
loop-count-init g c = record {
  met = ([], met_none g.A.Archive.condition g.R.Source.unread g.K.Sink.taken g.S.Spool.held g.A.Archive.call_log g.S.Spool.size (causes_of g.R.Source.halts g.K.Sink.halts g.S.Spool.failures) g.L.HostLog.notes _ _ _);
  vacant = c.vacancy.ensures;
  idle = λ idle. let bad : true ≡ false = idle in cc;
}

pub loop-count-preserved : goal.loop-count-preserved
loop-count-preserved g c = record {
  met = met_next g.A.Archive.condition g.R.Source.unread g.K.Sink.taken g.S.Spool.held g.A.Archive.call_log g.S.Spool.size (causes_of g.R.Source.halts g.K.Sink.halts g.S.Spool.failures) g.L.HostLog.notes _ _ _ _ _ _ _ _ _ _ _ _ c.loop-count.invariant.met c.next-event.ensures.given
      (record { offered = c.loop-count.invariant.vacant; idle = c.loop-count.invariant.idle }) c.in-Ok.ensures.met c.in-Ok.ensures.time refl;
  vacant = c.in-Ok.ensures.vacant;
  idle = c.in-Ok.ensures.idle;
}

pub returns-in-Err : goal.returns-in-Err
returns-in-Err g c =
    let met = met_last g.A.Archive.condition g.R.Source.unread g.K.Sink.taken g.S.Spool.held g.A.Archive.call_log g.S.Spool.size (causes_of g.R.Source.halts g.K.Sink.halts g.S.Spool.failures) g.L.HostLog.notes _ _ _ _ _ _ _ _ _ _ _ _ most_events c.in-Err.ended c.meet.result c.in-Err.is c.loop-count.invariant.met.1 c.next-event.ensures.given (record { offered = c.loop-count.invariant.vacant; idle = c.loop-count.invariant.idle }) c.meet.ensures.met c.meet.ensures.shut in
    record {
      met = met;
      goes = (met.0, met.1.steps);
      promise = promised g.A.Archive.condition g.R.Source.unread g.K.Sink.taken g.S.Spool.held c.hosts_keep_the_archive_promise.ensures _ _ (met.0, met.1.steps);
      end = λ e. c.next-event.ensures.end (is_the_end g.A.Archive.condition g.R.Source.unread g.K.Sink.taken g.S.Spool.held g.A.Archive.call_log g.S.Spool.size (causes_of g.R.Source.halts g.K.Sink.halts g.S.Spool.failures) g.L.HostLog.notes _ _ _ _ _ c.next-event.result c.meet.result (c.in-Err.is ∙ ap Err e) c.meet.ensures.met);
      shut = λ ends none.
          let may = c.meet.ensures.shut Store (c.in-Err.is ∙ ap Err ends) in
          reported_by_store (IsClean g.A.Archive.condition c.meet.new.host.hub) c.meet.new.host.shut may.0 (steps_rightly g.A.Archive.condition g.R.Source.unread g.K.Sink.taken g.S.Spool.held met.1.steps (unreported_rightly _ _ none));
    }

pub returns : goal.returns
returns g c =
    let met = c.loop-count.invariant.met in
    let all : c.loop-count.count ≡ most_events = search rules in
    record {
      met = met_all g.A.Archive.condition g.R.Source.unread g.K.Sink.taken g.S.Spool.held g.A.Archive.call_log g.S.Spool.size (causes_of g.R.Source.halts g.K.Sink.halts g.S.Spool.failures) g.L.HostLog.notes _ _ _ _ _ _ _ _ all met;
      goes = (met.0, met.1.steps);
      promise = promised g.A.Archive.condition g.R.Source.unread g.K.Sink.taken g.S.Spool.held c.hosts_keep_the_archive_promise.ensures _ _ (met.0, met.1.steps);
      end = λ e. let bad : Spent ≡ Events = e in cc;
      shut = λ e none. let bad : Spent ≡ Shut Store = e in cc;
    }
