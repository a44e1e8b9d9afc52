use Rattle.std.proofs.Common.{◌≡◌, Option, false, [], refl, sym, subst}
use Rattle.std.proofs.lemmas.Result.{IfOk-weaker}
use Rattle.dep_slot.specs.Causes.{causes_of}
use Rattle.dep_host.specs.Rounds.{is_overdue}
use Rattle.std.specs.List.{AllByRecursion}
use Rattle.dep_host.specs.Coming.{IsFresh, seconds_of}
use Rattle.dep_host.specs.Actions.{position}
use Rattle.dep_host.specs.Hosting.{GoesRound}
use Rattle.dep_host.specs.declared.events.Event.{Event}
use Rattle.dep_host.specs.Meeting.{MayEnd, wakes, makes_round, stops}
use Rattle.dep_host.proofs.RoundLemmas.{all_round, all_stop}
use Rattle.dep_host.proofs.MeetLemmas.{meets_as, round_met, offer_kept}
use Rattle.dep_host.proofs.serving.meet.Goals as goal

pub returns-in-Ready-clause-met : goal.returns-in-Ready-clause-met
returns-in-Ready-clause-met g c = meets_as g.A.Archive.condition g.R.Source.unread g.K.Sink.taken g.S.Spool.held g.A.Archive.call_log g.S.Spool.size (causes_of g.R.Source.halts g.K.Sink.halts g.S.Spool.failures) g.L.HostLog.notes _ _ _ _ c.args.now.vacancy c.args.event _ c.in-Ready.is ([], wakes c.set_ready.ensures refl)

pub returns-in-Client-clause-met : goal.returns-in-Client-clause-met
returns-in-Client-clause-met g c = meets_as g.A.Archive.condition g.R.Source.unread g.K.Sink.taken g.S.Spool.held g.A.Archive.call_log g.S.Spool.size (causes_of g.R.Source.halts g.K.Sink.halts g.S.Spool.failures) g.L.HostLog.notes _ _ _ _ c.args.now.vacancy c.args.event _ c.in-Client.is c.let_in.ensures

pub returns-in-End-clause-met : goal.returns-in-End-clause-met
returns-in-End-clause-met g c = (c.in-End.is, refl, refl)

pub returns-in-Round-clause-met : goal.returns-in-Round-clause-met
returns-in-Round-clause-met g c = round_met g.A.Archive.condition g.R.Source.unread g.K.Sink.taken g.S.Spool.held g.A.Archive.call_log g.S.Spool.size (causes_of g.R.Source.halts g.K.Sink.halts g.S.Spool.failures) g.L.HostLog.notes _ _ _ _ c.args.now.vacancy c.args.event c.wind_up-next.result c.wind_up-next.ensures.end c.wind_up-next.ensures.unspent
    (meets_as g.A.Archive.condition g.R.Source.unread g.K.Sink.taken g.S.Spool.held g.A.Archive.call_log g.S.Spool.size (causes_of g.R.Source.halts g.K.Sink.halts g.S.Spool.failures) g.L.HostLog.notes _ _ _ _ c.args.now.vacancy c.args.event _ c.in-Round.is (
      _,
      makes_round (record {
        mid = c.round-is_busy.new.self;
        goes = subst (λ (o : Option _). GoesRound g.A.Archive.condition g.R.Source.unread g.K.Sink.taken g.S.Spool.held g.S.Spool.size (causes_of g.R.Source.halts g.K.Sink.halts g.S.Spool.failures) (position c.args.host.now) (position c.round-is_busy.new.self) c.args.host.now.first c.round-is_busy.new.self.first c.in-Round.time (g.L.HostLog.notes c.args.log.now) o) (sym c.let_rest.ensures) c.round-is_busy.ensures.goes;
        left = c.round-is_busy.ensures.left;
        stays = c.round-is_busy.ensures.stays;
        asks = c.ask_on-is_left.ensures.asks;
      }),
    ))

pub returns-in-Ready-clause-vacant : goal.returns-in-Ready-clause-vacant
returns-in-Ready-clause-vacant g c = offer_kept c.args.host.now c.set_ready.new.self _ _ _ _ c.requires.vacant c.set_ready.ensures

pub returns-in-Round-clause-time : goal.returns-in-Round-clause-time
returns-in-Round-clause-time g c =
    IfOk-weaker c.wind_up-next.result _ _ (λ next h. all_round (λ second. is_overdue c.ask_on-is_left.new.host.shut second c.ask_on-is_left.new.host.limits ≡ false) c.args.event c.in-Round.time c.in-Round.is h) c.wind_up-next.ensures.time

pub returns-in-Round-clause-shut : goal.returns-in-Round-clause-shut
returns-in-Round-clause-shut g c = λ why ends. subst (λ (event : Event _ _ _). MayEnd c.ask_on-is_left.new.host why (seconds_of event)) (sym c.in-Round.is) (c.wind_up-next.ensures.shut why ends)

pub returns-in-Stop-clause-met : goal.returns-in-Stop-clause-met
returns-in-Stop-clause-met g c = round_met g.A.Archive.condition g.R.Source.unread g.K.Sink.taken g.S.Spool.held g.A.Archive.call_log g.S.Spool.size (causes_of g.R.Source.halts g.K.Sink.halts g.S.Spool.failures) g.L.HostLog.notes _ _ _ _ c.args.now.vacancy c.args.event c.wind_up.result c.wind_up.ensures.end c.wind_up.ensures.unspent
    (meets_as g.A.Archive.condition g.R.Source.unread g.K.Sink.taken g.S.Spool.held g.A.Archive.call_log g.S.Spool.size (causes_of g.R.Source.halts g.K.Sink.halts g.S.Spool.failures) g.L.HostLog.notes _ _ _ _ c.args.now.vacancy c.args.event _ c.in-Stop.is ([], stops c.stop.ensures refl))

pub returns-in-Stop-clause-time : goal.returns-in-Stop-clause-time
returns-in-Stop-clause-time g c =
    IfOk-weaker c.wind_up.result _ _ (λ next h. all_stop (λ second. is_overdue c.stop.new.self.shut second c.stop.new.self.limits ≡ false) c.args.event c.in-Stop.second c.in-Stop.is h) c.wind_up.ensures.time

pub returns-in-Stop-clause-shut : goal.returns-in-Stop-clause-shut
returns-in-Stop-clause-shut g c = λ why ends. subst (λ (event : Event _ _ _). MayEnd c.stop.new.self why (seconds_of event)) (sym c.in-Stop.is) (c.wind_up.ensures.shut why ends)

-- ---- the other clauses

pub returns-in-Ready-clause-idle : goal.returns-in-Ready-clause-idle
returns-in-Ready-clause-idle g c = λ e. cc

pub returns-in-Ready-clause-shut : goal.returns-in-Ready-clause-shut
returns-in-Ready-clause-shut g c = λ why e. cc

pub returns-in-Ready-clause-time : goal.returns-in-Ready-clause-time
returns-in-Ready-clause-time g c =
    subst (λ (event : Event _ _ _). AllByRecursion (λ second. is_overdue c.set_ready.new.self.shut second c.set_ready.new.self.limits ≡ false) (seconds_of event)) (sym c.in-Ready.is) tt

pub let_in-requires-clause-fresh : goal.let_in-requires-clause-fresh
let_in-requires-clause-fresh g c = subst (λ (event : Event _ _ _). IsFresh g.K.Sink.taken g.S.Spool.held event) c.in-Client.is c.requires.fresh

pub let_in-requires-clause-vacant : goal.let_in-requires-clause-vacant
let_in-requires-clause-vacant g c = c.requires.vacant

pub returns-in-Client-clause-vacant : goal.returns-in-Client-clause-vacant
returns-in-Client-clause-vacant g c = c.vacancy.ensures

pub returns-in-Client-clause-idle : goal.returns-in-Client-clause-idle
returns-in-Client-clause-idle g c = λ e. cc

pub returns-in-Client-clause-shut : goal.returns-in-Client-clause-shut
returns-in-Client-clause-shut g c = λ why e. cc

pub returns-in-Client-clause-time : goal.returns-in-Client-clause-time
returns-in-Client-clause-time g c =
    subst (λ (event : Event _ _ _). AllByRecursion (λ second. is_overdue c.let_in.new.host.shut second c.let_in.new.host.limits ≡ false) (seconds_of event)) (sym c.in-Client.is) tt

pub returns-in-Round-clause-vacant : goal.returns-in-Round-clause-vacant
returns-in-Round-clause-vacant g c = c.wind_up-next.ensures.vacant

pub returns-in-Round-clause-idle : goal.returns-in-Round-clause-idle
returns-in-Round-clause-idle g c = c.wind_up-next.ensures.idle

pub wind_up-requires : goal.wind_up-requires
wind_up-requires g c = record { idle = λ e. cc }

pub returns-in-Stop-clause-vacant : goal.returns-in-Stop-clause-vacant
returns-in-Stop-clause-vacant g c = c.wind_up.ensures.vacant

pub returns-in-Stop-clause-idle : goal.returns-in-Stop-clause-idle
returns-in-Stop-clause-idle g c = c.wind_up.ensures.idle

pub returns-in-End-clause-vacant : goal.returns-in-End-clause-vacant
returns-in-End-clause-vacant g c = tt

pub returns-in-End-clause-idle : goal.returns-in-End-clause-idle
returns-in-End-clause-idle g c = tt

pub returns-in-End-clause-shut : goal.returns-in-End-clause-shut
returns-in-End-clause-shut g c = λ why e. cc

pub returns-in-End-clause-time : goal.returns-in-End-clause-time
returns-in-End-clause-time g c = tt
