use Rattle.std.proofs.Common.{[], refl}
use Rattle.dep_slot.specs.Causes.{causes_of}
use Rattle.dep_host.specs.Meeting.{turns_away}
use Rattle.dep_host.proofs.HostLemmas.{untouched, stays_same}
use Rattle.dep_host.proofs.MeetLemmas.{admitted, may_refuse, none_offered}
use Rattle.dep_host.proofs.serving.let_in.Goals as goal

pub returns-in-Some : goal.returns-in-Some
returns-in-Some g c = admitted g.A.Archive.condition g.R.Source.unread g.K.Sink.taken g.S.Spool.held g.A.Archive.call_log g.S.Spool.size (causes_of g.R.Source.halts g.K.Sink.halts g.S.Spool.failures) g.L.HostLog.notes _ _ _ _ c.args.vacancy c.in-Some.at c.args.client c.admit-reported.result c.in-Some.is c.admit-reported.ensures

pub returns-in-None : goal.returns-in-None
returns-in-None g c = (
  [],
  turns_away (record {
    keeps = untouched g.A.Archive.condition g.R.Source.unread g.K.Sink.taken g.S.Spool.held _ _ refl refl refl refl;
    may = may_refuse c.args.host.now c.args.client c.refusal.result c.refusal.ensures (none_offered c.args.host.now c.args.vacancy c.in-None.is c.requires.vacant);
    stays = stays_same _;
    noted = c.refused.ensures.noted;
  }),
)
