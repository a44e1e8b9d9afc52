use Rattle.std.proofs.Common.{sym, ◌∙◌, refl, subst, IsTrue}
use denote.Param.Always.{mut_next}
use Rattle.dep_types.specs.Conditions.{HasCleanDisk}
use Rattle.dep_connection.specs.Conversation.{MayShow, outflow, wire, standing}
use Rattle.dep_hub.specs.Representing.{store_of}
use Rattle.dep_hub.proofs.HubLemmas.{same_represents}
use Rattle.dep_exchange.proofs.Leaving.{stays_as}
use Rattle.dep_connection.proofs.TalkLemmas.{serves_whole, unserved, next_served, clocks_keep}
use Rattle.dep_connection.proofs.connection.serve_connection.Goals as goal
use Rattle.dep_connection.proofs.connection.serve_connection.Given as given

pub returns : goal.returns
returns g c =
    let store = c.close.new.self.store in
    let talks = c.converse-served.ensures.talks in
    record {
      call = clocks_keep (given.C-step g) (given.C-IsAlwaysCallable g) (λ a m b s p. mut_next g.C.FnMut a tt m b b s refl p) _ _ _ talks.talk.moments c.requires;
      goes = record {
        config = c.close.ensures.kept.config ∙ (talks.talk.goes.config ∙ c.connect.ensures.config);
        clean = λ is_open.
            subst (λ (x : _). IsTrue (g.A.Archive.condition x).is_open) c.connect.ensures.store
            (talks.talk.goes.clean (subst (λ (x : _). IsTrue (g.A.Archive.condition x).is_open) c.close.ensures.kept.store is_open));
        honest = λ honest.
            subst (λ (x : _). HasCleanDisk (g.A.Archive.condition x)) c.connect.ensures.store
            (talks.talk.goes.honest (subst (λ (x : _). HasCleanDisk (g.A.Archive.condition x)) c.close.ensures.kept.store honest));
      };
      converses = serves_whole g.A.Archive.condition g.A.Archive.may_commit (MayShow g.W.Outlet g.W.Flush.held g.W.Flush.has_failed) _ c.in-Ok-connect.connection
          (standing g.R.Inlet g.W.Outlet g.W.Flush.held g.W.Flush.has_failed c.args.hub.now c.args.reader.now c.args.writer.now c.args.clock.now)
          c.connect.new.self c.converse-served.new.hub c.close.new.self _ c.converse-served.new.clock
          c.in-Ok-connect.ensures.next.0 c.in-Ok-connect.ensures.fresh c.in-Ok-connect.ensures.moves c.close.ensures.moves
          (g.met.A.Archive.settled c.connect.new.self.store)
          (g.met.A.Archive.honest_if_open store)
          c.connect.ensures.config (c.close.ensures.kept.config ∙ (talks.talk.goes.config ∙ c.connect.ensures.config)) c.close.ensures.kept.store c.connect.ensures.store c.close.ensures.gone
          c.converse-served.result talks;
      next = c.close.ensures.kept.next ∙ (talks.talk.goes.next ∙ (c.in-Ok-connect.ensures.next.1
          ∙ sym (next_served g.A.Archive.condition _ _ _ c.in-Ok-connect.connection _ _ c.converse-served.result talks c.args.hub.now.next)));
      flushed = c.converse-served.ensures.flushed;
    }

-- no connection was opened
pub returns-in_default-connect : goal.returns-in_default-connect
returns-in_default-connect g c = record {
  call = c.requires;
  goes = record {
    config = c.connect.ensures.config;
    clean = λ is_open. subst (λ (x : _). IsTrue (g.A.Archive.condition x).is_open) c.connect.ensures.store is_open;
    honest = λ honest. subst (λ (x : _). HasCleanDisk (g.A.Archive.condition x)) c.connect.ensures.store honest;
  };
  converses = unserved g.A.Archive.condition c.args.clock.now c.args.hub.now c.connect.new.self (wire g.R.Inlet c.args.reader.now (outflow g.W.Outlet g.W.Flush.held g.W.Flush.has_failed c.args.writer.now))
      c.in_default-connect.ensures.same c.connect.ensures.store c.connect.ensures.rests (same_represents g.A.Archive.condition c.args.hub.now c.connect.new.self c.connect.ensures.config c.in_default-connect.ensures.same);
  next = c.in_default-connect.ensures.kept;
  flushed = λ h. h;
}

-- there was no memory for its pieces
pub returns-in_default : goal.returns-in_default
returns-in_default g c = record {
  call = c.requires;
  goes = record { config = refl; clean = λ is_open. is_open; honest = λ honest. honest };
  converses = unserved g.A.Archive.condition c.args.clock.now c.args.hub.now c.args.hub.now (wire g.R.Inlet c.args.reader.now (outflow g.W.Outlet g.W.Flush.held g.W.Flush.has_failed c.args.writer.now))
      (λ w at. at) refl (λ w at. stays_as (store_of g.A.Archive.condition c.args.hub.now) w.state (g.met.A.Archive.settled c.args.hub.now.store) at.state)
      (λ first records h. h);
  next = refl;
  flushed = λ h. h;
}
