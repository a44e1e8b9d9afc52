use Rattle.std.proofs.Common.{◌≡◌, ◌==◌, ℕ, if◌then◌else◌, [], None, refl, sym, ap, subst, set, ◌∙◌}
use Rattle.std.proofs.lemmas.List.{get_or-set_same, get_or-set_other}
use Rattle.dep_exchange.specs.Records.{Absent}
use Rattle.dep_hub.specs.Holding.{LineTransition, with_held}
use Rattle.dep_hub.specs.RepresentsOwing.{behind_at}
use Rattle.dep_hub.specs.declared.rest.Behind.TheVariants.{Nothing}
use Rattle.dep_host.specs.Actions.{position}
use Rattle.dep_host.specs.Hosting.{MayGo}
use Rattle.dep_host.proofs.HostLemmas.{within_still, free_once_left, slot_read, nobody_may_go, closing, stays_set}
use Rattle.dep_host.proofs.host.Host.close.Goals as goal

pub returns-in-Some-clause-goes : goal.returns-in-Some-clause-goes
returns-in-Some-clause-goes g c = record {
  goes =
      let sat = slot_read _ _ _ c.requires.there c.index_mut.ensures.value ∙ (sym c.take.ensures.value ∙ c.in-Some.is) in
      closing g.A.Archive.condition g.R.Source.unread g.K.Sink.taken g.S.Spool.held _ _ c.args.at c.args.second c.args.closing _ c.in-Some.slot sat (record {
        there = c.requires.there;
        sat = sat;
        gone = ap (λ y. set c.args.self.now.slots.items c.args.at y) c.take.ensures.after;
        done = subst (λ o. MayGo (position c.args.self.now) c.args.second c.args.closing o) sat c.requires.done;
        next = c.close.ensures.kept.next;
        moves = subst (λ (n : ℕ). LineTransition g.A.Archive.condition c.args.self.now.hub c.close.new.self n Absent (with_held n [])) c.connection-connection.ensures c.close.ensures.holding;
        behind = subst (λ (n : ℕ). (number : ℕ) → behind_at c.close.new.self.connections.items number ≡ (if number == n then Nothing else behind_at c.args.self.now.hub.connections.items number)) c.connection-connection.ensures c.close.ensures.behind;
        same_store = c.close.ensures.kept.store;
        same_config = c.close.ensures.kept.config;
        same_limits = refl;
        same_shut = refl;
      });
  gone = get_or-set_same _ c.args.at _ None c.requires.there ∙ c.take.ensures.after;
  others = λ place ne. get_or-set_other _ c.args.at place _ None ne;
  stays = stays_set _ _ c.args.at _ refl refl refl refl refl;
}

pub returns-in_default-clause-goes : goal.returns-in_default-clause-goes
returns-in_default-clause-goes g c = absurd (nobody_may_go _ c.args.second c.args.closing _ c.requires.done
    (slot_read _ _ _ c.requires.there c.index_mut.ensures.value ∙ (sym c.take.ensures.value ∙ c.in_default.is)))

pub invariant_of-self : goal.invariant_of-self
invariant_of-self g c = record {
  within = within_still _ c.args.at _ _ c.args.self.now.within;
  free = free_once_left _ c.args.at _ _ c.requires.there c.take.ensures.after c.args.self.now.free;
}

pub invariant_of-self-in_default : goal.invariant_of-self-in_default
invariant_of-self-in_default g c = absurd (nobody_may_go _ c.args.second c.args.closing _ c.requires.done
    (slot_read _ _ _ c.requires.there c.index_mut.ensures.value ∙ (sym c.take.ensures.value ∙ c.in_default.is)))

pub returns-in_default-clause-noted : goal.returns-in_default-clause-noted
returns-in_default-clause-noted g c = absurd (nobody_may_go _ c.args.second c.args.closing _ c.requires.done
    (slot_read _ _ _ c.requires.there c.index_mut.ensures.value ∙ (sym c.take.ensures.value ∙ c.in_default.is)))
