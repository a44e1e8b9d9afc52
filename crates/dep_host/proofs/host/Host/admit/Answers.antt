use Rattle.std.proofs.Common.{◌≡◌, Option, None, set, ap, refl, sym, subst, [], ◌∷◌, ◌∙◌, arith}
use Rattle.std.proofs.Math.ListN.{length-set}
use Rattle.std.proofs.lemmas.List.{get_or-set_other}
use Rattle.std.specs.Io.KnownBytes.{IsAtEnd}
use Rattle.dep_exchange.specs.Records.{Live}
use Rattle.dep_hub.specs.Holding.{LineTransition}
use Rattle.dep_outbox.specs.Wires.{reported}
use Rattle.dep_slot.specs.Notes.{GrowsWhereShown, LetIn}
use Rattle.dep_slot.specs.declared.log.Rejection.{Rejection}
use Rattle.dep_slot.specs.declared.log.Rejection.TheVariants.{Address}
use Rattle.dep_host.specs.Meeting.{MayRefuse}
use Rattle.dep_hub.specs.Representing.{intake_of}
use Rattle.dep_host.proofs.HostLemmas.{nothing_behind, untouched, unopened, stays_same, stays_set}
use Rattle.dep_host.proofs.MeetLemmas.{hub_refuses, turned}
use Rattle.dep_host.proofs.host.Host.admit.Goals as goal

pub returns-then-slots_from-self : goal.returns-then-slots_from-self
returns-then-slots_from-self g c =
    turned g.A.Archive.condition g.R.Source.unread g.K.Sink.taken g.S.Spool.held g.L.HostLog.notes _ _ _ _ c.args.at c.args.client Address _ c.reject.ensures.same (record {
      keeps = untouched g.A.Archive.condition g.R.Source.unread g.K.Sink.taken g.S.Spool.held _ _ refl refl refl refl;
      may = omega (arith, c.slots_from.ensures, c.if-slots_from-self.true);
      stays = stays_same _;
      noted = c.reject.ensures.noted;
    })

pub returns-in-Err : goal.returns-in-Err
returns-in-Err g c =
    turned g.A.Archive.condition g.R.Source.unread g.K.Sink.taken g.S.Spool.held g.L.HostLog.notes _ _ _ _ c.args.at c.args.client c.rejection_for.result _ c.reject-in-Err.ensures.same (record {
      keeps = unopened g.A.Archive.condition g.R.Source.unread g.K.Sink.taken g.S.Spool.held _ _ refl c.in-Err.ensures.kept c.connect.ensures.behind c.in-Err.ensures.holding c.connect.ensures.store c.connect.ensures.config refl refl;
      may = subst (λ (why : Rejection). MayRefuse c.args.self.now c.args.client why) (sym c.rejection_for.ensures) (hub_refuses c.args.self.now c.args.client c.in-Err.fault c.requires.vacant.2 c.in-Err.ensures.full);
      stays = record { places = refl; limits = refl; shut = refl; unanswered = refl; first = refl };
      noted = c.reject-in-Err.ensures.noted;
    })

pub returns : goal.returns
returns g c = record {
  slot = c.new.result;
  comes = record {
    there = c.requires.vacant.0;
    free = c.requires.vacant.1;
    sits = ap (λ (o : Option _). set c.args.self.now.slots.items c.args.at o) c.replace.ensures.after;
    is_next = c.new.ensures.number ∙ c.in-Ok.ensures.next.0;
    next = c.in-Ok.ensures.next.1;
    moves = subst (λ n. LineTransition g.A.Archive.condition c.args.self.now.hub c.connect.new.self n (Live []) (λ kept. kept)) (sym c.new.ensures.number) c.in-Ok.ensures.holding;
    unowed = nothing_behind _ _ c.new.result.connection (c.connect.ensures.behind c.new.result.connection)
        (subst (λ n. intake_of c.args.self.now.hub.connections.items n ≡ None) (sym c.new.ensures.number) c.in-Ok.ensures.fresh);
    behind = c.connect.ensures.behind;
    same_store = c.connect.ensures.store;
    same_config = c.connect.ensures.config;
    fresh = subst (λ w. IsAtEnd (reported g.K.Sink.taken g.S.Spool.held w)) (sym c.new.ensures.wire) c.requires.fresh;
    opens = c.new.ensures.phase;
    uncounted = c.new.ensures.unfinished;
    is_open = c.requires.vacant.2;
    same_limits = refl;
    same_shut = refl;
  };
  source = c.new.ensures.source;
  wire = c.new.ensures.wire;
  address = c.new.ensures.address;
  readable = c.new.ensures.readable;
  writable = c.new.ensures.writable;
  room = omega (arith, c.slots_from.ensures, c.if-slots_from-self.false);
  stays = stays_set _ _ c.args.at _ refl refl refl refl refl;
  noted = subst (λ n. GrowsWhereShown (g.L.HostLog.notes c.args.log.now) (g.L.HostLog.notes c.opened.new.self) (LetIn n c.args.client.address ∷ [])) (sym c.new.ensures.number) c.opened.ensures.noted;
}

pub invariant_of-self : goal.invariant_of-self
invariant_of-self g c = record { within = c.args.self.now.within; free = c.args.self.now.free }

pub invariant_of-self-2 : goal.invariant_of-self-2
invariant_of-self-2 g c =
    let end = c.max-self.ensures in
    record {
      within = omega (arith, end, c.requires.vacant.0, c.args.self.now.within, length-set c.args.self.now.slots.items c.args.at c.replace.new.dest);
      free = λ place h. get_or-set_other _ c.args.at place _ None (λ here. omega (arith, end, h, here)) ∙ c.args.self.now.free place (omega (arith, end, h));
    }
