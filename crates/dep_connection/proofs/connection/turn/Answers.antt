use Rattle.std.proofs.Common.{inl, inr, IsSome, ℕ, List, Option, refl, sym, ap, subst, length, drop, ◌∙◌}
use Rattle.std.proofs.lemmas.List.{with_items_is}
use Rattle.dep_message.specs.Places.{Reading}
use Rattle.dep_connection.specs.Conversation.{MayShow, standing}
use Rattle.dep_exchange.specs.declared.arrived.Arrived.TheVariants.{Open as StaysOpen, Closed as HasClosed, Cut}
use Rattle.dep_connection.proofs.TurnLemmas.{has_room, some_room, read_whole, read_within, none_read, gives_bytes, gives_none, goes_then, goes_ahead, arrives_flushed, arrived_there, one_turn, no_turn}
use Rattle.dep_hub.proofs.HubLemmas.{none_there}
use Rattle.dep_connection.proofs.connection.turn.Goals as goal
use Rattle.dep_connection.proofs.connection.turn.Given as given

-- the connection goes on, and the store works ahead
pub returns-in-Open : goal.returns-in-Open
returns-in-Open g c = record {
  there = subst (λ (o : Option Reading). IsSome o) (sym (c.work_ahead-left.ensures.rests.intakes c.args.incoming.now.connection)) c.in-Open.ensures.arrival.is_there;
  same = refl;
  flushed = λ _. inl c.in_default.ensures.sends;
  turn = record {
    served = c.arrive-arrived.new.self;
    turn = one_turn g.A.Archive.condition g.A.Archive.may_commit (MayShow g.W.Outlet g.W.Flush.held g.W.Flush.has_failed) (given.C-step g) c.args.incoming.now.connection
        (standing g.R.Inlet g.W.Outlet g.W.Flush.held g.W.Flush.has_failed c.args.hub.now c.args.reader.now c.args.writer.now c.args.clock.now)
        (standing g.R.Inlet g.W.Outlet g.W.Flush.held g.W.Flush.has_failed c.arrive-arrived.new.self c.read.new.self c.flush.new.self c.clock-moment.new.self)
        StaysOpen c.in-Ok.n c.clock-moment.result c.read.new.buffer c.deref.result.now
        (read_whole c.args.incoming.now.buffer.len c.read.new.buffer (drop (length c.read.new.buffer) c.args.incoming.now.buffer.items) c.as_mut_slice.result.now c.deref.result.now c.deref.ensures.value c.read.auto.buffer c.as_mut_slice.ensures.len)
        (has_room c.read.new.buffer c.as_mut_slice.result.now c.args.incoming.now.buffer.items c.read.auto.buffer c.as_mut_slice.ensures.value c.args.incoming.now.room)
        c.in-Ok.ensures.bound.0 c.in-Ok.ensures.bound.1 c.in-Ok.n-test.1 c.in-Ok.ensures.bytes.0 c.read.ensures.count (c.in-Ok.ensures.last ∙ gives_bytes c.in-Ok.n c.in-Ok.n-test.1) c.clock-moment.ensures (inl c.in_default.ensures.sends) (c.flush.new.self, refl) (arrives_flushed g.A.Archive.condition _ _ _ _ _ _ _ _ _ _ _ _ c.flush.ensures.taken c.flush.ensures.failures c.in-Open.ensures.arrival);
    gone_out = c.in_default.ensures.ok;
    ahead = record {
      same_config = c.work_ahead-left.ensures.rests.config;
      same_intakes = c.work_ahead-left.ensures.rests.intakes;
      step = c.work_ahead-left.ensures.rests.step;
      store = c.work_ahead-left.ensures.rests.store;
      commits = c.work_ahead-left.ensures.commits;
    };
    goes = goes_then g.A.Archive.condition c.in-Open.ensures.arrival.goes (goes_ahead g.A.Archive.condition c.work_ahead-left.ensures.rests);
  };
}

-- a reply has closed it
pub returns-in-Closed : goal.returns-in-Closed
returns-in-Closed g c = record {
  there = c.in-Closed.ensures.arrival.is_there;
  same = refl;
  flushed = λ _. inl c.in_default.ensures.sends;
  turn = (
    one_turn g.A.Archive.condition g.A.Archive.may_commit (MayShow g.W.Outlet g.W.Flush.held g.W.Flush.has_failed) (given.C-step g) c.args.incoming.now.connection
        (standing g.R.Inlet g.W.Outlet g.W.Flush.held g.W.Flush.has_failed c.args.hub.now c.args.reader.now c.args.writer.now c.args.clock.now)
        (standing g.R.Inlet g.W.Outlet g.W.Flush.held g.W.Flush.has_failed c.arrive-arrived.new.self c.read.new.self c.flush.new.self c.clock-moment.new.self)
        HasClosed c.in-Ok.n c.clock-moment.result c.read.new.buffer c.deref.result.now
        (read_whole c.args.incoming.now.buffer.len c.read.new.buffer (drop (length c.read.new.buffer) c.args.incoming.now.buffer.items) c.as_mut_slice.result.now c.deref.result.now c.deref.ensures.value c.read.auto.buffer c.as_mut_slice.ensures.len)
        (has_room c.read.new.buffer c.as_mut_slice.result.now c.args.incoming.now.buffer.items c.read.auto.buffer c.as_mut_slice.ensures.value c.args.incoming.now.room)
        c.in-Ok.ensures.bound.0 c.in-Ok.ensures.bound.1 c.in-Ok.n-test.1 c.in-Ok.ensures.bytes.0 c.read.ensures.count (c.in-Ok.ensures.last ∙ gives_bytes c.in-Ok.n c.in-Ok.n-test.1) c.clock-moment.ensures (inl c.in_default.ensures.sends) (c.flush.new.self, refl) (arrives_flushed g.A.Archive.condition _ _ _ _ _ _ _ _ _ _ _ _ c.flush.ensures.taken c.flush.ensures.failures c.in-Closed.ensures.arrival),
    c.in_default.ensures.ok,
  );
}

-- a reply was cut
pub returns-in-Cut : goal.returns-in-Cut
returns-in-Cut g c = record {
  there = c.in-Cut.ensures.arrival.is_there;
  same = refl;
  flushed = λ _. inl c.in_default.ensures.sends;
  turn = record {
    answer = Cut;
    turn = one_turn g.A.Archive.condition g.A.Archive.may_commit (MayShow g.W.Outlet g.W.Flush.held g.W.Flush.has_failed) (given.C-step g) c.args.incoming.now.connection
        (standing g.R.Inlet g.W.Outlet g.W.Flush.held g.W.Flush.has_failed c.args.hub.now c.args.reader.now c.args.writer.now c.args.clock.now)
        (standing g.R.Inlet g.W.Outlet g.W.Flush.held g.W.Flush.has_failed c.arrive-arrived.new.self c.read.new.self c.flush.new.self c.clock-moment.new.self)
        Cut c.in-Ok.n c.clock-moment.result c.read.new.buffer c.deref.result.now
        (read_whole c.args.incoming.now.buffer.len c.read.new.buffer (drop (length c.read.new.buffer) c.args.incoming.now.buffer.items) c.as_mut_slice.result.now c.deref.result.now c.deref.ensures.value c.read.auto.buffer c.as_mut_slice.ensures.len)
        (has_room c.read.new.buffer c.as_mut_slice.result.now c.args.incoming.now.buffer.items c.read.auto.buffer c.as_mut_slice.ensures.value c.args.incoming.now.room)
        c.in-Ok.ensures.bound.0 c.in-Ok.ensures.bound.1 c.in-Ok.n-test.1 c.in-Ok.ensures.bytes.0 c.read.ensures.count (c.in-Ok.ensures.last ∙ gives_bytes c.in-Ok.n c.in-Ok.n-test.1) c.clock-moment.ensures (inl c.in_default.ensures.sends) (c.flush.new.self, refl) (arrives_flushed g.A.Archive.condition _ _ _ _ _ _ _ _ _ _ _ _ c.flush.ensures.taken c.flush.ensures.failures c.in-Cut.ensures.arrival);
    cut = inl refl;
  };
}

-- the outlet gave up
pub returns-in-Err-flush : goal.returns-in-Err-flush
returns-in-Err-flush g c = record {
  there = (arrived_there g.A.Archive.condition _ _ _ _ _ _ _ _ _ c.arrive-arrived.result c.requires.there c.arrive-arrived.ensures.arrival).is_there;
  same = refl;
  flushed = λ _. inr c.in-Err-flush.ensures.err;
  turn = record {
    answer = c.arrive-arrived.result;
    turn = one_turn g.A.Archive.condition g.A.Archive.may_commit (MayShow g.W.Outlet g.W.Flush.held g.W.Flush.has_failed) (given.C-step g) c.args.incoming.now.connection
        (standing g.R.Inlet g.W.Outlet g.W.Flush.held g.W.Flush.has_failed c.args.hub.now c.args.reader.now c.args.writer.now c.args.clock.now)
        (standing g.R.Inlet g.W.Outlet g.W.Flush.held g.W.Flush.has_failed c.arrive-arrived.new.self c.read.new.self c.flush.new.self c.clock-moment.new.self)
        c.arrive-arrived.result c.in-Ok.n c.clock-moment.result c.read.new.buffer c.deref.result.now
        (read_whole c.args.incoming.now.buffer.len c.read.new.buffer (drop (length c.read.new.buffer) c.args.incoming.now.buffer.items) c.as_mut_slice.result.now c.deref.result.now c.deref.ensures.value c.read.auto.buffer c.as_mut_slice.ensures.len)
        (has_room c.read.new.buffer c.as_mut_slice.result.now c.args.incoming.now.buffer.items c.read.auto.buffer c.as_mut_slice.ensures.value c.args.incoming.now.room)
        c.in-Ok.ensures.bound.0 c.in-Ok.ensures.bound.1 c.in-Ok.n-test.1 c.in-Ok.ensures.bytes.0 c.read.ensures.count (c.in-Ok.ensures.last ∙ gives_bytes c.in-Ok.n c.in-Ok.n-test.1) c.clock-moment.ensures (inr c.in-Err-flush.ensures.err) (c.flush.new.self, refl) (arrives_flushed g.A.Archive.condition _ _ _ _ _ _ _ _ _ _ _ _ c.flush.ensures.taken c.flush.ensures.failures (arrived_there g.A.Archive.condition _ _ _ _ _ _ _ _ _ c.arrive-arrived.result c.requires.there c.arrive-arrived.ensures.arrival));
    cut = inr c.in-Err-flush.ensures.err;
  };
}

-- the read failed, or gave nothing
pub returns-in-Err : goal.returns-in-Err
returns-in-Err g c = record {
  there = c.requires.there;
  same = refl;
  flushed = λ h. h;
  turn = (
    no_turn g.A.Archive.condition
        (standing g.R.Inlet g.W.Outlet g.W.Flush.held g.W.Flush.has_failed c.args.hub.now c.args.reader.now c.args.writer.now c.args.clock.now)
        (standing g.R.Inlet g.W.Outlet g.W.Flush.held g.W.Flush.has_failed c.args.hub.now c.read.new.self c.args.writer.now c.args.clock.now)
        refl refl refl c.in-Err.ensures.bytes c.read.ensures.count,
    c.in-Err.ensures.last,
  );
}

pub returns-in-Ok-eq0 : goal.returns-in-Ok-eq0
returns-in-Ok-eq0 g c =
    let none = c.in-Ok-eq0.field-0-test in record {
      there = c.requires.there;
      same = refl;
      flushed = λ h. h;
      turn = (
        no_turn g.A.Archive.condition
            (standing g.R.Inlet g.W.Outlet g.W.Flush.held g.W.Flush.has_failed c.args.hub.now c.args.reader.now c.args.writer.now c.args.clock.now)
            (standing g.R.Inlet g.W.Outlet g.W.Flush.held g.W.Flush.has_failed c.args.hub.now c.read.new.self c.args.writer.now c.args.clock.now)
            refl refl refl
            (none_read c.in-Ok-eq0.field-0 c.read.new.buffer (g.R.Inlet.unread c.args.reader.now) (g.R.Inlet.unread c.read.new.self) none c.in-Ok-eq0.ensures.bytes.0) c.read.ensures.count,
        c.in-Ok-eq0.ensures.bytes.1 none (some_room (length c.read.new.buffer) (has_room c.read.new.buffer c.as_mut_slice.result.now c.args.incoming.now.buffer.items c.read.auto.buffer c.as_mut_slice.ensures.value c.args.incoming.now.room)),
        c.in-Ok-eq0.ensures.last ∙ gives_none c.in-Ok-eq0.field-0 none,
      );
    }

-- the buffer keeps its room
pub invariant_of-incoming : goal.invariant_of-incoming
invariant_of-incoming g c = record {
  room = ap (λ (xs : List ℕ). length xs) (with_items_is c.args.incoming.now.buffer c.read.new.buffer (c.read.auto.buffer ∙ c.as_mut_slice.ensures.len))
      ∙ has_room c.read.new.buffer c.as_mut_slice.result.now c.args.incoming.now.buffer.items c.read.auto.buffer c.as_mut_slice.ensures.value c.args.incoming.now.room;
}

-- what was read is a part of the buffer
pub slice_bounds-arrive-end : goal.slice_bounds-arrive-end
slice_bounds-arrive-end g c =
    read_within c.in-Ok.n c.read.new.buffer c.deref.result.now
    (read_whole c.args.incoming.now.buffer.len c.read.new.buffer (drop (length c.read.new.buffer) c.args.incoming.now.buffer.items) c.as_mut_slice.result.now c.deref.result.now c.deref.ensures.value c.read.auto.buffer c.as_mut_slice.ensures.len)
    c.in-Ok.ensures.bound.1

-- the connection is there
pub unreachable-unreachable : goal.unreachable-unreachable
unreachable-unreachable g c = none_there _ c.in-NoSuch.ensures.arrival.absent c.requires.there
