-- What was sent in a turn is counted behind it.
use Rattle.std.proofs.Common.{◌≡◌, inl, inr, ◌+◌, ◌-◌, ◌^◌, ◌||◌, min, nat_lt, ℕ, Bool, List, Option, true, sym, subst, ap, ◌∙◌, arith}
use Rattle.std.proofs.Math.Bool.{true-or}
use Rattle.dep_types.specs.Conditions.{Condition}
use Rattle.dep_hub.specs.declared.hub.Hub.{Hub}
use Rattle.dep_slot.specs.declared.slot.Slot.{Slot}
use Rattle.dep_slot.specs.declared.connection_state.ConnectionState.{ConnectionState}
use Rattle.dep_slot.specs.declared.connection_state.NextAction.{NextAction}
use Rattle.dep_slot.specs.declared.connection_state.NextAction.TheVariants.{Flush, Answer, Send, Read, Finish, Drain, Wait}
use Rattle.dep_slot.specs.Causes.{Causes}
use Rattle.dep_slot.specs.Slots.{PieceIsRead, MayRest, ActsOnce, TakesTurn, slot_action}

module _ {A R K S : Type 0} (condition : A → Condition) (unread : R → Option (List ℕ)) (taken : K → Option (List ℕ)) (held : S → Option (List ℕ)) where
  -- what was sent in a turn is counted behind it
  abbrev with_counted : Slot R K S → ℕ → Slot R K S
  with_counted mid bytes =
      record mid { state = record mid.state { has_moved = mid.state.has_moved || nat_lt 0 bytes; moved = min (mid.state.moved + bytes) (2 ^ 64 - 1) } }

  stirs_still : (mid : Slot R K S) (bytes : ℕ) → mid.state.has_moved ≡ true → (with_counted mid bytes).state.has_moved ≡ true
  stirs_still mid bytes h = ap (λ (b : Bool). b || nat_lt 0 bytes) h ∙ true-or (nat_lt 0 bytes)

  read_counted : (before mid : Slot R K S) (bytes : ℕ) (piece : List ℕ) (is_full is_shut : Bool) → PieceIsRead condition unread taken held before mid piece is_full is_shut
      → PieceIsRead condition unread taken held before (with_counted mid bytes) piece is_full is_shut
  read_counted before mid bytes piece is_full is_shut r = record {
    unowed = r.unowed;
    waits = r.waits;
    some = r.some;
    small = r.small;
    gives = r.gives;
    allowed = r.allowed;
    is_open = r.is_open;
    stirs = stirs_still mid bytes r.stirs;
    moves = let m = r.moves in omega (arith, m);
    counts = r.counts;
  }

  rest_counted : (size : S → ℕ) (hub : Hub A) (before mid : Slot R K S) (bytes : ℕ) (is_full is_shut may_send : Bool) (d : NextAction) → MayRest condition unread taken held size hub before mid is_full is_shut may_send d
      → MayRest condition unread taken held size hub before (with_counted mid bytes) is_full is_shut may_send d
  rest_counted size hub before mid bytes is_full is_shut may_send Flush may = may
  rest_counted size hub before mid bytes is_full is_shut may_send Answer may = may
  rest_counted size hub before mid bytes is_full is_shut may_send Send (none, off, phase) =
      (none, record { sends = off.sends; stirs = λ h. stirs_still mid bytes (off.stirs h); counts_not = off.counts_not }, phase)
  rest_counted size hub before mid bytes is_full is_shut may_send Read may = may
  rest_counted size hub before mid bytes is_full is_shut may_send Finish may = may
  rest_counted size hub before mid bytes is_full is_shut may_send Drain may = may
  rest_counted size hub before mid bytes is_full is_shut may_send Wait may = may

  acts_counted : (size : S → ℕ) (old new : Hub A) (before mid : Slot R K S) (bytes moment : ℕ) (is_full is_shut may_send : Bool) → ActsOnce condition unread taken held size old new before mid moment is_full is_shut may_send
      → ActsOnce condition unread taken held size old new before (with_counted mid bytes) moment is_full is_shut may_send
  acts_counted size old new before mid bytes moment is_full is_shut may_send (inl (r, may)) = inl (
    record { same = r.same; keeps = r.keeps; gives = r.gives; opens = r.opens; sends_still = r.sends_still; keeps_count = r.keeps_count },
    rest_counted size old before mid bytes is_full is_shut may_send (slot_action size before) may,
  )
  acts_counted size old new before mid bytes moment is_full is_shut may_send (inr (inl (o, due))) = inr (inl (
    record {
      piece = o.piece;
      read = read_counted before mid bytes o.piece is_full is_shut o.read;
      answers_next = o.answers_next;
      keeps = o.keeps;
      same_store = o.same_store;
      behind = o.behind;
      holds = o.holds;
    },
    due,
  ))
  acts_counted size old new before mid bytes moment is_full is_shut may_send (inr (inr (inl (r, due)))) = inr (inr (inl (
    record { piece = r.piece; read = read_counted before mid bytes r.piece is_full is_shut r.read; ends = r.ends; unsent = r.unsent; behind = r.behind; answer = r.answer; answers = r.answers },
    due,
  )))
  acts_counted size old new before mid bytes moment is_full is_shut may_send (inr (inr (inr (inl (a, due))))) = inr (inr (inr (inl (
    record {
      unowed = a.unowed;
      was_read = a.was_read;
      same_source = a.same_source;
      next = a.next;
      known = a.known;
      more = a.more;
      now = a.now;
      appends = a.appends;
      answers = a.answers;
      owes = a.owes;
      paid = a.paid;
      free = a.free;
      prepared = a.prepared;
      others = a.others;
      unbroken = a.unbroken;
      unawaited = a.unawaited;
      goes = a.goes;
      stirs = stirs_still mid bytes a.stirs;
      leaves = a.leaves;
    },
    due,
  ))))
  acts_counted size old new before mid bytes moment is_full is_shut may_send (inr (inr (inr (inr (inl (d, due)))))) = inr (inr (inr (inr (inl (
    record {
      unowed = d.unowed;
      was_read = d.was_read;
      same_source = d.same_source;
      keeps = d.keeps;
      stays = d.stays;
      stirs = stirs_still mid bytes d.stirs;
      counts_not = d.counts_not;
      leaves = d.leaves;
    },
    due,
  )))))
  acts_counted size old new before mid bytes moment is_full is_shut may_send (inr (inr (inr (inr (inr (s, due, may)))))) = inr (inr (inr (inr (inr (
    record {
      unowed = s.unowed;
      was_sending = s.was_sending;
      same_source = s.same_source;
      answer = s.answer;
      sends = s.sends;
      goes = s.goes;
      leaves = s.leaves;
    },
    due,
    may,
  )))))

  pub counted : (size : S → ℕ) (causes : Causes R K S) (old new : Hub A) (before mid : Slot R K S) (state : ConnectionState) (bytes moment : ℕ) (is_full is_shut may_send : Bool) → TakesTurn condition unread taken held size causes old new before mid moment is_full is_shut may_send
      → state ≡ (with_counted mid bytes).state → TakesTurn condition unread taken held size causes old new before (record mid { state = state }) moment is_full is_shut may_send
  counted size causes old new before mid state bytes moment is_full is_shut may_send t e =
      subst (λ (k : ConnectionState). TakesTurn condition unread taken held size causes old new before (record mid { state = k }) moment is_full is_shut may_send) (sym e) (record {
        client = record { connection = t.client.connection; address = t.client.address };
        hub = t.hub;
        ended = t.ended;
        acts = acts_counted size old new before mid bytes moment is_full is_shut may_send t.acts;
        caused = record { readable = t.caused.readable; writable = t.caused.writable; over = t.caused.over };
      })
