-- Why a connection waits for its socket, or is over: what its socket and its spool said once asked.
use Rattle.std.specs.Prelude.{◌≡◌, ◌⊎◌, ℕ, false}
use Rattle.dep_types.specs.Writing.{HasRisen}
use Rattle.dep_outbox.specs.Sockets.{after_receive, after_send}
use Rattle.dep_outbox.specs.declared.socket.Halts.{Halts}
use Rattle.dep_outbox.specs.declared.socket.Received.TheVariants as gives
use Rattle.dep_outbox.specs.declared.socket.Delivered.TheVariants as takes
use Rattle.dep_slot.specs.declared.slot.Slot.{Slot}
use Rattle.dep_slot.specs.declared.connection_state.Phase.TheVariants.{Over}

-- how often the halves of a socket gave or took no byte, and a spool failed
pub record Causes (R K S : Type 0) : Type 0 where
  pub source : R → Halts
  pub sink : K → Halts
  pub spool : S → ℕ

-- the three together
abbrev pub causes_of : {R K S : Type 0} → (R → Halts) → (K → Halts) → (S → ℕ) → Causes R K S
causes_of source sink spool = record { source = source; sink = sink; spool = spool }

module _ {R K S : Type 0} (causes : Causes R K S) where
  -- its socket was asked since, once, and had nothing to read
  abbrev pub HasNone : (before after : Slot R K S) → Type 0
  HasNone before after =
      causes.source after.source ≡ after_receive gives.Later (causes.source before.source)

  -- its socket was asked since, and at last took no more
  abbrev pub TakesNone : (before after : Slot R K S) → Type 0
  TakesNone before after =
      causes.sink after.wire.sink ≡ after_send takes.Later (causes.sink before.wire.sink)

  -- its client was seen to send no more, or its socket or its spool to fail
  abbrev pub IsBroken : (before after : Slot R K S) → Type 0
  IsBroken before after =
      (causes.source after.source ≡ after_receive gives.Ended (causes.source before.source))
      ⊎ ((causes.source after.source ≡ after_receive gives.Failed (causes.source before.source))
      ⊎ ((causes.sink after.wire.sink ≡ after_send takes.Failed (causes.sink before.wire.sink))
      ⊎ HasRisen (causes.spool before.wire.backlog.spool) (causes.spool after.wire.backlog.spool)))

  -- It is read, and sent to, as before, but where its socket said in between that it has nothing,
  -- or takes no more; and it is over only where it was, is broken, or was lost.
  pub record HasCauses (lost : Type 0) (before after : Slot R K S) : Type 0 where
    pub readable : (after.state.is_readable ≡ before.state.is_readable)
        ⊎ ((after.state.is_readable ≡ false) × HasNone before after)
    pub writable : (after.state.is_writable ≡ before.state.is_writable)
        ⊎ ((after.state.is_writable ≡ false) × TakesNone before after)
    pub over : after.state.phase ≡ Over
        → (before.state.phase ≡ Over) ⊎ (IsBroken before after ⊎ lost)
