-- What a wire has sent, and what it still owes.
use Rattle.std.specs.Prelude.{◌≡◌, ◌⊎◌, ◌≤◌, ℕ, ◌+◌, ◌-◌, ◌^◌, min, List, length, drop, Option, None, Some}
use Rattle.std.specs.Io.KnownBytes.{prepend_known}
use Rattle.dep_types.specs.Writing.{HasRisen}
use Rattle.dep_outbox.specs.Sockets.{after_send}
use Rattle.dep_outbox.specs.declared.backlog.Backlog.{Backlog}
use Rattle.dep_outbox.specs.declared.socket.Delivered.TheVariants as takes
use Rattle.dep_outbox.specs.declared.socket.Halts.{Halts}
use Rattle.dep_outbox.specs.declared.wire.Flushed.{Flushed}
use Rattle.dep_outbox.specs.declared.wire.Flushed.TheVariants as flush
use Rattle.dep_outbox.specs.declared.wire.Wire.{Wire}

-- the first bytes and then the others, where both are known
abbrev pub joined_bytes : Option (List ℕ) → Option (List ℕ) → Option (List ℕ)
joined_bytes None behind = None
joined_bytes (Some xs) behind = prepend_known xs behind

-- so many bytes are known, where they are
abbrev pub AreCounted : Option (List ℕ) → ℕ → Type 0
AreCounted None n = Unit {0}
AreCounted (Some xs) n = length xs ≡ n

module _ {S : Type 0} where
  -- those in memory that wait
  abbrev pub front_of : Backlog S → List ℕ
  front_of b = drop b.sent b.front.items

  -- and behind them those in the spool
  abbrev pub waiting : (S → Option (List ℕ)) → Backlog S → Option (List ℕ)
  waiting held b = prepend_known (front_of b) (held b.spool)

  -- how many wait
  abbrev pub waiting_count : (S → ℕ) → Backlog S → ℕ
  waiting_count size b = (length b.front.items - b.sent) + size b.spool

module _ {K S : Type 0} where
  -- the bytes that the socket hasn't taken yet
  abbrev pub owed : (S → Option (List ℕ)) → Wire K S → Option (List ℕ)
  owed held w = waiting held w.backlog

  -- how many bytes it hasn't taken yet
  abbrev pub owed_count : (S → ℕ) → Wire K S → ℕ
  owed_count size w = waiting_count size w.backlog

  -- the bytes that the wire took: those that the socket took, and those that are owed behind them
  abbrev pub reported : (K → Option (List ℕ)) → (S → Option (List ℕ)) → Wire K S → Option (List ℕ)
  reported taken held w = joined_bytes (taken w.sink) (owed held w)

-- what is no longer owed was delivered, and is counted as far as 64 bits hold it
abbrev pub CountsSent : (delivered owed after left : ℕ) → Type 0
CountsSent delivered owed after left =
    (min (delivered + (owed - left)) (2 ^ 64 - 1) ≤ after)
    × (after + left ≤ delivered + owed) × (left ≤ owed)

-- the socket didn't fail, nor did the spool
abbrev pub IsUnharmed : (old new : Halts) → (failures after : ℕ) → Type 0
IsUnharmed old new failures after = (new.failed ≡ old.failed) × (after ≡ failures)

-- the socket failed, or the spool, once more than before
abbrev pub HasFailed : (old new : Halts) → (failures after : ℕ) → Type 0
HasFailed old new failures after = HasRisen old.failed new.failed ⊎ HasRisen failures after

-- why a flush came to an end, by how often the socket took no byte, and the spool failed, before and after:
-- one that took no more, or failed, was asked
abbrev pub Blames : (old new : Halts) → (failures after : ℕ) → Flushed → Type 0
Blames old new failures after flush.All = (new ≡ old) × (after ≡ failures)
Blames old new failures after flush.Part = (new ≡ old) × (after ≡ failures)
Blames old new failures after flush.Later =
    (new ≡ after_send takes.Later old) × (after ≡ failures)
Blames old new failures after flush.Failed =
    ((new ≡ after_send takes.Failed old) × (after ≡ failures))
    ⊎ ((new ≡ old) × HasRisen failures after)
