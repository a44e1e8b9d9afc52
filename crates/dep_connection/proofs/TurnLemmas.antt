-- One turn of a connection.
use Rattle.std.proofs.Common.{Bool, ◌≡◌, ◌≤◌, ◌<◌, ℕ, zero, suc, Ok, List, ◌++◌, length, take, sym, ap, subst, ◌∙◌, arith, Option, Some, None, refl, take_at}
use Rattle.std.proofs.KnownBytes.{Appends-kept}
use Rattle.std.specs.Io.KnownBytes.{Consumes, Keeps}
use Rattle.dep_types.specs.Conditions.{Condition}
use Rattle.dep_types.specs.Writing.{next_count}
use Rattle.dep_types.specs.Reading.{end_of_read}
use Rattle.dep_types.specs.declared.inlet.ReadFailed.{ReadFailed}
use Rattle.dep_types.specs.declared.inlet.LastRead.TheVariants.{Bytes, Nothing}
use Rattle.dep_hub.specs.Numbers.{most_read}
use Rattle.std.specs.Prelude.{IsSome}
use Rattle.dep_hub.specs.Representing.{ArrivesOver, ComesTo, IsArrival, GoesOnAs, intake_of}
use Rattle.dep_hub.proofs.HubLemmas.{none_there}
use Rattle.dep_exchange.specs.declared.arrived.Arrived.TheVariants.{Open as StaysOpen, Closed as HasClosed, Cut, NoSuch}
use Rattle.dep_hub.specs.WorkingAhead.{RestsAhead}
use Rattle.dep_connection.specs.Conversation.{Outflow, Session, OneTurn, NoTurn}
use Rattle.dep_connection.specs.Flushing.{IsFlushed}
use Rattle.dep_hub.specs.declared.hub.Hub.{Hub}
use Rattle.dep_exchange.specs.declared.arrived.Arrived.{Arrived}

-- the buffer has room
pub has_room : (buffer given items : List ℕ) → length buffer ≡ length given → given ≡ items → length items ≡ most_read → length buffer ≡ most_read
has_room buffer given items b same room = b ∙ (ap (λ (xs : List ℕ). length xs) same ∙ room)

pub some_room : (room : ℕ) → room ≡ most_read → 0 < room
some_room room e = omega (arith, e)

-- the whole buffer, as the slice of it that was read into
pub read_whole : (len : ℕ) (buffer rest given whole : List ℕ) → whole ≡ take len (buffer ++ rest)
    → length buffer ≡ length given → length given ≡ len → whole ≡ buffer
read_whole len buffer rest given whole e b s =
    e ∙ take_at buffer rest len (b ∙ s)

-- so what was read is a part of it
pub read_within : (n : ℕ) (buffer whole : List ℕ) → whole ≡ buffer → n ≡ length (take n buffer) → n ≡ length (take n whole)
read_within n buffer whole e fits = fits ∙ ap (λ (xs : List ℕ). length (take n xs)) (sym e)

-- what is read is some bytes, and no more than the buffer has
some_read : (n : ℕ) (buffer : List ℕ) → n ≡ length (take n buffer) → (n ≡ 0 → ⊥) → 0 < length (take n buffer)
some_read n buffer e not_none = omega arith

small_read : (n : ℕ) (buffer : List ℕ) → n ≤ length buffer → n ≡ length (take n buffer) → length buffer ≡ most_read → length (take n buffer) ≤ most_read
small_read n buffer fits e room = omega (arith, fits, e, room)

-- where no byte was read, the reader keeps what it had
pub none_read : (n : ℕ) (buffer : List ℕ) (unread left : Option (List ℕ)) → n ≡ 0
    → Consumes unread left (take n buffer) → Keeps unread left
none_read n buffer None left none c = tt
none_read n buffer (Some xs) None none c = absurd c
none_read n buffer (Some xs) (Some ys) none c = sym (c ∙ ap (λ k. take k buffer ++ ys) none)

-- how such a read ended
pub gives_bytes : (n : ℕ) → (n ≡ 0 → ⊥) → end_of_read {E = ReadFailed} (Ok n) ≡ Bytes
gives_bytes zero some = absurd (some refl)
gives_bytes (suc n) some = refl

pub gives_none : (n : ℕ) → n ≡ 0 → end_of_read {E = ReadFailed} (Ok n) ≡ Nothing
gives_none n none = ap (λ k. end_of_read {E = ReadFailed} (Ok k)) none

module _ {A : Type 0} (condition : A → Condition) where
  -- nothing is asked of a hub
  pub goes_same : (hub : Hub A) → GoesOnAs condition hub hub
  goes_same hub = record { config = refl; next = refl; clean = λ h. h; honest = λ h. h }

  -- one call, and another
  pub goes_then : {old mid new : Hub A} → GoesOnAs condition old mid → GoesOnAs condition mid new → GoesOnAs condition old new
  goes_then a b = record {
    config = b.config ∙ a.config;
    next = b.next ∙ a.next;
    clean = λ h. a.clean (b.clean h);
    honest = λ h. a.honest (b.honest h);
  }

  -- the store worked ahead
  pub goes_ahead : {old new : Hub A} → RestsAhead condition old new → GoesOnAs condition old new
  goes_ahead r = record { config = r.config; next = r.next; clean = r.store.was_open; honest = r.store.honest }

  -- an arrival, and then the outlet was flushed
  pub arrives_flushed : (held sends holds : Option (List ℕ)) (failures fails failed : ℕ) (old new : Hub A) (number : ℕ) (piece : List ℕ) (moment : ℕ) (answer : Arrived)
      → Keeps sends holds → failed ≡ fails → ArrivesOver condition held sends failures fails old new number piece moment answer
      → ArrivesOver condition held holds failures failed old new number piece moment answer
  arrives_flushed held sends holds failures fails failed old new number piece moment answer kept same a = record {
    sent = a.sent;
    appends = Appends-kept held sends holds a.sent a.appends kept;
    arrival = subst (λ (n : ℕ). IsArrival condition old new number piece moment a.sent failures n answer) (sym same) a.arrival;
    goes = a.goes;
    was_there = a.was_there;
    is_there = a.is_there;
  }

  -- an arrival at a connection that was there
  pub arrived_there : (held holds : Option (List ℕ)) (failures failed : ℕ) (old new : Hub A) (number : ℕ) (piece : List ℕ) (moment : ℕ) (answer : Arrived)
      → IsSome (intake_of old.connections.items number) → ComesTo condition held holds failures failed old new number piece moment answer
      → ArrivesOver condition held holds failures failed old new number piece moment answer
  arrived_there held holds failures failed old new number piece moment NoSuch there a = absurd (none_there _ a.absent there)
  arrived_there held holds failures failed old new number piece moment StaysOpen there a = a
  arrived_there held holds failures failed old new number piece moment HasClosed there a = a
  arrived_there held holds failures failed old new number piece moment Cut there a = a

  -- a piece was read, it arrived, and the outlet was flushed
  pub one_turn : (may_commit : A → Bool) (shown : Outflow → Type 0) {C : Type 0} (ticks : C → ℕ → C → Type 0) (number : ℕ) (before after : Session A C) (answer : Arrived)
      (n moment : ℕ) (buffer whole : List ℕ) → whole ≡ buffer → length buffer ≡ most_read
      → n ≤ length buffer → n ≡ length (take n buffer) → (n ≡ 0 → ⊥)
      → Consumes before.wire.unread after.wire.unread (take n buffer)
      → after.wire.reads ≡ next_count before.wire.reads → after.wire.last ≡ Bytes
      → ticks before.clock moment after.clock
      → IsFlushed after.wire.out.held after.wire.out.has_failed → shown after.wire.out
      → ArrivesOver condition before.wire.out.taken after.wire.out.taken before.wire.out.failures after.wire.out.failures
      before.hub after.hub number (take n whole) moment answer
      → OneTurn condition may_commit shown ticks number before after answer
  one_turn may_commit shown ticks number before after answer n moment buffer whole is_whole room fits long not_none read count last ticked flushed shows arrival =
      let came : ArrivesOver condition before.wire.out.taken after.wire.out.taken before.wire.out.failures after.wire.out.failures
      before.hub after.hub number (take n buffer) moment answer = subst (λ (xs : List ℕ). ArrivesOver condition before.wire.out.taken after.wire.out.taken before.wire.out.failures after.wire.out.failures
      before.hub after.hub number (take n xs) moment answer) is_whole arrival in
      record {
        piece = take n buffer;
        moment = moment;
        sent = came.sent;
        arrives = came.arrival;
        reads = count;
        last = last;
        some = some_read n buffer long not_none;
        small = small_read n buffer fits long room;
        transfers = record { pieces = read; replies = came.appends };
        flushed = flushed;
        shows = shows;
        ticked = ticked;
        goes = came.goes;
      }

  -- nothing was read
  pub no_turn : {C : Type 0} (before after : Session A C)
      → after.hub ≡ before.hub → after.clock ≡ before.clock → after.wire.out ≡ before.wire.out
      → Keeps before.wire.unread after.wire.unread → after.wire.reads ≡ next_count before.wire.reads → NoTurn condition before after
  no_turn before after hub clock out kept count = record {
    same_hub = hub;
    nothing = record { pieces = kept; reads = count; out = out };
    same_clock = clock;
  }
