-- What comes to a host from outside, and from where.
use Rattle.std.specs.Prelude.{ℕ, ◌+◌, ◌/◌, ◌==◌, Bool, false, List, [], ◌∷◌, Option, None, Some}
use Rattle.std.specs.List.{count_by, flat_map}
use Rattle.std.specs.Io.KnownBytes.{IsAtEnd}
use Rattle.std.specs.Net.Addr.{ipv4_bits, ipv6_bits}
use Rattle.std.specs.declared.net.ip_addr.IpAddr.{IpAddr}
use Rattle.std.specs.declared.net.ip_addr.IpAddr.TheVariants.{V4, V6}
use Rattle.dep_outbox.specs.Wires.{reported}
use Rattle.dep_slot.specs.declared.slot.Slot.{Slot}
use Rattle.dep_host.specs.declared.events.Event.{Event}
use Rattle.dep_host.specs.declared.events.Event.TheVariants.{Ready, Client, Round, Stop, End}

-- the way to a client that connects has taken nothing
abbrev pub IsFresh : {R K S : Type 0} → (K → Option (List ℕ)) → (S → Option (List ℕ))
    → Event R K S → Type 0
IsFresh taken held (Ready at r w) = Unit {0}
IsFresh taken held (Client client) = IsAtEnd (reported taken held client.wire)
IsFresh taken held (Round time) = Unit {0}
IsFresh taken held (Stop second) = Unit {0}
IsFresh taken held End = Unit {0}

-- the second of a round, or at which it is told to stop
abbrev pub seconds_of : {R K S : Type 0} → Event R K S → List ℕ
seconds_of (Ready at r w) = []
seconds_of (Client client) = []
seconds_of (Round time) = time.second ∷ []
seconds_of (Stop second) = second ∷ []
seconds_of End = []

-- what came when it was asked what comes, the place that was offered then, and whether the host was told
-- as one that can go on at once
pub record PollCall (R K S : Type 0) : Type 0 where
  pub offer : Option ℕ
  pub is_busy : Bool
  pub event : Event R K S

-- the seconds of the rounds among what came, and of where it was told to stop
abbrev pub seconds_in : {R K S : Type 0} → List (PollCall R K S) → List ℕ
seconds_in calls = flat_map (λ c. seconds_of c.event) calls

-- a number for those addresses that one client may have: an IPv4 address, or all IPv6 addresses of
-- the same first 64 bits
abbrev pub origin : IpAddr → ℕ
origin (V4 ip) = ipv4_bits ip
origin (V6 ip) = ipv6_bits ip / 0x1_0000_0000_0000_0000 + 0x1_0000_0000

-- who is at a place comes from there
abbrev pub comes_from : {R K S : Type 0} → ℕ → Option (Slot R K S) → Bool
comes_from from None = false
comes_from from (Some slot) = origin slot.address == from

-- how many connections are there from one address
abbrev pub slots_from : {R K S : Type 0} → ℕ → List (Option (Slot R K S)) → ℕ
slots_from from slots = count_by (λ s. comes_from from s) slots
