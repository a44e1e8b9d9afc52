-- What a socket gives and takes.
use Rattle.std.specs.Prelude.{ℕ, ◌<◌, ◌≤◌, List, length, take, Option}
use Rattle.std.specs.Io.KnownBytes.{Appends, Consumes, Keeps, IsAtEnd}
use Rattle.dep_types.specs.Writing.{next_count}
use Rattle.dep_outbox.specs.declared.socket.Halts.{Halts}
use Rattle.dep_outbox.specs.declared.socket.Received.{Received}
use Rattle.dep_outbox.specs.declared.socket.Received.TheVariants.{Bytes, Ended, Later, Failed}
use Rattle.dep_outbox.specs.declared.socket.Delivered.{Delivered}
use Rattle.dep_outbox.specs.declared.socket.Delivered.TheVariants.{Bytes as Took, Later as TakesLater, Failed as TakesNone}

-- the bytes that a receive gave, of those that the socket had
abbrev pub Receives : (had has : Option (List ℕ)) → (room : List ℕ) → Received → Type 0
Receives had has room (Bytes n) = (0 < n) × (n ≤ length room) × Consumes had has (take n room)
Receives had has room Ended = Keeps had has × IsAtEnd has
Receives had has room Later = Keeps had has
Receives had has room Failed = Keeps had has

-- the bytes that a send gave to the socket
abbrev pub Delivers : (took takes : Option (List ℕ)) → (bytes : List ℕ) → Delivered → Type 0
Delivers took takes bytes (Took n) = (0 < n) × (n ≤ length bytes) × Appends took takes (take n bytes)
Delivers took takes bytes TakesLater = Keeps took takes
Delivers took takes bytes TakesNone = Keeps took takes

-- how often a half of a socket gave no byte, after one more receive
abbrev pub after_receive : Received → Halts → Halts
after_receive (Bytes n) halts = halts
after_receive Ended halts = record halts { ended = next_count halts.ended }
after_receive Later halts = record halts { later = next_count halts.later }
after_receive Failed halts = record halts { failed = next_count halts.failed }

-- how often one took no byte, after one more send
abbrev pub after_send : Delivered → Halts → Halts
after_send (Took n) halts = halts
after_send TakesLater halts = record halts { later = next_count halts.later }
after_send TakesNone halts = record halts { failed = next_count halts.failed }
