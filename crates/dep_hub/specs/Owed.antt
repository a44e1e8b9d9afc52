-- What a connection owes: what is behind its last reply, and the bytes that are still to be sent of it.
use Rattle.std.specs.Prelude.{◌≡◌, ℕ, List, [], Option, None, Some, Result, Ok, Err}
use Rattle.dep_types.specs.State.{State}
use Rattle.dep_types.specs.declared.stream_fault.StreamFault.{StreamFault}
use Rattle.dep_exchange.specs.Owing.{HasBehind}
use Rattle.dep_exchange.specs.declared.rest.Rest.{Rest}
use Rattle.dep_hub.specs.declared.rest.Behind.{Behind}
use Rattle.dep_hub.specs.declared.rest.Behind.TheVariants.{Nothing, Content, Broken, Waits, Prepares, Prepared}
use Rattle.dep_hub.specs.declared.sent_on.SentOn.{SentOn}
use Rattle.dep_hub.specs.declared.sent_on.SentOn.TheVariants.{Part, All, Broken as BrokenOff}

-- what is behind the last reply of a connection
abbrev pub later_than : Option Rest → Behind
later_than None = Nothing
later_than (Some r) = Content r

-- what is behind it once a few blocks more were sent, by what the archive returned, and what came of that
abbrev pub behind_then : Rest → Result (Option ℕ) StreamFault → Behind
behind_then r (Ok (Some next)) = Content (record { file = r.file; sent = next })
behind_then r (Ok None) = Nothing
behind_then r (Err fault) = Broken

abbrev pub told_then : Result (Option ℕ) StreamFault → SentOn
told_then (Ok (Some next)) = Part
told_then (Ok None) = All
told_then (Err fault) = BrokenOff

-- the bytes that are sent later
abbrev pub bytes_later : Option (List ℕ) → List ℕ
bytes_later None = []
bytes_later (Some more) = more

-- These are still to be sent: none, also where the next request waits or is prepared; what a file has behind
-- those that were sent; or, where a fault broke them off, bytes of which none is sent any more.
abbrev pub IsOwed : State → Behind → (owed : List ℕ) → Type 0
IsOwed s Nothing owed = owed ≡ []
IsOwed s (Content r) owed = HasBehind s r.file r.sent owed
IsOwed s Broken owed = Unit {0}
IsOwed s (Waits claim) owed = owed ≡ []
IsOwed s (Prepares left) owed = owed ≡ []
IsOwed s Prepared owed = owed ≡ []
