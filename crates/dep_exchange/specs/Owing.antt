-- What is still to be sent of a reply: a stored content goes out in steps, behind a front that was sent.
use Rattle.std.specs.Prelude.{◌≡◌, ◌≢◌, ◌≤◌, ℕ, List, [], ◌++◌, length, drop, Option, None, Some, Result, Ok, Err, IfOk}
use Rattle.std.specs.Io.KnownBytes.{Appends, append_known}
use Rattle.dep_types.specs.State.{State, File, file_at}
use Rattle.dep_types.specs.Streams.{IsStreamed}
use Rattle.dep_types.specs.Conditions.{Condition, Represents, HasCleanDisk}
use Rattle.dep_types.specs.declared.outlet.Outlet.{Ghosts}
use Rattle.dep_types.specs.declared.stream_fault.StreamFault.{StreamFault}
use Rattle.dep_answers.specs.declared.performed.StoredFile.{StoredFile}
use Rattle.dep_exchange.specs.Sending.{Outside, outside}
use Rattle.dep_exchange.specs.declared.rest.Rest.{Rest}

-- the file is there, and these are the bytes of its content behind so many
pub record HasBehind (s : State) (it : StoredFile) (start : ℕ) (rest : List ℕ) : Type 0 where
  pub file : File
  pub held : file_at s it.object it.file ≡ Some file
  pub is : drop start file.content ≡ rest

-- ---- what an archive does that sends a content in steps

-- the file is there, and these bytes are its content in each state for which the archive stands then
abbrev pub Begins : {A E : Type 0} → Condition → StoredFile → Result A E → Type 0
Begins new it result = (bytes : List ℕ)
    × (HasCleanDisk new → IfOk result (λ _. (s : State) → Represents new s → HasBehind s it 0 bytes))

-- a prefix of what stands behind so many bytes, where the file is there
abbrev pub IsPrefixBehind : State → StoredFile → (start : ℕ) → (sent : List ℕ) → Type 0
IsPrefixBehind s it start sent = (file : File) → file_at s it.object it.file ≡ Some file
    → (rest : List ℕ) × (drop start file.content ≡ sent ++ rest)

-- What was sent of a content from a place on: some of its bytes, and where the next ones stand; or all that
-- were left. Where it fails, a prefix of those.
abbrev pub IsSentOn : State → StoredFile → (start : ℕ) → (sent : List ℕ)
    → Result (Option ℕ) StreamFault → Type 0
IsSentOn s it start sent (Ok (Some next)) = (rest : List ℕ) × HasBehind s it next rest
    × HasBehind s it start (sent ++ rest) × (sent ≢ [])
IsSentOn s it start sent (Ok None) = HasBehind s it start sent
IsSentOn s it start sent (Err fault) = IsPrefixBehind s it start sent

-- an outlet took these bytes of the file
abbrev pub StreamsOn : (old new : Condition) → (taken takes : Option (List ℕ)) → StoredFile
    → (start : ℕ) → Result (Option ℕ) StreamFault → Type 0
StreamsOn old new taken takes it start result =
    (sent : List ℕ) × Appends taken takes sent
    × (HasCleanDisk new → (s : State) → Represents old s → IsSentOn s it start sent result)

-- how many bytes of a content are sent at once at most: four blocks
abbrev pub step_bytes : ℕ
step_bytes = 262144

-- an outlet took no more than these
abbrev pub TakesFew : (taken takes : Option (List ℕ)) → Type 0
TakesFew taken takes = (sent : List ℕ) × (length sent ≤ step_bytes) × Appends taken takes sent

-- ---- what is sent later

-- the bytes that an outlet took, and behind them those that are sent later
abbrev pub with_more : Option (List ℕ) → (more : Option (List ℕ)) → Option (List ℕ)
with_more taken None = taken
with_more taken (Some more) = append_known taken more

-- what is sent later is a rest of a content, in each state for which the archive stands
abbrev pub IsLater : Condition → Option Rest → (more : Option (List ℕ)) → Type 0
IsLater store None more = more ≡ None
IsLater store (Some r) more = (bytes : List ℕ) × (more ≡ Some bytes)
    × (HasCleanDisk store → (s : State) → Represents store s → HasBehind s r.file r.sent bytes)

-- what lies outside over an outlet, with what is sent later as if it were sent
abbrev pub outside_with : {O : Type 0} → (g : Ghosts O) → O → Condition → (more : Option (List ℕ)) → Outside
outside_with g out store more = outside (with_more (g.taken out) more) (g.failures out) store

-- an outlet took some bytes, or none
abbrev pub TakesSome : (taken takes : Option (List ℕ)) → Type 0
TakesSome taken takes = (now : List ℕ) × Appends taken takes now

-- this is said of that, where just this is sent later, and the rest was sent
abbrev pub Owing : {O : Type 0} → (g : Ghosts O) → (before after : O) → Condition → Option Rest
    → (Outside → Type 0) → Type 0
Owing g before after store rest reported = (more : Option (List ℕ)) × IsLater store rest more
    × TakesSome (g.taken before) (g.taken after) × reported (outside_with g after store more)

-- what is sent later, if it didn't fail
abbrev pub rest_of : Result (Option Rest) StreamFault → Option Rest
rest_of (Ok rest) = rest
rest_of (Err fault) = None

-- the content of a file goes out behind a front, now or later
abbrev pub SendsContent : (old new : Condition) → (taken takes : Option (List ℕ)) → StoredFile
    → Result (Option Rest) StreamFault → Type 0
SendsContent old new taken takes it result =
    (more : Option (List ℕ)) × IsLater new (rest_of result) more
    × ((sent : List ℕ) × Appends taken (with_more takes more) sent
    × (HasCleanDisk new → (s : State) → Represents old s → IsStreamed s it.file sent result))
