-- A hub that owes its connections what is still to be sent of the replies that it made.
use Rattle.std.specs.Prelude.{◌≤◌, Bool, true, false, ◌≡◌, ◌≢◌, ◌⊎◌, ◌==◌, ℕ, List, [], ◌∷◌, ◌++◌, if◌then◌else◌, Option, Some}
use Rattle.std.specs.Io.KnownBytes.{Appends, Keeps}
use Rattle.dep_types.specs.State.{State}
use Rattle.dep_types.specs.Conditions.{Condition, Represents, Leaves}
use Rattle.dep_message.specs.Giving.{HasFirstHead}
use Rattle.dep_message.specs.Places.{Place, Reading}
use Rattle.dep_message.specs.Showing.{IsNoNext}
use Rattle.dep_message.specs.Stream.{FirstAt, Request}
use Rattle.dep_message.specs.declared.message.Message.{Message}
use Rattle.dep_exchange.specs.Records.{Arrive, Record, Run, World, with_line}
use Rattle.dep_exchange.specs.Shut.{LeavesNoMore, IfShut}
use Rattle.dep_hub.specs.Representing.{store_of, intake_of, IsClean, IsHonest}
use Rattle.dep_hub.specs.Holding.{RepresentsHolding, ComesToNext, PartArrives, items_answered, with_held}
use Rattle.dep_exchange.specs.Owing.{TakesFew, with_more}
use Rattle.dep_hub.specs.Owed.{IsOwed, bytes_later}
use Rattle.dep_hub.specs.declared.rest.Behind.{Behind}
use Rattle.dep_hub.specs.declared.rest.Behind.TheVariants.{Nothing, Content, Broken, Waits, Prepares, Prepared}
use Rattle.dep_hub.specs.declared.claim.Claim.{Claim}
use Rattle.dep_hub.specs.declared.claim.Claim.TheVariants.{Takes, Reads}
use Rattle.dep_hub.specs.declared.claim.Files.{Files}
use Rattle.dep_hub.specs.Claims.{claim_of, has_to_wait, is_any_pending, is_awaited_by, is_content, sends_of, waits_to_take}
use Rattle.dep_hub.specs.Preparing.{IsLookedAt, IsPreparedFirst, NoneIsPrepared, is_prepared_first, is_preparing, most_steps}
use Rattle.dep_hub.specs.declared.sent_on.SentOn.{SentOn}
use Rattle.dep_hub.specs.declared.sent_on.SentOn.TheVariants.{Part, All, Broken as BrokenOff}
use Rattle.dep_exchange.specs.declared.arrived.Arrived.{Arrived}
use Rattle.dep_exchange.specs.declared.next.Next.{Next}
use Rattle.dep_hub.specs.declared.connections.Connection.{Connection}
use Rattle.dep_hub.specs.declared.hub.Hub.{Hub}

-- what is behind the last reply of a connection, if it is there
abbrev pub behind_at : List Connection → ℕ → Behind
behind_at [] number = Nothing
behind_at (c ∷ connections) number =
    if c.number == number then c.behind else behind_at connections number

-- and of all others it is what it was
abbrev pub OthersStay : {A : Type 0} → (old new : Hub A) → (number : ℕ) → Type 0
OthersStay old new number = (m : ℕ) → m ≢ number
    → behind_at new.connections.items m ≡ behind_at old.connections.items m

-- a content of these files is being sent to it alone if one was
abbrev pub SendsNoOther : {A : Type 0} → (old new : Hub A) → (number : ℕ) → Type 0
SendsNoOther old new number = (files : Files)
    → sends_of files (behind_at new.connections.items number) ≡ true
    → sends_of files (behind_at old.connections.items number) ≡ true

-- ---- requests that wait

-- the content of the last reply isn't all sent, or was broken off
abbrev pub is_unsent : Behind → Bool
is_unsent (Content r) = true
is_unsent Broken = true
is_unsent behind = false

-- its next request may be looked at: the last reply was all sent, and it isn't being prepared
abbrev pub MayBeLookedAt : Behind → Type 0
MayBeLookedAt behind = (is_unsent behind ≡ false) × (is_preparing behind ≡ false)

-- its next request was looked at
abbrev pub is_looked_at : Behind → Bool
is_looked_at (Waits claim) = true
is_looked_at (Prepares left) = true
is_looked_at Prepared = true
is_looked_at behind = false

-- a content is being sent to the connection that a waiting request takes
abbrev pub is_awaited_at : List Connection → (number : ℕ) → Bool
is_awaited_at connections number = is_awaited_by connections (behind_at connections number)

-- the next request doesn't have to wait, where one has come whole
abbrev pub IsFree : List Connection → Reading → Type 0
IsFree connections reading =
    IsNoNext (λ head. has_to_wait connections (claim_of head)) reading.limit reading.place

-- so it is with the next request of a connection
abbrev pub NextIsFree : {A : Type 0} → Hub A → (number : ℕ) → Type 0
NextIsFree hub number = (reading : Reading) → intake_of hub.connections.items number ≡ Some reading
    → IsFree hub.connections.items reading

-- nor is it one that is prepared first, if it wasn't looked at before
abbrev pub NextIsPrepared : {A : Type 0} → Hub A → (number : ℕ) → Type 0
NextIsPrepared hub number = behind_at hub.connections.items number ≡ Nothing → (reading : Reading)
    → intake_of hub.connections.items number ≡ Some reading → NoneIsPrepared reading

-- The next request has come whole, and this is its claim; and if it wasn't looked at before, it isn't one that is
-- prepared first. So such a one is prepared before it waits.
abbrev pub HasClaim : Reading → (was : Behind) → Claim → Type 0
HasClaim reading was claim = (m : Message) × (next : Place)
    × FirstAt reading.limit reading.place (Request m) next × (claim ≡ claim_of m.head)
    × (was ≡ Nothing → is_prepared_first m.head ≡ false)

-- why nothing is answered, by what was behind the last reply, and what is there then
pub data KeptBack (connections : List Connection) (reading : Reading) (was now : Behind) : Type 0 where
  -- its own content isn't all sent, or was broken off
  unsent : is_unsent was ≡ true → now ≡ was → KeptBack connections reading was now
  -- its next request is prepared still
  prepares_still : is_preparing was ≡ true → now ≡ was → KeptBack connections reading was now
  -- its next request is one that is prepared first, and is prepared from now on
  begins_to_prepare : was ≡ Nothing → IsPreparedFirst reading → now ≡ Prepares most_steps
      → KeptBack connections reading was now
  -- its next request waits still
  waits_still : (claim : Claim) → was ≡ Waits claim → now ≡ Waits claim
      → has_to_wait connections claim ≡ true → KeptBack connections reading was now
  -- its next request has to wait from now on
  begins_to_wait : (claim : Claim) → MayBeLookedAt was → HasClaim reading was claim → now ≡ Waits claim
      → has_to_wait connections claim ≡ true → KeptBack connections reading was now
  -- memory ran out as its next request was looked at, and it isn't prepared any more
  lacks_memory : MayBeLookedAt was → (was ≡ Nothing) ⊎ (is_any_pending connections ≡ true)
      → HasFirstHead reading.place → now ≡ Prepared → KeptBack connections reading was now

-- the next item of this connection may be answered
abbrev pub IsAnswerable : List Connection → Reading → Behind → Type 0
IsAnswerable connections reading behind =
    MayBeLookedAt behind × IsFree connections reading × IsLookedAt reading behind

-- so it is with the connection of this number
abbrev pub NextIsAnswerable : List Connection → (number : ℕ) → Type 0
NextIsAnswerable connections number = (reading : Reading)
    → intake_of connections number ≡ Some reading
    → IsAnswerable connections reading (behind_at connections number)

-- ---- a hub

-- what the bytes that were owed are, once so many were sent, by what that came to
abbrev pub IsPaid : SentOn → (sent rest : List ℕ) → Type 0
IsPaid Part sent rest = sent ≢ []
IsPaid All sent rest = rest ≡ []
IsPaid BrokenOff sent rest = Unit {0}

-- more of a content is left
abbrev pub is_part : SentOn → Bool
is_part Part = true
is_part All = false
is_part BrokenOff = false

module _ {A : Type 0} (condition : A → Condition) where
  -- the hub keeps what the machine is, holds these bytes of each connection, and owes it those
  pub record RepresentsOwing (hub : Hub A) (w : World) (held owed : ℕ → List ℕ) : Type 0 where
    pub at : RepresentsHolding condition hub w held
    pub owes : (number : ℕ)
        → IsOwed w.state (behind_at hub.connections.items number) (owed number)

  -- these are still to be sent to the connection, at each state for which the store stands
  abbrev pub Owes : Hub A → (number : ℕ) → (owed : List ℕ) → Type 0
  Owes hub number owed = IsHonest condition hub → (s : State)
      → Represents (store_of condition hub) s
      → IsOwed s (behind_at hub.connections.items number) owed

  -- no waiting request takes the file of a content that begins
  abbrev pub BeginsUnawaited : Hub A → Hub A → (number : ℕ) → Type 0
  BeginsUnawaited old new number = IsHonest condition new → (w : World) → (held : ℕ → List ℕ)
      → RepresentsHolding condition old w held → is_awaited_at new.connections.items number ≡ false

  -- nothing is answered
  pub record KeepsBack (taken takes : Option (List ℕ)) (failures failures_after : ℕ) (old new : Hub A)
      (number : ℕ) : Type 0 where
    pub same_store : new.store ≡ old.store
    pub same_config : new.config ≡ old.config
    pub same_next : new.next ≡ old.next
    pub sends_nothing : Keeps taken takes
    pub same_failures : failures_after ≡ failures
    pub intakes : (m : ℕ)
        → intake_of new.connections.items m ≡ intake_of old.connections.items m
    pub others : OthersStay old new number
    pub reading : Reading
    pub there : intake_of old.connections.items number ≡ Some reading
    pub why : KeptBack old.connections.items reading (behind_at old.connections.items number)
        (behind_at new.connections.items number)

  -- the next item of a connection is answered: with what is still to be sent it is the reply
  pub record RepliesOver (taken takes : Option (List ℕ)) (failures failures_after : ℕ) (old new : Hub A)
      (number moment : ℕ) (next : Next) : Type 0 where
    pub now : List ℕ
    pub appends : Appends taken takes now
    pub more : Option (List ℕ)
    pub answers : ComesToNext condition taken (with_more takes more) failures failures_after old new
        number moment next
    pub owes : Owes new number (bytes_later more)
    pub paid : is_unsent (behind_at old.connections.items number) ≡ false
    pub prepared : is_preparing (behind_at old.connections.items number) ≡ false
    pub let_go : is_looked_at (behind_at new.connections.items number) ≡ false
    pub others : OthersStay old new number
    pub unawaited : BeginsUnawaited old new number

  -- some of the bytes that were owed are sent, and the rest is owed; nothing else changes
  pub record SendsOn (taken takes : Option (List ℕ)) (failures failures_after : ℕ) (old new : Hub A)
      (number : ℕ) (answer : SentOn) : Type 0 where
    pub sent : List ℕ
    pub appends : Appends taken takes sent
    pub few : TakesFew taken takes
    pub sends : IsHonest condition new → (w : World) → (held owed : ℕ → List ℕ)
        → RepresentsOwing old w held owed
        → (rest : List ℕ) × (owed number ≡ sent ++ rest) × IsPaid answer sent rest
        × (IsClean condition new → RepresentsOwing new w held (with_held number rest owed))
        × Leaves (store_of condition new) (λ found. found ≡ w.state)
    -- it stands where it stood, whatever is owed to others
    pub represents : IsHonest condition new → IsClean condition new → (w : World) → (held : ℕ → List ℕ)
        → RepresentsHolding condition old w held → RepresentsHolding condition new w held
    pub shut : IfShut (store_of condition old) (store_of condition new)
        (LeavesNoMore (store_of condition old) (store_of condition new))
    pub kept : answer ≢ BrokenOff → failures_after ≡ failures
    pub left : is_content (behind_at new.connections.items number) ≡ is_part answer
    pub of_same : SendsNoOther old new number
    pub others : OthersStay old new number

  -- Where one item is answered that doesn't have to wait, what is owed to other connections is owed still, and
  -- to this one what is still to be sent of its reply.
  abbrev pub RepliesKeep : Hub A → Hub A → Type 0
  RepliesKeep old new = (n : ℕ) (moment : ℕ) (sent : List ℕ)
      (failures failures_after : ℕ) (answer : Arrived) (w : World) (held owed : ℕ → List ℕ) (more : List ℕ)
      → RepresentsOwing old w held owed
      → (a : PartArrives condition old.config new n (held n) moment sent failures failures_after answer w held)
      → items_answered a.arrives ≤ 1 → NextIsFree old n
      → OthersStay old new n → Owes new n more → IsHonest condition new → IsClean condition new
      → RepresentsOwing new (record { state = a.left; line = with_line n a.line w.line })
      (with_held n a.rest held) (with_held n more owed)

  -- the machine may be there after these records, and the hub holds these bytes, and owes those
  pub record RepresentsOwingAfter (hub : Hub A) (first : State) (records : List Record)
      (held owed : ℕ → List ℕ) : Type 0 where
    pub world : World
    pub run : Run hub.config first records world
    pub at : RepresentsOwing hub world held owed

  -- The answer to an item is a run's next record, with all of its reply; what of that is still to be sent
  -- is owed.
  abbrev pub RepliesAdd : Hub A → Hub A → Type 0
  RepliesAdd old new = (n : ℕ) (moment : ℕ) (sent : List ℕ) (failures failures_after : ℕ)
      (answer : Arrived) (first : State) (records : List Record) (held owed : ℕ → List ℕ) (more : List ℕ)
      (h : RepresentsOwingAfter old first records held owed)
      (a : PartArrives condition old.config new n (held n) moment sent failures failures_after answer h.world held)
      → new.config ≡ old.config → items_answered a.arrives ≤ 1 → NextIsFree old n
      → OthersStay old new n → Owes new n more → IsHonest condition new → IsClean condition new
      → RepresentsOwingAfter new first
      (records ++ record { event = Arrive n a.part moment; sent = sent } ∷ []) (with_held n a.rest held)
      (with_held n more owed)

  -- what is sent of what is owed is no event: the records stay
  abbrev pub SendingRepresents : Hub A → Hub A → Type 0
  SendingRepresents old new = (taken takes : Option (List ℕ)) (failures failures_after n : ℕ) (answer : SentOn)
      (first : State) (records : List Record) (held owed : ℕ → List ℕ)
      (sending : SendsOn taken takes failures failures_after old new n answer)
      → RepresentsOwingAfter old first records held owed → new.config ≡ old.config
      → IsHonest condition new → IsClean condition new
      → (rest : List ℕ) × (owed n ≡ sending.sent ++ rest)
      × RepresentsOwingAfter new first records held (with_held n rest owed)

  -- where nothing is answered nothing else changes: what is owed stays
  abbrev pub WaitingRepresents : Hub A → Hub A → Type 0
  WaitingRepresents old new = (taken takes : Option (List ℕ)) (failures failures_after n : ℕ)
      → KeepsBack taken takes failures failures_after old new n
      → (w : World) (held owed : ℕ → List ℕ) → RepresentsOwing old w held owed
      → RepresentsOwing new w held owed

  -- a content is being sent where one was
  abbrev pub ContentsStay : Hub A → Hub A → Type 0
  ContentsStay old new = (taken takes : Option (List ℕ)) (failures failures_after n : ℕ)
      → KeepsBack taken takes failures failures_after old new n → (m : ℕ)
      → is_content (behind_at new.connections.items m) ≡ is_content (behind_at old.connections.items m)

  -- a request that waits to take files waits for a content that is being sent, and is awaited
  abbrev pub AwaitsContent : Hub A → Hub A → Type 0
  AwaitsContent old new = (taken takes : Option (List ℕ)) (failures failures_after n : ℕ)
      → KeepsBack taken takes failures failures_after old new n → (files : Files)
      → behind_at new.connections.items n ≡ Waits (Takes files)
      → (m : ℕ) × (is_awaited_at new.connections.items m ≡ true)

  -- one that waits to read a file waits for another request, which waits to take it
  abbrev pub AwaitsTaker : Hub A → Hub A → Type 0
  AwaitsTaker old new = (taken takes : Option (List ℕ)) (failures failures_after n : ℕ)
      → KeepsBack taken takes failures failures_after old new n → (object file : ℕ)
      → behind_at new.connections.items n ≡ Waits (Reads object file)
      → (m : ℕ) × (waits_to_take object file (behind_at old.connections.items m) ≡ true)

  -- While nothing is being sent and no request waits, the next item is answered, unless a content was broken off,
  -- or the request is prepared, or memory ran out as it was looked at for the first time.
  abbrev pub AnswersAtOnce : Hub A → Hub A → Type 0
  AnswersAtOnce old new = (taken takes : Option (List ℕ)) (failures failures_after n : ℕ)
      → KeepsBack taken takes failures failures_after old new n
      → is_any_pending old.connections.items ≡ false
      → (behind_at old.connections.items n ≡ Broken)
      ⊎ ((is_preparing (behind_at new.connections.items n) ≡ true)
      ⊎ ((behind_at old.connections.items n ≡ Nothing)
      × (behind_at new.connections.items n ≡ Prepared)))
