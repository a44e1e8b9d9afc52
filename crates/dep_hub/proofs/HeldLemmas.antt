-- Which part of the bytes that a connection holds arrives, and what its intake then keeps.
use Rattle.std.proofs.Common.{◌≡◌, ◌≢◌, ◌⊎◌, ℕ, ◌≤◌, Bool, true, List, [], ◌∷◌, ◌++◌, Some, IsTrue, refl, sym, ap, subst, ◌∙◌, arith}
use Rattle.std.proofs.lemmas.List.{append-nil}
use Rattle.std.specs.Io.KnownBytes.{Appends}
use Rattle.dep_types.specs.State.{State}
use Rattle.dep_types.specs.Writing.{HasRisen}
use Rattle.dep_types.specs.declared.config.Config.{Config}
use Rattle.dep_types.specs.Conditions.{Represents, HasCleanDisk, Leaves}
use Rattle.dep_message.specs.Places.{Place, Open, Shut, Reading, IsOpen, HasBytes, place_with}
use Rattle.dep_message.specs.Stream.{Item, FirstAt, Waits}
use Rattle.dep_exchange.specs.Records.{Line, Absent, Live, ShutLine, ReadsBeyond, Arrives, LeftByArrival}
use Rattle.dep_exchange.specs.Causes.{IsCutWhileStreaming}
use Rattle.dep_exchange.specs.Sending.{Outside}
use Rattle.dep_exchange.specs.Serving.{IsDeadIfShut}
use Rattle.dep_exchange.specs.Shut.{LeavesNoMore, IfShut, SendsFixed}
use Rattle.dep_hub.specs.Representing.{IsKeptAs}
use Rattle.dep_hub.specs.Holding.{fed, IsHeldAs, ArrivalOutcome, ArrivesAs, items_answered}
use Rattle.dep_exchange.specs.declared.arrived.Arrived.{Arrived}
use Rattle.dep_exchange.specs.declared.arrived.Arrived.TheVariants as came
use Rattle.dep_hub.proofs.HubLemmas.{beyond, open_shut}
use Rattle.dep_hub.proofs.Endings.{ending, place_nothing}

-- ---- places

open_with : (p : Place) (bytes : List ℕ) → IsOpen p → IsOpen (place_with p bytes)
open_with (Open continued rest) bytes o = tt
open_with Shut bytes o = absurd o

was_open : (p : Place) (bytes : List ℕ) → IsOpen (place_with p bytes) → IsOpen p
was_open (Open continued rest) bytes o = tt
was_open Shut bytes o = absurd o

pub no_bytes : (p : Place) → HasBytes p → p ≡ Shut → ⊥
no_bytes p b e = subst (λ q. HasBytes q) e b

pub closed_cut : came.Closed ≢ came.Cut
closed_cut e = cc

pub none_of_one : 0 ≤ 1
none_of_one = omega arith

pub one_of_one : 1 ≤ 1
one_of_one = omega arith

-- ---- one connection

-- what the arrival of a part makes of a line
pub record NextPart (config : Config) (offered : List ℕ) (moment : ℕ) (line : Line) (s : State) (sent : List ℕ) (old new : Outside) (now : Reading) (answer : Arrived) (outcome : ArrivalOutcome)
    : Type 0 where
  pub part : List ℕ
  pub rest : List ℕ
  pub whole : offered ≡ part ++ rest
  pub left : State
  pub becomes : Line
  pub arrival : Arrives config part moment line s sent left becomes answer
  pub outcome_is : outcome (items_answered arrival) rest sent
  pub represents : IsTrue new.store.is_open → Represents new.store left
  pub stays_clean : answer ≡ came.Open → IsTrue new.store.is_open
  pub kept : IsHeldAs config.max_upload becomes rest (Some now)
  pub stop : Leaves new.store (LeftByArrival arrival)
  pub cause : answer ≡ came.Cut → HasRisen old.failures new.failures ⊎ IsCutWhileStreaming arrival

-- the same from any state, which stays
pub record StillPart (config : Config) (offered : List ℕ) (moment : ℕ) (line : Line) (sent : List ℕ) (now : Reading) (answer : Arrived) (outcome : ArrivalOutcome) : Type 0 where
  pub part : List ℕ
  pub rest : List ℕ
  pub whole : offered ≡ part ++ rest
  pub becomes : Line
  pub arrival : (s : State) → ArrivesAs outcome config part moment line s sent s becomes answer rest
  pub kept : IsHeldAs config.max_upload becomes rest (Some now)

-- an intake that keeps a line, with bytes that have not arrived
pub record Keeps (limit : ℕ) (line : Line) (offered : List ℕ) (reading : Reading) : Type 0 where
  pub head_only : Reading
  pub keeps : IsKeptAs limit line (Some head_only)
  pub is_fed : reading ≡ fed head_only offered

-- the same for whatever line the intake kept, with whatever bytes more
pub record NextOver (config : Config) (reading now : Reading) (moment : ℕ) (old new : Outside) (answer : Arrived) (outcome : ArrivalOutcome) : Type 0 where
  pub sent : List ℕ
  pub appends : Appends old.taken new.taken sent
  pub parts : HasCleanDisk new.store → (line : Line) (s : State) (offered : List ℕ) → Keeps config.max_upload line offered reading → Represents old.store s
      → NextPart config offered moment line s sent old new now answer outcome
  pub sends : IfShut old.store new.store (SendsFixed sent answer × LeavesNoMore old.store new.store)
  pub still : IfShut old.store new.store ((line : Line) (offered : List ℕ) → Keeps config.max_upload line offered reading → StillPart config offered moment line sent now answer outcome)

module _ (limit : ℕ) (offered : List ℕ) (reading : Reading) where
  pub keeps_limit : (stream : List ℕ) → Keeps limit (Live stream) offered reading → reading.limit ≡ limit
  keeps_limit stream k = ap (λ (r : Reading). r.limit) k.is_fed ∙ k.keeps.same_limit

  pub ended_limit : Keeps limit ShutLine offered reading → reading.limit ≡ limit
  ended_limit k = ap (λ (r : Reading). r.limit) k.is_fed ∙ k.keeps.same_limit

  pub keeps_place : (line : Line) (k : Keeps limit line offered reading) → reading.place ≡ place_with k.head_only.place offered
  keeps_place line k = ap (λ (r : Reading). r.place) k.is_fed

  pub ended_place : Keeps limit ShutLine offered reading → reading.place ≡ Shut
  ended_place k = keeps_place ShutLine k ∙ ap (λ p. place_with p offered) k.keeps.shut

  pub live_open : (stream : List ℕ) → Keeps limit (Live stream) offered reading → IsOpen reading.place
  live_open stream k = subst (λ p. IsOpen p) (sym (keeps_place (Live stream) k)) (open_with k.head_only.place offered k.keeps.is_open)

  pub ended_dead : Keeps limit ShutLine offered reading → reading.is_dead ≡ true
  ended_dead k = ap (λ (r : Reading). r.is_dead) k.is_fed ∙ k.keeps.dead

  pub keeps_dead : (line : Line) → Keeps limit line offered reading → IsDeadIfShut reading
  keeps_dead Absent k = absurd k.keeps
  keeps_dead (Live stream) k = λ shut. absurd (open_shut reading.place (live_open stream k) shut)
  keeps_dead ShutLine k = λ _. ended_dead k

  -- the first item of the bytes is that of what the line keeps, with those that were offered
  pub first_of : (stream : List ℕ) (item : Item) (next : Place) (k : Keeps limit (Live stream) offered reading) → FirstAt reading.limit reading.place item next
      → FirstAt limit (place_with k.head_only.place offered) item next
  first_of stream item next k f =
      subst (λ p. FirstAt limit p item next) (keeps_place (Live stream) k) (subst (λ n. FirstAt n reading.place item next) (keeps_limit stream k) f)

  pub no_first : (item : Item) (next : Place) → Keeps limit ShutLine offered reading → FirstAt reading.limit reading.place item next → ⊥
  no_first item next k f = subst (λ p. FirstAt reading.limit p item next) (ended_place k) f

-- these items are read of a part, and the connection stays open
pub record Reaches (limit : ℕ) (stream offered : List ℕ) (items : List Item) (now : Reading) : Type 0 where
  pub part : List ℕ
  pub rest : List ℕ
  pub continued : Bool
  pub bytes : List ℕ
  pub whole : offered ≡ part ++ rest
  pub reads : ReadsBeyond limit stream part items (Open continued bytes)
  pub is_waiting : Waits limit (Open continued bytes)
  pub kept : IsHeldAs limit (Live (stream ++ part)) rest (Some now)

held_open : (limit : ℕ) (stream part rest : List ℕ) (items : List Item) (continued : Bool) (bytes : List ℕ) (now : Reading) → ReadsBeyond limit stream part items (Open continued bytes)
    → Waits limit (Open continued bytes) → now.limit ≡ limit → now.place ≡ place_with (Open continued bytes) rest → IsHeldAs limit (Live (stream ++ part)) rest (Some now)
held_open limit stream part rest items continued bytes now r w l p = (
  record { limit = now.limit; place = Open continued bytes; is_dead = now.is_dead },
  record { items = r.0 ++ items; same_limit = l; spells = record { reads = r.3; waits = w }; is_open = tt },
  λ i. record { limit = now.limit; place = p i; is_dead = now.is_dead },
)

reaches : (limit : ℕ) (stream offered part rest : List ℕ) (items : List Item) (at : Place) (now : Reading) → IsOpen at → offered ≡ part ++ rest
    → ReadsBeyond limit stream part items at → Waits limit at → now.limit ≡ limit → now.place ≡ place_with at rest → Reaches limit stream offered items now
reaches limit stream offered part rest items (Open continued bytes) now o whole r w l p = record {
  part = part;
  rest = rest;
  continued = continued;
  bytes = bytes;
  whole = whole;
  reads = r;
  is_waiting = w;
  kept = held_open limit stream part rest items continued bytes now r w l p;
}
reaches limit stream offered part rest items Shut now o whole r w l p = absurd o

-- an item was answered, and the connection goes on
pub reaches_next : (limit : ℕ) (stream offered : List ℕ) (reading now : Reading) (item : Item) → Keeps limit (Live stream) offered reading → now.limit ≡ reading.limit
    → FirstAt reading.limit reading.place item now.place → IsOpen now.place → Reaches limit stream offered (item ∷ []) now
reaches_next limit stream offered reading now item k same f o =
    let y = ending limit k.head_only.place offered item now.place k.keeps.spells.waits (first_of limit offered reading stream item now.place k f) in
    reaches limit stream offered y.part y.rest (item ∷ []) y.at now (was_open y.at y.rest (subst (λ p. IsOpen p) y.goes_on o)) y.whole
    (beyond limit stream y.part k.head_only k.keeps (item ∷ []) y.at (y.at, y.first, refl)) y.waits (same ∙ keeps_limit limit offered reading stream k) y.goes_on

-- no item is complete: all of the bytes arrive
pub reaches_none : (limit : ℕ) (stream offered : List ℕ) (reading now : Reading) → Keeps limit (Live stream) offered reading → now.limit ≡ reading.limit → now.place ≡ reading.place
    → Waits reading.limit reading.place → (r : Reaches limit stream offered [] now) × (r.rest ≡ [])
reaches_none limit stream offered reading now k same stays w = by_place reading.place refl (live_open limit offered reading stream k)
  where
    by_place : (at : Place) → reading.place ≡ at → IsOpen at → (r : Reaches limit stream offered [] now) × (r.rest ≡ [])
    by_place (Open continued bytes) e o =
        let reads = beyond limit stream offered k.head_only k.keeps [] (Open continued bytes) (sym e ∙ keeps_place limit offered reading (Live stream) k) in
        let waits : Waits limit (Open continued bytes) = subst (λ p. Waits limit p) e (subst (λ n. Waits n reading.place) (keeps_limit limit offered reading stream k) w) in (
          record {
            part = offered;
            rest = [];
            continued = continued;
            bytes = bytes;
            whole = sym (append-nil offered);
            reads = reads;
            is_waiting = waits;
            kept = held_open limit stream offered [] [] continued bytes now reads waits (same ∙ keeps_limit limit offered reading stream k) (stays ∙ (e ∙ sym (place_nothing (Open continued bytes))));
          },
          refl,
        )
    by_place Shut e o = absurd o
