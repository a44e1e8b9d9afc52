-- The streams that come over the connections of a number, and the items that steps make of them.
use Rattle.std.specs.Prelude.{◌≡◌, ◌==◌, ℕ, List, [], ◌∷◌, ◌++◌, Option, Some, None, map, if◌then◌else◌}
use Rattle.std.specs.List.{flat_map, fold}
use Rattle.std.specs.Option.{option_map, option_map_or}
use Rattle.dep_message.specs.Places.{Place}
use Rattle.dep_message.specs.Stream.{Item, Spells}
use Rattle.dep_exchange.specs.Records.{ServerEvent, Connect, Arrive, Close, Stop, Record}
use Rattle.dep_server.specs.Calm.{SteppedItem, AnyCalmRun}

-- the streams of a number: one for each time that it was opened, the last of them open still or not
pub record StreamsOfNumber : Type 0 where
  pub closed : List (List ℕ)
  pub current : Option (List ℕ)

-- all of them, in their order
abbrev pub all_streams : StreamsOfNumber → List (List ℕ)
all_streams s = s.closed ++ option_map_or (λ stream. stream ∷ []) s.current []

-- a piece goes on with the stream that is open, if there is one; a stop ends it
abbrev pub with_event : ℕ → StreamsOfNumber → ServerEvent → StreamsOfNumber
with_event n s (Connect m) =
    if n == m then record { closed = all_streams s; current = Some [] } else s
with_event n s (Arrive m piece moment) =
    if n == m then record s { current = option_map (λ stream. stream ++ piece) s.current } else s
with_event n s (Close m) = if n == m then record { closed = all_streams s; current = None } else s
with_event n s Stop = record { closed = all_streams s; current = None }

abbrev pub streams_over : ℕ → List Record → StreamsOfNumber
streams_over n records =
    fold (λ s r. with_event n s r.event) (record { closed = []; current = None }) records

-- the pieces of each connection of this number, joined
abbrev pub streams_of : ℕ → List Record → List (List ℕ)
streams_of n records = all_streams (streams_over n records)

-- the items of the steps of this number, in their order
abbrev pub items_of : ℕ → List SteppedItem → List Item
items_of n steps =
    flat_map (λ t. if n == t.number then t.item ∷ [] else []) steps

-- the streams spell these items, one stream after another
pub data AreSpelled (limit : ℕ) : List (List ℕ) → List Item → Type 0 where
  no_stream : AreSpelled limit [] []
  first_stream : {stream : List ℕ} {streams : List (List ℕ)} {items later : List Item}
      {left : Place}
      → Spells limit stream items left → AreSpelled limit streams later
      → AreSpelled limit (stream ∷ streams) (items ++ later)

-- whose step it is, and when
pub record SchedulePoint : Type 0 where
  pub number : ℕ
  pub moment : ℕ

-- the schedule points of these steps, in their order
abbrev pub schedule_points_of : List SteppedItem → List SchedulePoint
schedule_points_of steps = map (λ t. record { number = t.number; moment = t.moment }) steps

-- ---- what two runs have in common

-- the same streams came, to each number its own
abbrev pub HaveSameStreams : (a b : AnyCalmRun) → Type 0
HaveSameStreams a b = (n : ℕ) → streams_of n a.run.records ≡ streams_of n b.run.records

-- they made the same items of each connection
abbrev pub HaveSameItems : (a b : AnyCalmRun) → Type 0
HaveSameItems a b = (n : ℕ) → items_of n a.steps ≡ items_of n b.steps

-- these came on the same schedule points
abbrev pub HaveSameSchedulePoints : (a b : AnyCalmRun) → Type 0
HaveSameSchedulePoints a b = schedule_points_of a.steps ≡ schedule_points_of b.steps
