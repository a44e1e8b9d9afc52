-- Where a connection stands in the list, how the numbers follow one another, and how far
-- connections go.
use Rattle.std.specs.Prelude.{◌==◌, ◌+◌, ◌≤◌, ◌<◌, ℕ, suc, List, [], ◌∷◌, Option, None, Some, if◌then◌else◌}
use Rattle.std.specs.Option.{option_map}
use Rattle.std.specs.Coded.{×_prop, le_prop}
use Rattle.dep_hub.specs.declared.connections.Connection.{Connection}

-- the first place at which the number stands
abbrev pub place_of_number : ℕ → List Connection → Option ℕ
place_of_number number [] = None
place_of_number number (c ∷ connections) =
    if c.number == number then Some 0 else option_map suc (place_of_number number connections)

-- the numbers ascend, from one and below the other
abbrev pub Ascends : ℕ → List Connection → ℕ → Type 0
Ascends low [] high = low ≤ high
Ascends low (c ∷ connections) high = (low ≤ c.number) × Ascends (c.number + 1) connections high

pub Ascends-prop : (low : ℕ) (connections : List Connection) (high : ℕ)
    → IsProp (Ascends low connections high)
Ascends-prop low [] high = le_prop
Ascends-prop low (c ∷ connections) high =
    ×_prop le_prop (Ascends-prop (c.number + 1) connections high)

-- how many connections a hub has at most
abbrev pub most_connections : ℕ
most_connections = 1024

-- the number that no connection gets, nor one above it
abbrev pub last_number : ℕ
last_number = 4000000000000000000

-- so many bytes of a connection are read at once
abbrev pub most_read : ℕ
most_read = 65536

-- one more of so many may be there, and gets this number
abbrev pub HasPlace : (count next : ℕ) → Type 0
HasPlace count next = (count < most_connections) × (next < last_number)
