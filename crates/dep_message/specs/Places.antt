-- Where the reading of a stream stands.
use Rattle.std.specs.Prelude.{ℕ, ◌+◌, Bool, true, List, [], ◌∷◌, ◌++◌, length, if◌then◌else◌}

-- before these bytes, or at an end behind which no byte is read; continued: the client of the request that
-- stands first was sent `100 Continue`
pub data Place : Type 0 where
  Open : (continued : Bool) (rest : List ℕ) → Place
  Shut : Place

-- the place once more bytes have come
abbrev pub place_with : Place → List ℕ → Place
place_with (Open continued rest) piece = Open continued (rest ++ piece)
place_with Shut piece = Shut

-- some byte of the next item is there
abbrev pub HasBytes : Place → Type 0
HasBytes (Open continued []) = ⊥
HasBytes (Open continued (byte ∷ bytes)) = Unit {0}
HasBytes Shut = ⊥

-- what an intake keeps: the greatest content, where its reading stands, and whether it is dead, as it is once
-- a fault was returned or it was shut
pub record Reading : Type 0 where
  pub limit : ℕ
  pub place : Place
  pub is_dead : Bool

-- the reading once the intake was shut
abbrev pub shut_reading : Reading → Reading
shut_reading reading = record { limit = reading.limit; place = Shut; is_dead = true }

-- how much is left to read: each byte counts twice, and a `100 Continue` for the first request once
abbrev pub left_to_read : Place → ℕ
left_to_read (Open continued rest) = length rest + length rest + (if continued then 1 else 2)
left_to_read Shut = 0

abbrev pub IsOpen : Place → Type 0
IsOpen (Open continued rest) = Unit {0}
IsOpen Shut = ⊥
