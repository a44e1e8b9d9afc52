-- What a limit may be, and which moments and numbers there are.
use Rattle.std.specs.Prelude.{ℕ, ◌<◌, ◌≤◌, ◌^◌}

-- at least 1, and at most the greatest
pub record IsLimit (limit greatest : ℕ) : Type 0 where
  pub least : 1 ≤ limit
  pub most : limit ≤ greatest

-- the last second of the year 9999, in seconds since 1970
abbrev pub greatest_moment : ℕ
greatest_moment = 253402300799

-- a number that a table can hold, whose numbers have 63 bits and a sign
abbrev pub IsStorable : ℕ → Type 0
IsStorable n = n < 2 ^ 63
