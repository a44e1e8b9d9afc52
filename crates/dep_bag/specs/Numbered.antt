-- The number of the file that can stand at a path of a bag.
use Rattle.std.specs.Prelude.{ℕ, ◌==◌, List, Option, None, take, drop, codes, bytes_eq, if◌then◌else◌}
use Rattle.std.specs.List.{before_first}
use Rattle.dep_octets.specs.Octets.{decimal_number, value_of}

-- the greatest number that a table can hold
abbrev pub greatest_stored : ℕ
greatest_stored = 9223372036854775807

-- the number that digits write, where a table can hold it
abbrev pub number_written : (digits : List ℕ) → Option ℕ
number_written digits = value_of (decimal_number digits greatest_stored)

-- the number before the first slash behind the folder of the payload
abbrev pub file_number : (path : List ℕ) → Option ℕ
file_number path =
    if bytes_eq (take 5 path) (codes "data/") then
    number_written (before_first (λ b. b == 47) (drop 5 path)) else None
