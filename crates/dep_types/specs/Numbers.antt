-- Numbers of the archive: how a path writes one, and whether more can be given.
use Rattle.std.specs.Prelude.{ℕ, ◌+◌, ◌==◌, ◌||◌, ◌&&◌, nat_le, Bool, List, ◌++◌, Option, codes, decimal}
use Rattle.dep_octets.specs.Octets.{positive_number}
use Rattle.dep_types.specs.declared.counters.Counters.{Counters}

-- the greatest number of an object, a file, an upload or a change, and the first one that is
-- never given
abbrev pub greatest_number : ℕ
greatest_number = 4000000000000000000

-- a number as a path writes it
abbrev pub number_in : List ℕ → Option ℕ
number_in text = positive_number text greatest_number

-- an entity tag as it stands in a field (RFC 9110, section 8.8.3)
abbrev pub quoted_tag : ℕ → List ℕ
quoted_tag tag = codes "\"" ++ decimal tag ++ codes "\""

-- so many numbers of objects, files, uploads and changes
abbrev pub numbers : (object file upload change : ℕ) → Counters
numbers object file upload change =
    record { object = object; file = file; upload = upload; change = change }

-- the counters once numbers are taken
abbrev pub counters_after : Counters → Counters → Counters
counters_after next taken =
    numbers (next.object + taken.object) (next.file + taken.file) (next.upload + taken.upload)
    (next.change + taken.change)

-- numbers up to the greatest are given, and none beyond
abbrev pub has_room : (next wanted : ℕ) → Bool
has_room next wanted = (wanted == 0) || nat_le (next + wanted) greatest_number

-- so many numbers can be given of each kind: objects, files, uploads and changes
unfoldable pub room_for : Counters → Counters → Bool
room_for next taken =
    has_room next.object taken.object && has_room next.file taken.file
    && has_room next.upload taken.upload && has_room next.change taken.change
