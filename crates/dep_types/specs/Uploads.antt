-- The segments of an upload, and what they make when all are there.
use Rattle.std.specs.Prelude.{ℕ, ◌-◌, ◌*◌, ◌==◌, ◌&&◌, nat_lt, nat_le, Bool, List, [], unwrap_or, if◌then◌else◌}
use Rattle.std.specs.List.{range_with_len, list_all, flat_map}
use Rattle.std.specs.FinMap as map
use Rattle.dep_types.specs.State.{Upload}

-- the numbers of its segments, 1 to its count
abbrev pub segment_numbers : Upload → List ℕ
segment_numbers u = range_with_len 1 u.count

abbrev pub has_segment : Upload → ℕ → Bool
has_segment u k = map.contains_key u.segments k

-- each of its segments was received
abbrev pub is_complete : Upload → Bool
is_complete u = list_all (has_segment u) (segment_numbers u)

-- the bytes of segment 1, then 2, and so on to its count
abbrev pub assembled : Upload → List ℕ
assembled u = flat_map (λ k. unwrap_or (map.get u.segments k) []) (segment_numbers u)

-- so many segments of this size hold just so many bytes, and none of them is empty
abbrev pub sizes_agree : (size count segment_size : ℕ) → Bool
sizes_agree size count segment_size =
    nat_lt ((count - 1) * segment_size) size && nat_le size (count * segment_size)

-- the length of a segment: the last one has the rest
abbrev pub segment_length : Upload → ℕ → ℕ
segment_length u k =
    if k == u.count then u.size - (u.count - 1) * u.segment_size else u.segment_size
