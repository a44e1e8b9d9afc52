-- Where the first mark in bytes ends.
use Rattle.std.specs.Prelude.{ℕ, suc, List, [], ◌∷◌, length, Option, None, Some, nat_eq, if◌then◌else◌}
use Rattle.std.specs.List.{starts_with}
use Rattle.std.specs.Option.{option_map}

-- the length of the shortest front that ends with the mark, which has some bytes
unfoldable pub mark_end : (mark bytes : List ℕ) → Option ℕ
mark_end mark [] = None
mark_end mark (b ∷ bytes) =
    if starts_with nat_eq (b ∷ bytes) mark then Some (length mark)
    else option_map suc (mark_end mark bytes)
