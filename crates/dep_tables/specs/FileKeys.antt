-- The files of an object, from a number on.
use Rattle.std.specs.Prelude.{ℕ, ◌<◌, ◌^◌, ◌&&◌, pos, Bool, [], ◌∷◌}
use Rattle.sqlite.specs.declared.types.Value.TheVariants.{Int}
use Rattle.sqlite.specs.Order.{Row}
use Rattle.dep_tables.specs.Rowids.{has_number, reaches_number}

-- an object and the number of a file
abbrev pub file_key_values : (object from : ℕ) → Row
file_key_values object from = Int (pos object) ∷ Int (pos from) ∷ []

-- both are ones of SQL's numbers
abbrev pub IsStorableFileKey : (object from : ℕ) → Type 0
IsStorableFileKey object from = (object < 2 ^ 63) × (from < 2 ^ 63)

-- a file of the object, of this number or one above it
abbrev pub is_file_from : (object from : ℕ) → Row → Bool
is_file_from object from stored = has_number 2 object stored && reaches_number 0 from stored
