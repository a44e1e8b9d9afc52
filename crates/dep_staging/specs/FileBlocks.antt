-- The blocks of a part of a file.
use Rattle.std.specs.Prelude.{◌≡◌, ℕ, ◌+◌, List, [], length, Option, unwrap_or, option_map, slice_get}
use Rattle.std.specs.Global.{Vec}
use Rattle.std.specs.Option.{option_map_or}
use Rattle.std.specs.FinMap as map
use Rattle.dep_types.specs.State.{State}
use Rattle.dep_tables.specs.Tables.{Tables}
use Rattle.dep_tables.specs.declared.owner.BlockPlace.{BlockPlace}
use Rattle.dep_tables.specs.declared.owner.BlockOwner.TheVariants as owner
use Rattle.dep_row_maps.specs.Stored.{blocks_of}
use Rattle.dep_row_maps.specs.TablesAre.{TablesAre}

module _ {t : Tables} {s : State} (h : TablesAre t s) (file : ℕ) where
  -- a part, as the tables have it
  abbrev pub part_of : (part : ℕ) → List ℕ
  part_of part = unwrap_or (map.get (h.common.parts (owner.File file)) part) []

  -- the block at a place of a part, if there is one
  abbrev pub IsPartBlock : BlockPlace → Option (Vec ℕ) → Type 0
  IsPartBlock at found =
      option_map (λ bytes. bytes.items) found ≡ slice_get (blocks_of (part_of at.part)) at.place

  -- the place of the last block of a part, if it has one
  abbrev pub IsLastOf : (part : ℕ) → Option ℕ → Type 0
  IsLastOf part found = length (blocks_of (part_of part)) ≡ option_map_or (λ last. last + 1) found 0
