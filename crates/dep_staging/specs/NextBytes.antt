-- The next bytes of a content, read by the place of a byte.
use Rattle.std.specs.Prelude.{◌≡◌, ℕ, suc, ◌+◌, ◌/◌, ◌%◌, ◌*◌, ◌<◌, ◌≤◌, Bool, true, false, List, [], ◌++◌, length, take, drop, Option, Some, None}
use Rattle.std.specs.Global.{Vec}
use Rattle.dep_types.specs.State.{State, File, file_at}
use Rattle.dep_tables.specs.Tables.{Tables}
use Rattle.dep_tables.specs.declared.owner.BlockOwner.TheVariants as owner
use Rattle.dep_row_maps.specs.Stored.{block_size, blocks_of}
use Rattle.dep_row_maps.specs.TablesAre.{TablesAre, IsCutBy}
use Rattle.dep_staging.specs.declared.reading_on.ByteInPart.{ByteInPart}
use Rattle.dep_staging.specs.FileBlocks.{part_of}

-- the next bytes of a content behind so many: some of them if there are any, of four blocks at most
pub record AreNextBytes (content : List ℕ) (start : ℕ) (bytes : List ℕ) : Type 0 where
  pub on : drop start content ≡ bytes ++ drop (start + length bytes) content
  pub none : bytes ≡ [] → drop start content ≡ []
  pub few : length bytes ≤ 4 * block_size

-- where there is such a file, these are the next bytes of its content
abbrev pub IsNextIn : State → (file start : ℕ) → (bytes : List ℕ) → Type 0
IsNextIn s file start bytes = (object : ℕ) (its : File) → file_at s object file ≡ Some its
    → AreNextBytes its.content start bytes

-- the part and the place there of the byte behind so many: of part 1, or of all parts, by their size
abbrev pub IsAtByte : (size : Option ℕ) → (behind : ℕ) → ByteInPart → Type 0
IsAtByte None behind at = (at.part ≡ 1) × (at.within ≡ behind)
IsAtByte (Some size) behind at =
    (0 < size) × (at.part ≡ suc (behind / size)) × (at.within ≡ behind % size)

-- what a block has behind so many of its bytes is appended
pub record AppendsBehind (block : List ℕ) (skip : ℕ) (old new : List ℕ) (some : Bool) : Type 0 where
  pub grows : new ≡ old ++ drop skip block
  pub none : some ≡ false → drop skip block ≡ []
  pub more : some ≡ true → length old < length new

-- what was read behind so many bytes of all is followed by the next of them, if there are any
pub record GrowsBy (all : List ℕ) (start : ℕ) (old new : List ℕ) (some : Bool) : Type 0 where
  pub most : ℕ
  pub grows : new ≡ old ++ take most (drop (start + length old) all)
  pub none : some ≡ false → drop (start + length old) all ≡ []
  pub more : some ≡ true → length old < length new
  pub few : length new ≤ length old + block_size

-- the first bytes of a list: some of them if there are any, of four blocks at most
pub record AreFirstBytes (all bytes : List ℕ) : Type 0 where
  pub are : bytes ≡ take (length bytes) all
  pub none : bytes ≡ [] → all ≡ []
  pub few : length bytes ≤ 4 * block_size

module _ (t : Tables) (s : State) (file : ℕ) where
  -- what is read of the file: part 1, or what is cut into parts of this size
  abbrev pub IsReadBy : TablesAre t s → (size : Option ℕ) → (all : List ℕ) → Type 0
  IsReadBy h None all = all ≡ part_of h file 1
  IsReadBy h (Some size) all = (0 < size) × IsCutBy size (h.common.parts (owner.File file)) all

  -- what was read grows
  abbrev pub GrowsAsRead : (size : Option ℕ) → (start : ℕ) → (old new : Vec ℕ) → (some : Bool) → Type 0
  GrowsAsRead size start old new some = (h : TablesAre t s) (all : List ℕ) → IsReadBy h size all
      → GrowsBy all start old.items new.items some

  -- the next bytes of it
  abbrev pub Fronts : (size : Option ℕ) → (start : ℕ) → (bytes : Vec ℕ) → Type 0
  Fronts size start bytes = (h : TablesAre t s) (all : List ℕ) → IsReadBy h size all
      → AreFirstBytes (drop start all) bytes.items

  -- how many bytes part 1 has
  abbrev pub Counts : (size : ℕ) → Type 0
  Counts size = (h : TablesAre t s) → size ≡ length (part_of h file 1)

  -- the same, where its last block stands at a place
  abbrev pub CountsTo : (last size : ℕ) → Type 0
  CountsTo last size = (h : TablesAre t s) → length (blocks_of (part_of h file 1)) ≡ last + 1
      → size ≡ length (part_of h file 1)
