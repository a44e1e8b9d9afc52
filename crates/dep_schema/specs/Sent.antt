-- What was sent of the blocks that a query shows.
use Rattle.std.specs.Prelude.{◌≡◌, ◌≢◌, ◌⊎◌, ◌<◌, ℕ, List, [], ◌∷◌, ◌++◌, length, map, filter, Option, Result, Ok, Err}
use Rattle.std.specs.Io.KnownBytes.{Appends}
use Rattle.dep_types.specs.Writing.{IsProperPrefix, TakesPart}
use Rattle.sqlite.specs.Order.{Row, column}
use Rattle.sqlite.specs.declared.types.Value.{Value}
use Rattle.sqlite.specs.declared.types.Value.TheVariants.{Blob}
use Rattle.sqlite.specs.State.{State, Begins}
use Rattle.dep_tables.specs.Rowids.{InOrder}
use Rattle.dep_tables.specs.Rows.{shown_block, is_block_of, by_part_and_place}
use Rattle.dep_tables.specs.Tables.{tables_of}
use Rattle.dep_tables.specs.declared.owner.BlockOwner.{BlockOwner}
use Rattle.dep_types.specs.State as types
use Rattle.dep_types.specs.Streams.{IsStreamed}
use Rattle.dep_types.specs.declared.stream_fault.StreamFault.{StreamFault}
use Rattle.dep_types.specs.declared.stream_fault.StreamFault.TheVariants.{Writer, Store, Memory, NoSuchFile}
use Rattle.dep_row_maps.specs.TablesAre.{TablesAre}

-- the bytes of a value that is a blob
abbrev pub blob_in : Value → List ℕ
blob_in (Blob b) = b
blob_in _ = []

-- the bytes of a block as it is shown
abbrev pub blob_of : Row → List ℕ
blob_of row = blob_in (column row 2)

-- the bytes of the rows, in turn
abbrev pub joined_blobs : List Row → List ℕ
joined_blobs [] = []
joined_blobs (row ∷ rows) = blob_of row ++ joined_blobs rows

-- these are the first rows that the query shows, all of whose bytes were sent
pub record StopsBetween (sql : List ℕ) (params : Row) (old : State) (sent : List ℕ) : Type 0 where
  pub given : List Row
  pub begins : (given ≡ []) ⊎ Begins sql params old given
  pub sends : sent ≡ joined_blobs given

-- these are the first rows that the query shows; of the last of them a proper prefix was sent
pub record StopsWithin (sql : List ℕ) (params : Row) (old : State) (sent : List ℕ) : Type 0 where
  pub given : List Row
  pub row : Row
  pub part : List ℕ
  pub begins : Begins sql params old (given ++ row ∷ [])
  pub short : IsProperPrefix part (blob_of row)
  pub sends : sent ≡ joined_blobs given ++ part

-- what the outlet took of the bytes of one row, and how many they are
abbrev pub GivesSized : Option (List ℕ) → Option (List ℕ) → List ℕ → Result ℕ StreamFault → Type 0
GivesSized old new bytes (Ok n) = Appends old new bytes × (n ≡ length bytes)
GivesSized old new bytes (Err Writer) = TakesPart old new bytes
GivesSized old new bytes (Err Store) = new ≡ old
GivesSized old new bytes (Err Memory) = ⊥
GivesSized old new bytes (Err NoSuchFile) = ⊥

-- the first rows that the query shows, up to so many bytes
abbrev pub SendsSized : List ℕ → Row → State → ℕ → List ℕ → Result (Unit {0}) StreamFault → Type 0
SendsSized sql params old size sent (Ok done) = StopsBetween sql params old sent
    × (length sent ≡ size)
SendsSized sql params old size sent (Err Writer) = StopsWithin sql params old sent
SendsSized sql params old size sent (Err Store) = StopsBetween sql params old sent
    × (length sent < size)
SendsSized sql params old size sent (Err Memory) = StopsBetween sql params old sent
    × (length sent < size)
SendsSized sql params old size sent (Err NoSuchFile) = ⊥

-- the bytes begin those of these stored blocks, by part and place
pub record BeginsBlocks (stored : List Row) (sent : List ℕ) : Type 0 where
  pub all : List Row
  pub ordered : InOrder by_part_and_place (map shown_block stored) all
  pub rest : List ℕ
  pub whole : joined_blobs all ≡ sent ++ rest

-- So many bytes of the blocks, by part and place; fewer where the store failed, and where the outlet failed
-- the first bytes and not all.
abbrev pub SendsBlocks : List Row → ℕ → List ℕ → Result (Unit {0}) StreamFault → Type 0
SendsBlocks stored size sent (Ok done) = ((sent ≡ []) ⊎ BeginsBlocks stored sent)
    × (length sent ≡ size)
SendsBlocks stored size sent (Err Writer) = (h : BeginsBlocks stored sent) × (h.rest ≢ [])
SendsBlocks stored size sent (Err Store) = ((sent ≡ []) ⊎ BeginsBlocks stored sent)
    × (length sent < size)
SendsBlocks stored size sent (Err Memory) = ((sent ≡ []) ⊎ BeginsBlocks stored sent)
    × (length sent < size)
SendsBlocks stored size sent (Err NoSuchFile) = ⊥

-- the same of an owner's blocks in the tables that are seen
abbrev pub SendsBlocksOf : BlockOwner → ℕ → Result (Unit {0}) StreamFault → State → List ℕ → Type 0
SendsBlocksOf o size result s sent =
    SendsBlocks (filter (is_block_of o) (tables_of s).blocks) size sent result

-- what was sent of a file, by each state whose tables are seen
abbrev pub SendsFile : {A : Type 0} → ℕ → Result A StreamFault → State → List ℕ → Type 0
SendsFile file result seen sent =
    (s : types.State) → TablesAre (tables_of seen) s → IsStreamed s file sent result
