-- Why the blocks of an owner, and the content of a file, were not all read; why files were not checked or hashed.
use Rattle.std.specs.List.{Contains}
use Rattle.std.specs.Prelude.{◌≡◌, ◌≢◌, ◌⊎◌, ℕ, ◌<◌, ◌≤◌, ◌-◌, ◌^◌, pos, List, [], ◌∷◌, ◌++◌, length, Option, None, Some, IsSomeAnd, option_map}
use Rattle.sqlite.specs.declared.types.Value.TheVariants.{Int}
use Rattle.sqlite.specs.Order.{Row, column}
use Rattle.sqlite.specs.State.{State, Shown, Begins}
use Rattle.dep_tables.specs.Rowids.{row_at}
use Rattle.dep_types.specs.declared.store_fault.StoreFault.{StoreFault}
use Rattle.dep_types.specs.declared.store_fault.StoreFault.TheVariants.{Store, Memory}
use Rattle.dep_types.specs.State as types
use Rattle.dep_types.specs.Streams.{IsPartOfContent}
use Rattle.dep_row_maps.specs.TablesAre.{TablesAre}
use Rattle.dep_tables.specs.Clauses.{AtMostOne, FailsToAsk, FailsToReadNumbers}
use Rattle.dep_tables.specs.Rows.{HasAt, IsBytesValue, IsNumberRow, IsNumberValue, IsStorableOwner, owner_values}
use Rattle.dep_tables.specs.Tables.{tables_of}
use Rattle.dep_tables.specs.Texts.{blocks_of_text, find_sha512_text, sha256s_of_text}
use Rattle.dep_tables.specs.declared.owner.BlockOwner.{BlockOwner}
use Rattle.dep_tables.specs.declared.owner.BlockOwner.TheVariants as owner
use Rattle.dep_tables.specs.declared.sha512s.FileSha512.{FileSha512}
use Rattle.dep_types.specs.declared.stream_fault.StreamFault.{StreamFault}
use Rattle.dep_schema.specs.Faults.{IsStoppedBy, IsStreamStoppedBy}
use Rattle.dep_schema.specs.Fixity.{HasFixity, number_if_damaged, sha256_rows}
use Rattle.dep_schema.specs.Sha512s.{next_file_text, IsFileAfter, IsReached, IsValueAfter}
use Rattle.dep_schema.specs.Sent.{joined_blobs}
use Rattle.dep_schema.specs.Sizes.{IsSizeRow, find_size_text, size_values, shown_size}
use Rattle.dep_schema.specs.declared.auditing.FileFixity.{FileFixity}
use Rattle.dep_schema.specs.declared.sizes.FileSize.{FileSize}

-- Why just so many bytes were not read of the blocks that a query shows; with no number, all of them.
pub data FailsToGive (sql : List ℕ) (params : Row) (size : Option ℕ) (old new : State)
    (fault : StoreFault) : Type 0 where
  -- the query failed, at its first row or at a later one
  query_failed : FailsToAsk sql params old new fault → FailsToGive sql params size old new fault
  -- its rows have fewer bytes
  too_few : (rows : List Row) → Shown sql params old old rows
      → IsSomeAnd size (λ n. length (joined_blobs rows) < n) → fault ≡ Store
      → FailsToGive sql params size old new fault
  -- a row has no bytes, or more than are left
  unread : (given : List Row) (next : Row) → Begins sql params old (given ++ next ∷ [])
      → (¬ (IsBytesValue (column next 2)))
      ⊎ IsSomeAnd size (λ n. n < length (joined_blobs (given ++ next ∷ []))) → fault ≡ Store
      → FailsToGive sql params size old new fault
  -- there are more rows than are counted
  uncounted : (given : List Row) → Begins sql params old given → 2 ^ 64 - 1 ≤ length given
      → fault ≡ Store → FailsToGive sql params size old new fault

-- why they were not all sent, where the outlet did not fail
abbrev pub FailsToSend : List ℕ → Row → ℕ → State → State → StreamFault → Type 0
FailsToSend sql params size old new = IsStoppedBy (FailsToGive sql params (Some size) old new)

-- why the blocks of an owner were not all read
pub data FailsToGiveBlocks (o : BlockOwner) (size : Option ℕ) (old new : State)
    (fault : StoreFault) : Type 0 where
  no_owner : ¬ (IsStorableOwner o) → fault ≡ Store → FailsToGiveBlocks o size old new fault
  not_given : FailsToGive blocks_of_text (owner_values o) size old new fault
      → FailsToGiveBlocks o size old new fault

-- why they were not sent, where the outlet did not fail
abbrev pub FailsToSendBlocks : BlockOwner → ℕ → State → State → StreamFault → Type 0
FailsToSendBlocks o size old new = IsStoppedBy (FailsToGiveBlocks o (Some size) old new)

-- why the rows were not shown of a query for a number
abbrev pub FailsToAskFor : List ℕ → ℕ → State → State → StoreFault → Type 0
FailsToAskFor sql number old new fault =
    ((¬ (number < 2 ^ 63)) × (fault ≡ Store))
    ⊎ FailsToAsk sql (Int (pos number) ∷ []) old new fault

-- why the size of a file was not found
pub data FailsToFindSize (file : ℕ) (old new : State) (fault : StoreFault) : Type 0 where
  no_number : ¬ (file < 2 ^ 63) → fault ≡ Store → FailsToFindSize file old new fault
  not_reported : FailsToReadNumbers (AtMostOne IsSizeRow) find_size_text (Int (pos file) ∷ []) old new
      fault → FailsToFindSize file old new fault

-- why the content of a file that is there was not sent, by an outlet that did not fail
pub data FailsToStream (file : ℕ) (old new : State) (fault : StoreFault) : Type 0 where
  no_size : FailsToFindSize file old new fault → FailsToStream file old new fault
  no_blocks : (found : FileSize)
      → option_map shown_size (row_at (tables_of old).files file) ≡ Some (size_values found)
      → FailsToGiveBlocks (owner.File file) (Some found.size) old new fault
      → FailsToStream file old new fault

-- why a content was not sent, where the file is there and the outlet did not fail
abbrev pub FailsToSendFile : ℕ → State → State → StreamFault → Type 0
FailsToSendFile file old new = IsStreamStoppedBy (FailsToStream file old new)

-- why a content was not loaded; behind a part of it, for lack of memory to keep it
pub data FailsToLoad (file : ℕ) (old new : State) (fault : StoreFault) : Type 0 where
  not_streamed : FailsToStream file old new fault → FailsToLoad file old new fault
  not_kept : ((s : types.State) → TablesAre (tables_of old) s
      → (sent : List ℕ) × IsPartOfContent s file sent) → fault ≡ Memory
      → FailsToLoad file old new fault

-- why the SHA-512 that is kept of an owner was not found
pub data FailsToFindSha512 (o : BlockOwner) (old new : State) (fault : StoreFault) : Type 0 where
  no_owner : ¬ (IsStorableOwner o) → fault ≡ Store → FailsToFindSha512 o old new fault
  not_reported : FailsToAsk find_sha512_text (owner_values o) old new fault → FailsToFindSha512 o old new fault

-- why the files of an object were not listed
pub data FailsToListSha256s (object : ℕ) (old new : State) (fault : StoreFault) : Type 0 where
  no_number : ¬ (object < 2 ^ 63) → fault ≡ Store → FailsToListSha256s object old new fault
  not_reported : FailsToAsk sha256s_of_text (Int (pos object) ∷ []) old new fault
      → FailsToListSha256s object old new fault

-- why the digests of a file in the list were not found
pub data FailsToFindFixity (row : Row) (old new : State) (fault : StoreFault) : Type 0 where
  no_file : ¬ (HasAt IsNumberValue row 0) → fault ≡ Store → FailsToFindFixity row old new fault
  no_sha512 : (file : ℕ) → column row 0 ≡ Int (pos file) → FailsToFindSha512 (owner.File file) old new fault
      → FailsToFindFixity row old new fault
  no_blocks : (file : ℕ) → column row 0 ≡ Int (pos file)
      → FailsToGiveBlocks (owner.File file) None old new fault → FailsToFindFixity row old new fault

-- why a file was not checked; where it is damaged, for lack of memory to note it
pub data FailsToCheck (row : Row) (old new : State) (fault : StoreFault) : Type 0 where
  not_found : FailsToFindFixity row old new fault → FailsToCheck row old new fault
  not_noted : (found : FileFixity) → HasFixity (tables_of old) row found
      → number_if_damaged found ≢ [] → fault ≡ Memory → FailsToCheck row old new fault

-- the files of an object were not listed; or one of them was not checked, where the tables were as at first
abbrev pub FailsToAudit : {T : Type 0} → (T → State) → ℕ → State → State → StoreFault → Type 0
FailsToAudit {T} state object old new fault =
    FailsToListSha256s object old new fault
    ⊎ ((row : Row) × Contains (sha256_rows object (tables_of old)) row
    × (at : T) × ((state at).now ≡ old.now) × FailsToCheck row (state at) new fault)

-- why the next file behind a number was not found
pub data FailsToFindFile (after : ℕ) (old new : State) (fault : StoreFault) : Type 0 where
  no_number : ¬ (after < 2 ^ 63) → fault ≡ Store → FailsToFindFile after old new fault
  not_reported : FailsToReadNumbers (AtMostOne IsNumberRow) next_file_text (Int (pos after) ∷ []) old new
      fault → FailsToFindFile after old new fault

-- why its value was not computed
pub data FailsToHashNext (after : ℕ) (old new : State) (fault : StoreFault) : Type 0 where
  no_file : FailsToFindFile after old new fault → FailsToHashNext after old new fault
  no_blocks : (file : ℕ) → IsFileAfter (tables_of old) after (Some file)
      → FailsToGiveBlocks (owner.File file) None old new fault → FailsToHashNext after old new fault

-- The value of the file behind one of the numbers was not computed, where the tables were as at first; or there was no
-- memory to keep it.
abbrev pub FailsToHashFiles : {T : Type 0} → (T → State) → State → State → StoreFault → Type 0
FailsToHashFiles {T} state old new fault =
    (after : ℕ) × IsReached (tables_of old) after
    × (((at : T) × ((state at).now ≡ old.now) × FailsToHashNext after (state at) new fault)
    ⊎ ((value : FileSha512) × IsValueAfter (tables_of old) after (Some value) × (fault ≡ Memory)))
