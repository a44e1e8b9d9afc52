-- What a call that only reads returns and leaves.
use Rattle.std.specs.Prelude.{◌⊎◌, ℕ, List, Option, Some, None, IsTrue}
use Rattle.sqlite.specs.State as db
use Rattle.dep_types.specs.State.{State}
use Rattle.dep_types.specs.Streams.{HasContent, HasNoFile}
use Rattle.dep_row_maps.specs.TablesAre.{TablesAre}
use Rattle.dep_tables.specs.Tables.{Tables}

-- Outside a transaction, where the store is open, all is as it was. Inside one a failure may have
-- ended it as it began.
abbrev pub StaysOrRollsBack : (old new : db.State) → Type 0
StaysOrRollsBack old new = IsTrue new.is_open → db.IsUnchanged old new ⊎ db.IsRolledBack old new

-- the content, or nothing where no object has the file
abbrev pub IsLoaded : State → ℕ → Option (List ℕ) → Type 0
IsLoaded s number (Some bytes) = HasContent s number bytes
IsLoaded s number None = HasNoFile s number

-- the same of each state that has these tables
abbrev pub IsLoadedFrom : ℕ → Tables → Option (List ℕ) → Type 0
IsLoadedFrom number t found = (s : State) → TablesAre t s → IsLoaded s number found
