-- What a store caches of the state for which it stands.
use Rattle.std.specs.Prelude.{◌≡◌, ◌≤◌, ℕ, length, Option, Some, IsTrue}
use Rattle.sqlite.specs.State as db
use Rattle.dep_types.specs.State.{State, File, file_at}
use Rattle.dep_types.specs.declared.config.Config.{Config}
use Rattle.dep_answers.specs.declared.performed.StoredFile.{StoredFile}
use Rattle.dep_requests.specs.declared.caching.Cache.{Cache}
use Rattle.dep_transactions.specs.States.{StoreRepresents}
use Rattle.dep_requests.specs.Caching.{IsCacheOf}

-- what is cached is that of each state for which the database stands
abbrev pub IsCached : db.State → Option Cache → Type 0
IsCached d found = (m : Cache) → found ≡ Some m → (s : State) → StoreRepresents d s → IsCacheOf m s

-- it is cached of a store that is open, where the disk has told no lie that was taken as true
abbrev pub IsOfOpen : db.State → Option Cache → Type 0
IsOfOpen d found = (m : Cache) → found ≡ Some m → db.HasCleanDisk d → IsTrue d.is_open

-- it was read of the state, at this moment or later, by the configured idle time
abbrev pub IsReadOf : Config → (moment : ℕ) → State → Cache → Type 0
IsReadOf config moment s m =
    IsCacheOf m s × (moment ≤ m.clock) × (m.max_idle ≡ config.staging_max_idle)

-- so is what may be cached
abbrev pub MayCache : Config → (moment : ℕ) → State → Option Cache → Type 0
MayCache config moment s found = (m : Cache) → found ≡ Some m → IsReadOf config moment s m

-- ---- a content that is sent

-- the file is there, with so many bytes
abbrev pub HasSize : State → (object file size : ℕ) → Type 0
HasSize s object file size = (its : File) × (file_at s object file ≡ Some its)
    × (size ≡ length its.content)

abbrev pub IsOfSize : State → StoredFile → Type 0
IsOfSize s it = HasSize s it.object it.file it.size

-- it is known of each state for which the database stands; and the store is open, over an honest disk
abbrev pub IsKnownFile : db.State → Option StoredFile → Type 0
IsKnownFile d known = (it : StoredFile) → known ≡ Some it
    → ((s : State) → StoreRepresents d s → IsOfSize s it) × (db.HasCleanDisk d → IsTrue d.is_open)
