-- How far uploads were hashed before a request needs their digests.
use Rattle.std.specs.Prelude.{◌≡◌, ◌≢◌, ◌⊎◌, ℕ, ◌+◌, ◌<◌, ◌≤◌, List, [], ◌++◌, take, Contains, Some, unwrap_or, IsTrue}
use Rattle.std.specs.List.{flat_map, range_with_len}
use Rattle.std.specs.Option.{option_map_or}
use Rattle.std.specs.FinMap as map
use Rattle.dep_types.specs.Maps.{Numbered}
use Rattle.dep_types.specs.Sound.{IsSound}
use Rattle.dep_types.specs.State.{State, Upload}
use Rattle.dep_types.specs.Uploads.{is_complete}
use Rattle.dep_fixity.specs.Fixity.{HashesMessage}
use Rattle.dep_row_maps.specs.Stored.{blocks_of}
use Rattle.dep_staging.specs.declared.running.RunningHash.{RunningHash}
use Rattle.dep_staging.specs.declared.running.RunningHashes.{RunningHashes}

-- the bytes of a segment, none where it was not received
abbrev pub segment_bytes : Numbered (List ℕ) → (number : ℕ) → List ℕ
segment_bytes segments k = unwrap_or (map.get segments k) []

-- those of so many segments from this number on
abbrev pub segment_bytes_from : Numbered (List ℕ) → (first count : ℕ) → List ℕ
segment_bytes_from segments first count = flat_map (segment_bytes segments) (range_with_len first count)

-- the first blocks of a content
abbrev pub first_blocks : (count : ℕ) → List ℕ → List ℕ
first_blocks count content = flat_map (λ block. block) (take count (blocks_of content))

-- the segment was received
abbrev pub WasReceived : Numbered (List ℕ) → (number : ℕ) → Type 0
WasReceived segments k = (bytes : List ℕ) × (map.get segments k ≡ Some bytes)

-- just its first segments were hashed, each of which was received, and the first blocks of the next one
pub record HasHashed (segments : Numbered (List ℕ)) (run : RunningHash) : Type 0 where
  pub holds : HashesMessage run.hasher
      (segment_bytes_from segments 1 run.segments ++ first_blocks run.blocks (segment_bytes segments (run.segments + 1)))
  pub whole : (k : ℕ) → 1 ≤ k → k ≤ run.segments → WasReceived segments k
  pub begun : run.blocks ≢ 0 → WasReceived segments (run.segments + 1)

-- nothing was hashed
pub record HasHashedNothing (run : RunningHash) : Type 0 where
  pub segments : run.segments ≡ 0
  pub blocks : run.blocks ≡ 0
  pub holds : HashesMessage run.hasher []

-- the number of its upload was given, and what was hashed is what was received, where it is there
pub record IsHashOfReceived (s : State) (run : RunningHash) : Type 0 where
  pub given : run.upload < s.next.upload
  pub hashed : (it : Upload) → map.get s.uploads run.upload ≡ Some it → HasHashed it.segments run

abbrev pub IsRunning : State → RunningHash → Type 0
IsRunning s run = HasHashedNothing run ⊎ IsHashOfReceived s run

-- so it is still of the same upload
abbrev pub HasGoneOn : State → (before now : RunningHash) → Type 0
HasGoneOn s before now = IsRunning s now × (now.upload ≡ before.upload)

-- those that are kept, each with the number under which it is found
abbrev pub kept_of : RunningHashes → List (ℕ × RunningHash)
kept_of runs = option_map_or (λ cache. cache.entries) runs.kept []

-- each of them is so, and is found under the number of its own upload
abbrev pub AreRunning : State → RunningHashes → Type 0
AreRunning s runs = (kept : ℕ × RunningHash) → Contains (kept_of runs) kept
    → IsRunning s kept.1 × (kept.1.upload ≡ kept.0)

-- so it stays, and this holds too
abbrev pub Hashes : State → (before now : RunningHashes) → (reported : Type 0) → Type 0
Hashes s before now reported = IsSound s → AreRunning s before → AreRunning s now × reported

-- where there is such an upload, which comes in so many segments, each of them was received
abbrev pub LacksNone : State → (upload count : ℕ) → Type 0
LacksNone s u count = (it : Upload) → map.get s.uploads u ≡ Some it → count ≡ it.count
    → IsTrue (is_complete it)
