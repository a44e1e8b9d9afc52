-- What is sent of the content of a file.
use Rattle.std.specs.Prelude.{◌≡◌, ◌⊎◌, ℕ, List, [], Some, None, Result, Ok, Err}
use Rattle.dep_types.specs.State.{State, File, file_at}
use Rattle.dep_types.specs.Writing.{IsProperPrefix}
use Rattle.dep_types.specs.declared.stream_fault.StreamFault.{StreamFault}
use Rattle.dep_types.specs.declared.stream_fault.StreamFault.TheVariants.{Writer, Store, Memory, NoSuchFile}

-- some object has a file of this number, with these bytes
pub record HasContent (s : State) (number : ℕ) (bytes : List ℕ) : Type 0 where
  pub object : ℕ
  pub file : File
  pub held : file_at s object number ≡ Some file
  pub is : file.content ≡ bytes

-- no object has a file of this number
abbrev pub HasNoFile : State → ℕ → Type 0
HasNoFile s number = (n : ℕ) → file_at s n number ≡ None

-- a prefix of the content was sent, and not all of it
pub record IsPartOfContent (s : State) (number : ℕ) (sent : List ℕ) : Type 0 where
  pub whole : List ℕ
  pub has : HasContent s number whole
  pub front : IsProperPrefix sent whole

-- what was sent of a file
abbrev pub IsStreamed : {X : Type 0} → State → ℕ → List ℕ → Result X StreamFault → Type 0
IsStreamed s number sent (Ok x) = HasContent s number sent
IsStreamed s number sent (Err Writer) = IsPartOfContent s number sent
IsStreamed s number sent (Err Store) = (sent ≡ []) ⊎ IsPartOfContent s number sent
IsStreamed s number sent (Err Memory) = (sent ≡ []) ⊎ IsPartOfContent s number sent
IsStreamed s number sent (Err NoSuchFile) = (sent ≡ []) × HasNoFile s number
