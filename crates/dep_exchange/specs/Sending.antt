-- Replies that are sent over an outlet, and contents behind them.
use Rattle.std.specs.Prelude.{◌≡◌, ◌⊎◌, ℕ, List, Option, IsTrue}
use Rattle.std.specs.Io.KnownBytes.{Appends}
use Rattle.dep_types.specs.Writing.{IsProperPrefix, HasRisen}
use Rattle.dep_types.specs.declared.outlet.Outlet.{Ghosts}
use Rattle.dep_types.specs.declared.store_fault.StoreFault.{StoreFault}
use Rattle.dep_types.specs.declared.store_fault.StoreFault.TheVariants.{Store, Memory}
use Rattle.dep_answers.specs.Steps.{Stepped, sent_by}
use Rattle.dep_answers.specs.declared.performed.Performed.{Performed}
use Rattle.dep_types.specs.Conditions.{Condition, Represents, HasCleanDisk, Leaves}
use Rattle.dep_exchange.specs.Performing.{Performs}
use Rattle.dep_exchange.specs.Machine.{out_of_memory, store_fault}
use Rattle.dep_exchange.specs.Causes.{CutsStored}
use Rattle.dep_exchange.specs.declared.sending.Answered.{Answered}
use Rattle.dep_exchange.specs.declared.sending.Answered.TheVariants.{Sent, GaveUp, CutShort}

-- a fixed reply in place of another was sent, or a part of it
abbrev pub IsSentUpTo : List ℕ → List ℕ → Answered → Type 0
IsSentUpTo whole sent Sent = ⊥
IsSentUpTo whole sent GaveUp = sent ≡ whole
IsSentUpTo whole sent CutShort = IsProperPrefix sent whole

-- the same over an outlet, which has failed where it is a part
abbrev pub SendsOver : (held holds : Option (List ℕ)) → (failures failures_after : ℕ) → List ℕ
    → Answered → Type 0
SendsOver held holds failures failures_after whole answer =
    (sent : List ℕ) × Appends held holds sent × IsSentUpTo whole sent answer
    × (answer ≡ CutShort → HasRisen failures failures_after)

-- an item's own reply was sent, or a part of it
abbrev pub IsReplySent : List ℕ → List ℕ → Answered → Type 0
IsReplySent whole sent Sent = sent ≡ whole
IsReplySent whole sent GaveUp = ⊥
IsReplySent whole sent CutShort = IsProperPrefix sent whole

abbrev pub SendsReply : Option (List ℕ) → Option (List ℕ) → List ℕ → Answered → Type 0
SendsReply held holds whole answer =
    (sent : List ℕ) × Appends held holds sent × IsReplySent whole sent answer

-- the fixed reply for a fault
abbrev pub fault_reply : StoreFault → List ℕ
fault_reply Store = store_fault
fault_reply Memory = out_of_memory

-- what lies outside the machine: the bytes that the outlet took, where it shows them, how often it
-- has failed, and the store
pub record Outside : Type 1 where
  pub taken : Option (List ℕ)
  pub failures : ℕ
  pub store : Condition

-- the same, by its parts
abbrev pub outside : (taken : Option (List ℕ)) → (failures : ℕ) → (store : Condition) → Outside
outside taken failures store = record { taken = taken; failures = failures; store = store }

-- what lies outside over this outlet
abbrev pub outside_of : {O : Type 0} → (g : Ghosts O) → O → Condition → Outside
outside_of g out store = outside (g.taken out) (g.failures out) store

-- from one to the other these bytes were sent; and where the disk has told no lie up to the second,
-- or the store is open there, it was so at the first
pub record Passes (old new : Outside) (sent : List ℕ) : Type 0 where
  pub appends : Appends old.taken new.taken sent
  pub honest : HasCleanDisk new.store → HasCleanDisk old.store
  pub clean : IsTrue new.store.is_open → IsTrue old.store.is_open

-- what of the reply to a step was sent, once the step was made
pub record CutsStep (stepped : Stepped) (old new : Outside) (sent : List ℕ) : Type 0 where
  pub part : IsProperPrefix sent (sent_by stepped)
  pub represents : IsTrue new.store.is_open → Represents new.store stepped.state
  pub stop : Leaves new.store (λ found. found ≡ stepped.state)
  pub cause : HasRisen old.failures new.failures ⊎ CutsStored stepped sent

-- a step was made, and all of its reply sent without a failure
pub record SendsAll (stepped : Stepped) (old new : Outside) (sent : List ℕ) : Type 0 where
  pub represents : Represents new.store stepped.state
  pub whole : sent ≡ sent_by stepped
  pub failures : new.failures ≡ old.failures

abbrev pub SendsStep : Stepped → (old new : Outside) → (sent : List ℕ) → Answered → Type 0
SendsStep stepped old new sent Sent = SendsAll stepped old new sent
SendsStep stepped old new sent GaveUp = ⊥
SendsStep stepped old new sent CutShort = CutsStep stepped old new sent

-- what is ready is sent, and the store left as it is
pub record SendsReady (old new : Outside) (p : Performed) (answer : Answered) : Type 0 where
  pub sent : List ℕ
  pub passes : Passes old new sent
  pub sends : HasCleanDisk new.store → (stepped : Stepped) → Performs stepped old.store p
      → SendsStep stepped old new sent answer
