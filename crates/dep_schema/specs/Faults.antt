-- What ends a content: the store's faults, and the outlet's.
use Rattle.std.specs.Prelude.{◌≡◌, ◌≢◌, ⊤, ℕ, Result, Err, OnOk}
use Rattle.dep_types.specs.Writing.{HasRisen}
use Rattle.dep_types.specs.declared.store_fault.StoreFault.{StoreFault}
use Rattle.dep_types.specs.declared.store_fault.StoreFault.TheVariants as store
use Rattle.dep_types.specs.declared.stream_fault.StreamFault.{StreamFault}
use Rattle.dep_types.specs.declared.stream_fault.StreamFault.TheVariants.{Writer, Store, Memory, NoSuchFile}

-- Where the outlet did not fail, the store's fault has such a cause. No blocks are asked of a file that isn't there.
abbrev pub IsStoppedBy : (StoreFault → Type 0) → StreamFault → Type 0
IsStoppedBy causes Writer = ⊤
IsStoppedBy causes Store = causes store.Store
IsStoppedBy causes Memory = causes store.Memory
IsStoppedBy causes NoSuchFile = ⊥

-- the same, where the file is there
abbrev pub IsStreamStoppedBy : (StoreFault → Type 0) → StreamFault → Type 0
IsStreamStoppedBy causes NoSuchFile = ⊤
IsStreamStoppedBy causes fault = IsStoppedBy causes fault

-- the outlet failed once more where this fault is returned, and else not
pub record BlamesOutlet {A E : Type 0} (blame : E) (were are : ℕ) (result : Result A E) : Type 0 where
  pub kept : OnOk result (are ≡ were)
  pub cause : result ≡ Err blame → HasRisen were are
  pub others : result ≢ Err blame → are ≡ were
