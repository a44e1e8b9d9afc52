-- The numbers of the store's faults, and of the faults of sending a content.
use Rattle.std.specs.Prelude.{ℕ}
use Rattle.dep_types.specs.declared.store_fault.StoreFault.{StoreFault}
use Rattle.dep_types.specs.declared.store_fault.StoreFault.TheVariants.{Store, Memory}
use Rattle.dep_types.specs.declared.stream_fault.StreamFault.{StreamFault}
use Rattle.dep_types.specs.declared.stream_fault.StreamFault.TheVariants as stream

-- numbers that follow those of the refusals
abbrev pub store_fault_number : StoreFault → ℕ
store_fault_number Store = 20
store_fault_number Memory = 21

-- the number of each failure to send a content, 1 to 4
abbrev pub stream_fault_number : StreamFault → ℕ
stream_fault_number stream.Writer = 1
stream_fault_number stream.Store = 2
stream_fault_number stream.Memory = 3
stream_fault_number stream.NoSuchFile = 4

-- a fault of the store that ends a content
abbrev pub stream_fault_for : StoreFault → StreamFault
stream_fault_for Store = stream.Store
stream_fault_for Memory = stream.Memory
