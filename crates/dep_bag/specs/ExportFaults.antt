-- The numbers of an export's faults, and the faults of its source.
use Rattle.std.specs.Prelude.{ℕ}
use Rattle.dep_types.specs.declared.store_fault.StoreFault.{StoreFault}
use Rattle.dep_types.specs.declared.store_fault.StoreFault.TheVariants as store
use Rattle.dep_types.specs.declared.stream_fault.StreamFault.{StreamFault}
use Rattle.dep_types.specs.declared.stream_fault.StreamFault.TheVariants as stream
use Rattle.dep_bag.specs.declared.export_fault.ExportFault.{ExportFault}
use Rattle.dep_bag.specs.declared.export_fault.ExportFault.TheVariants.{NoSuchObject, Sink, Store, Memory}

-- the number of the fault, from 1 on
abbrev pub export_fault_number : ExportFault → ℕ
export_fault_number NoSuchObject = 1
export_fault_number Sink = 2
export_fault_number Store = 3
export_fault_number Memory = 4

-- a fault of the store that ends an export
abbrev pub export_fault_for : StoreFault → ExportFault
export_fault_for store.Store = Store
export_fault_for store.Memory = Memory

-- why an export ends where a content was not sent
abbrev pub unsent_fault : StreamFault → ExportFault
unsent_fault stream.Writer = Sink
unsent_fault stream.Store = Store
unsent_fault stream.NoSuchFile = Store
unsent_fault stream.Memory = Memory
