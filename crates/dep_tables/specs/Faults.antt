-- The fault of the store that represents an error.
use Rattle.sqlite.specs.declared.error.Error.{Error}
use Rattle.sqlite.specs.declared.error.Error.TheVariants.{SqliteFailure}
use Rattle.sqlite.specs.declared.error.ErrorCode.TheVariants.{OutOfMemory}
use Rattle.dep_types.specs.declared.store_fault.StoreFault.{StoreFault}
use Rattle.dep_types.specs.declared.store_fault.StoreFault.TheVariants.{Store, Memory}

-- the fault for an error of SQLite: lack of memory, or one of the store for every other error
abbrev pub fault_for : Error → StoreFault
fault_for (SqliteFailure OutOfMemory) = Memory
fault_for _ = Store
