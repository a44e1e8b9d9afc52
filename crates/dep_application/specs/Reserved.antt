-- A store with a reserve, as an archive.
use Rattle.sqlite_trees.specs.declared.store.Store.{Ghosts}
use Rattle.dep_types.specs.Conditions.{Condition}
use Rattle.dep_store.specs.HashingStores as store
use Rattle.dep_store.specs.declared.archive.HashingStore.{HashingStore}
use Rattle.dep_commands.specs.declared.reserved_archive.ReservedArchive.{ReservedArchive}
use Rattle.dep_exchange.specs.ArchiveCalls.{CallLog}

-- how a store with a reserve stands: as without one
abbrev pub reserved_condition : {S R : Type 0} → (g : Ghosts S) → ReservedArchive (HashingStore S) R → Condition
reserved_condition g its = store.condition_with_hashes g its.archive

abbrev pub reserved_call_log : {S R : Type 0} → (g : Ghosts S) → ReservedArchive (HashingStore S) R → CallLog
reserved_call_log g its = store.call_log_of g its.archive
