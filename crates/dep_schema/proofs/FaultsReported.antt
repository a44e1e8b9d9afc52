-- The faults that end a content, each with its cause.
use Rattle.std.proofs.Common.{◌≢◌, ℕ, [], Result, Ok, Err, inl, refl}
use Rattle.dep_types.specs.State.{State}
use Rattle.dep_types.specs.StoreFaults.{stream_fault_for}
use Rattle.dep_types.specs.Streams.{IsStreamed}
use Rattle.dep_types.specs.declared.store_fault.StoreFault.{StoreFault}
use Rattle.dep_types.specs.declared.store_fault.StoreFault.TheVariants as store
use Rattle.dep_types.specs.declared.stream_fault.StreamFault.{StreamFault}
use Rattle.dep_types.specs.declared.stream_fault.StreamFault.TheVariants.{Writer, Store, Memory, NoSuchFile}
use Rattle.dep_schema.specs.Faults.{IsStoppedBy, IsStreamStoppedBy}

abbrev fails : StreamFault → Result (Unit {0}) StreamFault
fails fault = Err fault

-- an outlet that did not fail
pub none_failed : (done : Unit {0}) (fault : StreamFault) → Ok done ≢ fails fault
none_failed done fault e = cc

pub no_file_failed : fails NoSuchFile ≢ fails Writer
no_file_failed e = cc

pub store_stopped : fails Store ≢ fails Writer
store_stopped e = cc

-- no fault of the store says that no file has that number
pub store_there : fails Store ≢ fails NoSuchFile
store_there e = cc

pub asked_there : (fault : StoreFault) → fails (stream_fault_for fault) ≢ fails NoSuchFile
asked_there store.Store e = cc
asked_there store.Memory e = cc

pub asked_failed : (fault : StoreFault) → fails (stream_fault_for fault) ≢ fails Writer
asked_failed store.Store e = cc
asked_failed store.Memory e = cc

-- the cause of a fault of the store, as it is told of the blocks, and of the file
pub stopped_for : (causes : StoreFault → Type 0) (fault : StoreFault) → causes fault → IsStoppedBy causes (stream_fault_for fault)
stopped_for causes store.Store why = why
stopped_for causes store.Memory why = why

pub reported_for : (causes : StoreFault → Type 0) (fault : StoreFault) → causes fault → IsStreamStoppedBy causes (stream_fault_for fault)
reported_for causes store.Store why = why
reported_for causes store.Memory why = why

-- other causes of the blocks, and of the file
pub stopped_more : (P Q : StoreFault → Type 0) (fault : StreamFault) → ((of : StoreFault) → P of → Q of) → IsStoppedBy P fault → IsStoppedBy Q fault
stopped_more P Q Writer more why = tt
stopped_more P Q Store more why = more store.Store why
stopped_more P Q Memory more why = more store.Memory why
stopped_more P Q NoSuchFile more why = why

pub stopped_then : (P Q : StoreFault → Type 0) (fault : StreamFault) → ((of : StoreFault) → P of → Q of) → IsStoppedBy P fault → IsStreamStoppedBy Q fault
stopped_then P Q Writer more why = tt
stopped_then P Q Store more why = more store.Store why
stopped_then P Q Memory more why = more store.Memory why
stopped_then P Q NoSuchFile more why = tt

-- no size was found for a fault of the store
pub none_streamed : (s : State) (f : ℕ) (fault : StoreFault) → IsStreamed {X = Unit {0}} s f [] (Err (stream_fault_for fault))
none_streamed s f store.Store = inl refl
none_streamed s f store.Memory = inl refl
