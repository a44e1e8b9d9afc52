-- What is made of the database of a store that many clients are served from, and why no more are.
use Rattle.std.specs.Prelude.{◌≡◌, ℕ, List, [], ◌∷◌, ◌++◌, Option, Some, None, IsTrue, unwrap_or}
use Rattle.std.specs.Option.{option_map}
use Rattle.sqlite.specs.State as db
use Rattle.sqlite.specs.Held.{Held, state}
use Rattle.sqlite_trees.specs.declared.store.Store.{Ghosts}
use Rattle.dep_types.specs.State.{State, empty_state}
use Rattle.dep_types.specs.Conditions.{Condition}
use Rattle.dep_types.specs.Config.{IsChecked}
use Rattle.dep_types.specs.declared.config.Config.{Config}
use Rattle.dep_schema.specs.Openable.{HoldsNone}
use Rattle.dep_transactions.specs.States.{StoreRepresents, IsLeftAs, DatabaseLeaves}
use Rattle.dep_store.specs.Migrating.{KeepsDatabase}
use Rattle.dep_store.specs.declared.archive.HashingStore.{HashingStore}
use Rattle.dep_commands.specs.declared.reserved_archive.ReservedArchive.{ReservedArchive}
use Rattle.dep_application.specs.declared.logged_reserve.LoggedReserve.{LoggedReserve}
use Rattle.dep_application.specs.Starting.{IsOpened, OpeningLeaves}
use Rattle.dep_application.specs.Reserved.{reserved_call_log, reserved_condition}
use Rattle.dep_exchange.specs.ArchiveCalls.{CallLog}
use Rattle.dep_exchange.specs.Records.{World, Record, Run, first_world, stopped}
use Rattle.dep_hub.specs.declared.hub.Hub.{Hub}
use Rattle.dep_slot.specs.Causes.{Causes}
use Rattle.dep_host.specs.Actions.{HostAction}
use Rattle.dep_host.specs.Runs.{Follows}
use Rattle.dep_slot.specs.Notes.{Note}
use Rattle.dep_slot.specs.declared.limits.Limits.{Limits as Bounds}
use Rattle.std.specs.Net.Socket.{socket_ip, socket_port}
use Rattle.dep_configuration.specs.declared.configuration.Configuration.{Configuration}
use Rattle.dep_configuration.specs.declared.configuration.ServerLimits.{ServerLimits}
use Rattle.dep_sockets.specs.Acceptors.{AcceptorState, EndsHub, ServesHub}
use Rattle.dep_sockets.specs.declared.acceptor.Entrance.{Entrance}
use Rattle.dep_application.specs.declared.hosting.HostOptions.{HostOptions}
use Rattle.dep_application.specs.declared.host_log.StandardErrorLog.{StandardErrorLog}
use Rattle.dep_program.specs.declared.outcome.Outcome.{Outcome}
use Rattle.dep_program.specs.declared.outcome.Outcome.TheVariants.{Usage, StoreFault}

-- The machine went on with the records of the actions behind these, and the database represents where
-- it is. A stop leaves it so.
pub record LedBy (config : Config) (d : db.State) (first : State) (records : List Record)
    (actions : List HostAction) : Type 0 where
  pub more : List Record
  pub holds : ℕ → List ℕ
  pub follows : Follows (λ n. []) actions more holds
  pub world : World
  pub run : Run config first (records ++ more) world
  pub represents : StoreRepresents d world.state
  pub stop : DatabaseLeaves d (λ left. Run config first ((records ++ more) ++ stopped ∷ []) (first_world left))

-- It went on from the initial state over an empty database, and over one that a store left from all
-- records that may have led to what was left.
pub record IsHosted (config : Config) (old new : db.State) (actions : List HostAction) : Type 0 where
  pub fresh : IsTrue new.is_open → HoldsNone old.now.trees → LedBy config new empty_state [] actions
  pub again : IsTrue new.is_open → (found : State) → IsLeftAs old.now.trees found
      → (first : State) (records : List Record) → Run config first records (first_world found)
      → LedBy config new first records actions

-- a store with the reserve of a host
abbrev pub HostStore : Type 0 → Type 0
HostStore S = ReservedArchive (HashingStore S) LoggedReserve

-- the log of a host on standard error shows nothing of what it was told
abbrev pub unshown : StandardErrorLog → Option (List Note)
unshown log = None

-- what bounds the host's connections, as it is configured
abbrev pub host_limits : ServerLimits → Bounds
host_limits limits = record {
  idle_seconds = limits.idle_seconds;
  least_rate = limits.least_rate;
  address_connections = limits.address_connections;
  unfinished_bytes = limits.unfinished_bytes;
}

-- a hub over an archive with a reserve was served by an acceptor, and then the archive was handed back
pub record ServesReserved {A Q R K P : Type 0} (condition : A → Condition) (call_log : A → CallLog)
    (unread : R → Option (List ℕ)) (taken : K → Option (List ℕ)) (held : P → Option (List ℕ)) (size : P → ℕ)
    (causes : Causes R K P) (before after : AcceptorState R K P) (limits : Bounds)
    (hub : Hub (ReservedArchive A Q)) (back : A) (outcome : Outcome) : Type 0 where
  pub left : ReservedArchive A Q
  pub same : back ≡ left.archive
  pub log_before : StandardErrorLog
  pub log_after : StandardErrorLog
  pub serves : ServesHub (λ its. condition its.archive) (λ its. call_log its.archive) unread taken held
      size causes unshown before after log_before log_after limits hub left outcome

module _ {S R K P : Type 0} (g : Ghosts S) (unread : R → Option (List ℕ)) (taken : K → Option (List ℕ))
    (held : P → Option (List ℕ)) (size : P → ℕ) (causes : Causes R K P) where
  -- how serving many clients from a database ends, by an acceptor, and what it does
  pub data HostsDatabase (before after : AcceptorState R K P) (limits : ServerLimits) (config : Config)
      (given back : Held S) : Outcome → Type 0 where
    -- it was served from a hub over the store, and the machine went on with what was done
    hosts : {outcome : Outcome} (hub : Hub (HostStore S)) (left : HostStore S) (actions : List HostAction)
        (log_before log_after : StandardErrorLog)
        → EndsHub (reserved_condition g) (reserved_call_log g) unread taken held size causes unshown before
        after log_before log_after (host_limits limits) hub left actions outcome
        → IsOpened (reserved_condition g) config (state g given) hub
        → back ≡ left.archive.store
        → IsHosted config (state g given) (state g back) actions
        → HostsDatabase before after limits config given back outcome
    -- the configuration is refused, and the database and the acceptor left alone
    not_checked : ¬ IsChecked config → back ≡ given → after ≡ before
        → HostsDatabase before after limits config given back Usage
    -- there was no memory to check it, and they were left alone
    left_alone : back ≡ given → after ≡ before
        → HostsDatabase before after limits config given back StoreFault
    -- there was no memory for a hub, which nothing shows
    not_made : IsChecked config → IsHosted config (state g given) (state g back) []
        → after ≡ before → HostsDatabase before after limits config given back StoreFault
    -- it was not opened as a store
    not_opened : IsChecked config
        → (IsTrue (state g back).is_open → KeepsDatabase (state g given) (state g back))
        → OpeningLeaves config (state g given) (state g back) → after ≡ before
        → HostsDatabase before after limits config given back StoreFault

-- the place is as it is configured
pub record AreOptionsOf (given : Configuration) (place : HostOptions) : Type 0 where
  pub address : socket_ip place.address ≡ given.address
  pub port : socket_port place.address ≡ given.port
  pub spool_folder : place.spool_folder ≡ given.spool_folder
  pub stop_file : place.stop_file ≡ given.stop_file
  pub reserve : place.reserve_bytes ≡ given.reserve_bytes
  pub limits : place.limits ≡ given.limits

-- a text, unless it is empty
abbrev unless_empty : List ℕ → Option (List ℕ)
unless_empty [] = None
unless_empty (c ∷ text) = Some (c ∷ text)

-- where the clients of this place come in, and until when
pub record IsEntranceOf (place : HostOptions) (entrance : Entrance) : Type 0 where
  pub address : entrance.address ≡ place.address
  pub clients : entrance.clients ≡ unwrap_or place.limits.connections 18446744073709551615
  pub stop_file : option_map (λ file. file.now) entrance.stop_file ≡ unless_empty place.stop_file

-- the store of this database is served to who comes in at this place, by an acceptor over spools of its folder,
-- which hold no more than they may
pub record ServesPlace {S D R K P : Type 0} (g : Ghosts S) (unread : R → Option (List ℕ))
    (taken : K → Option (List ℕ)) (held : P → Option (List ℕ)) (size : P → ℕ)
    (causes : Causes R K P) (shown : D → AcceptorState R K P) (entrance : D → Entrance)
    (folder : D → List ℕ) (most : D → ℕ) (place : HostOptions) (config : Config)
    (given back : Held S) (outcome : Outcome) : Type 0 where
  pub before : D
  pub after : D
  pub comes_in : IsEntranceOf place (entrance before)
  pub in_folder : folder before ≡ place.spool_folder
  pub within : most before ≡ place.limits.spool_bytes
  pub hosts : HostsDatabase g unread taken held size causes (shown before) (shown after)
      place.limits config given back outcome
