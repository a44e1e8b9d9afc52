-- The lines of the access log.
use Rattle.std.specs.Prelude.{ℕ, List, codes}
use Rattle.dep_configuration.specs.declared.access_log.Reason.{Reason}
use Rattle.dep_configuration.specs.declared.access_log.ReserveState.{ReserveState}
use Rattle.dep_configuration.specs.declared.access_log.ReserveState.TheVariants.{GivenUp, Standing, NotWritten}
use Rattle.dep_configuration.specs.declared.access_log.Reason.TheVariants.{Idle, Slow, AddressLimit, UnfinishedLimit, ReplyCut, StoreShut, Stopping, Full, Memory}

-- why a connection was ended early, as a word of the log
abbrev pub reason_name : Reason → List ℕ
reason_name Idle = codes "idle"
reason_name Slow = codes "slow"
reason_name AddressLimit = codes "address_limit"
reason_name UnfinishedLimit = codes "unfinished_limit"
reason_name ReplyCut = codes "reply_cut"
reason_name StoreShut = codes "store_shut"
reason_name Stopping = codes "stopping"
reason_name Full = codes "full"
reason_name Memory = codes "memory"

-- what became of the reserve, as a word of the log
abbrev pub reserve_state_name : ReserveState → List ℕ
reserve_state_name GivenUp = codes "given_up"
reserve_state_name Standing = codes "standing"
reserve_state_name NotWritten = codes "not_written"
