-- The numbers of the faults of a hub, and of a connection that is refused.
use Rattle.std.specs.Prelude.{ℕ}
use Rattle.dep_hub.specs.declared.faults.HubFault.{HubFault}
use Rattle.dep_hub.specs.declared.faults.HubFault.TheVariants as hub
use Rattle.dep_hub.specs.declared.faults.ConnectFault.{ConnectFault}
use Rattle.dep_hub.specs.declared.faults.ConnectFault.TheVariants as connect

-- the number of a fault
abbrev pub hub_fault_number : HubFault → ℕ
hub_fault_number hub.Config = 1
hub_fault_number hub.Memory = 2

-- so of a refused connection
abbrev pub connect_fault_number : ConnectFault → ℕ
connect_fault_number connect.Full = 1
connect_fault_number connect.Memory = 2
