-- The numbers of the faults of a disposition.
use Rattle.std.specs.Prelude.{ℕ}
use Rattle.dep_params.specs.declared.disposition.ParamFault.{ParamFault}
use Rattle.dep_params.specs.declared.disposition.ParamFault.TheVariants.{Malformed, Repeated, NoName, Memory}

-- the number of each reason why a Content-Disposition is refused, 1 to 4
abbrev pub parameter_fault_number : ParamFault → ℕ
parameter_fault_number Malformed = 1
parameter_fault_number Repeated = 2
parameter_fault_number NoName = 3
parameter_fault_number Memory = 4
