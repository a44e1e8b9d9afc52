-- The numbers of the faults of a head.
use Rattle.std.specs.Prelude.{ℕ}
use Rattle.dep_head.specs.declared.head.HeadFault.{HeadFault}
use Rattle.dep_head.specs.declared.head.HeadFault.TheVariants.{NotAHead, Memory}

-- the number of each failure to read a head, 1 or 2
abbrev pub head_fault_number : HeadFault → ℕ
head_fault_number NotAHead = 1
head_fault_number Memory = 2
