-- The number of the fault of a Digest field.
use Rattle.std.specs.Prelude.{ℕ}
use Rattle.dep_fixity.specs.declared.field.DigestFault.{DigestFault}
use Rattle.dep_fixity.specs.declared.field.DigestFault.TheVariants.{Unreadable}

-- the number of the one reason why a Digest field can't be read
abbrev pub digest_fault_number : DigestFault → ℕ
digest_fault_number Unreadable = 1
