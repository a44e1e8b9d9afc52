-- The numbers of the faults of a body.
use Rattle.std.specs.Prelude.{ℕ}
use Rattle.dep_body.specs.declared.frame.FrameFault.{FrameFault}
use Rattle.dep_body.specs.declared.frame.FrameFault.TheVariants.{Bad, TooLarge}

-- the number of each reason why a body is refused, 1 or 2
abbrev pub frame_fault_number : FrameFault → ℕ
frame_fault_number Bad = 1
frame_fault_number TooLarge = 2
