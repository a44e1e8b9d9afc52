-- The parts of an outlet over a writer.
use Rattle.std.specs.Prelude.{ℕ}
use Rattle.dep_types.specs.declared.through.Through.{Through}

-- what the outlet writes to
abbrev pub writer_of : {W : Type 0} → Through W → W
writer_of t = t.writer

-- how many writes of the outlet have failed
abbrev pub failures_of : {W : Type 0} → Through W → ℕ
failures_of t = t.failures
