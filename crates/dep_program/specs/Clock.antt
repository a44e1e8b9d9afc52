-- What a reading of the clock returns.
use Rattle.std.specs.Prelude.{ℕ, ◌/◌, Result, Ok, Err}
use Rattle.std.specs.Time.{system_time_nanos}
use Rattle.std.specs.declared.time.SystemTime.{SystemTime}

-- the whole seconds since 1970, or 0 where the clock can't be read
abbrev pub whole_seconds : {E : Type 0} → Result SystemTime E → ℕ
whole_seconds (Ok time) = system_time_nanos time / 1000000000
whole_seconds (Err e) = 0
