-- What spools hold.
use Rattle.std.specs.Prelude.{◌≡◌, ℕ, ◌+◌, Option, Some, None, nat_lt, if◌then◌else◌}

-- the total with so many bytes more, if that is not above the most
abbrev pub total_with : (held count most : ℕ) → Option ℕ
total_with held count most = if nat_lt most (held + count) then None else Some (held + count)

-- the bytes that a spool holds stand between the same places of its file
pub record HoldsTheSame (begin end new_begin new_end : ℕ) : Type 0 where
  pub begins : new_begin ≡ begin
  pub ends : new_end ≡ end
