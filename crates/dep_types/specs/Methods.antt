-- What methods are (RFC 9110, section 9.2).
use Rattle.std.specs.Prelude.{Bool, true, false}
use Rattle.dep_types.specs.declared.target.Method.{Method}
use Rattle.dep_types.specs.declared.target.Method.TheVariants.{Get, Head}

-- it only reads
abbrev pub is_safe : Method → Bool
is_safe Get = true
is_safe Head = true
is_safe method = false
