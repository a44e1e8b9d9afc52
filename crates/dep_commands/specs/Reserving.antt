-- Which requests an archive rejects whose reserve was given up.
use Rattle.std.specs.Prelude.{Bool, true, false, not, ◌&&◌, nat_lt, length, Option, None, Some}
use Rattle.dep_types.specs.declared.target.Method.{Method}
use Rattle.dep_types.specs.declared.target.Method.TheVariants.{Get, Head, Post, Put, Delete}
use Rattle.dep_decisions.specs.declared.operation.Operation.{Operation}

-- it keeps what it is sent, if it is accepted
abbrev pub takes_content : Method → Bool
takes_content Get = false
takes_content Head = false
takes_content Post = true
takes_content Put = true
takes_content Delete = false

-- the request brings a content that takes room
abbrev pub brings_content : Operation → Bool
brings_content op = takes_content op.target.method && nat_lt 0 (length op.content)

-- there is a reserve, and it does not stand
abbrev pub is_low : {R : Type 0} → (is_standing : R → Bool) → Option R → Bool
is_low is_standing None = false
is_low is_standing (Some reserve) = not (is_standing reserve)

-- the request is rejected
abbrev pub turns_away : {R : Type 0} → (is_standing : R → Bool) → Option R → Operation → Bool
turns_away is_standing reserve op = is_low is_standing reserve && brings_content op
