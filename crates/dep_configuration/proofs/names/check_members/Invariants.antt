use Rattle.std.proofs.Common.{take}
use Rattle.json.specs.Strict.{keys}
use Rattle.json.specs.Value.{members_view}
use Rattle.dep_configuration.specs.Names.{AreFieldNames}
use Rattle.dep_configuration.proofs.names.check_members.Given as goal

-- the names so far are in order
abbrev pub invariant-loop-place : goal.invariant-loop-place
invariant-loop-place l = AreFieldNames (take l.place (keys (members_view l.members)))
