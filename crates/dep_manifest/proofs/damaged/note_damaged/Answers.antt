use Rattle.std.proofs.Common.{rules}
use Rattle.dep_manifest.proofs.damaged.note_damaged.Goals as goal

-- (a wrong body is refused here by one search)
pub returns-clause-ok : goal.returns-clause-ok
returns-clause-ok c = search rules
