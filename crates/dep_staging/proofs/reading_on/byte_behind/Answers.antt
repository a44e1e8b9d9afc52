use Rattle.std.proofs.Common.{rules}
use Rattle.dep_staging.proofs.reading_on.byte_behind.Goals as goal

pub returns-in-None : goal.returns-in-None
returns-in-None c = search rules

pub returns-in_err-behind : goal.returns-in_err-behind
returns-in_err-behind c = search rules

pub returns-in-Some-eq0 : goal.returns-in-Some-eq0
returns-in-Some-eq0 c = tt

pub returns-in_ok-checked_add-in-Some : goal.returns-in_ok-checked_add-in-Some
returns-in_ok-checked_add-in-Some c = search rules

pub returns-in_err-checked_add-in-Some : goal.returns-in_err-checked_add-in-Some
returns-in_err-checked_add-in-Some c = search rules
