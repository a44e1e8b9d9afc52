use Rattle.dep_decisions.specs.LookUps.{in_state}
use Rattle.dep_decisions.proofs.BeforeDigests.{refused_before_entries}
use Rattle.dep_decisions.proofs.ByUploads.{refused_by_uploads}
use Rattle.dep_decisions.proofs.Deposited.{kind_is}
use Rattle.dep_decisions.proofs.laws.some_are_refused_before_uploads.Goals as goal

pub returns-clause-early : goal.returns-clause-early
returns-clause-early c = λ config s op r e. refused_before_entries config (in_state s) op r e

pub returns-clause-named : goal.returns-clause-named
returns-clause-named c = λ config s op refs r in_op passed refused.
    refused_by_uploads config s op refs r (kind_is config op refs in_op) in_op passed refused
