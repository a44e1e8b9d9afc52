use Rattle.dep_answers.proofs.WrittenOut.{file_front, file_sent, file_unsent}
use Rattle.dep_answers.proofs.laws.file_of_example.Goals as goal

pub returns-clause-head : goal.returns-clause-head
returns-clause-head c = file_front

pub returns-clause-sent : goal.returns-clause-sent
returns-clause-sent c = file_sent

pub returns-clause-unsent : goal.returns-clause-unsent
returns-clause-unsent c = file_unsent
