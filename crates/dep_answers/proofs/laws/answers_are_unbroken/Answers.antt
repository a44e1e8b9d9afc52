use Rattle.dep_answers.proofs.Unbroken.{answer_unbroken, refused_unbroken}
use Rattle.dep_answers.proofs.laws.answers_are_unbroken.Goals as goal

pub returns-clause-accepted : goal.returns-clause-accepted
returns-clause-accepted c = λ config s r m clock closes base sound. answer_unbroken config base s sound r m clock closes

pub returns-clause-refused : goal.returns-clause-refused
returns-clause-refused c = λ r allow clock closes plain. refused_unbroken r allow plain clock closes
