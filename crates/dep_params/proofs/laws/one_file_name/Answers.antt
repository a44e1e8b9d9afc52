use Rattle.dep_params.proofs.ReportedNames.{file_name-complete}
use Rattle.dep_params.proofs.laws.one_file_name.Goals as goal

pub returns : goal.returns
returns c = λ reading a b is has. cc (file_name-complete reading a is, file_name-complete reading b has)
