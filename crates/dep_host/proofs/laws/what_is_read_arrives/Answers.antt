use Rattle.dep_host.proofs.ReadLemmas.{reads_arrive}
use Rattle.dep_host.proofs.laws.what_is_read_arrives.Goals as goal

pub returns : goal.returns
returns c = λ first held actions records number f h. reads_arrive number f h
