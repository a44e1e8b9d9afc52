use Rattle.dep_connection.proofs.TalkLemmas.{conversation_run}
use Rattle.dep_server.proofs.laws.turns_make_a_run.Goals as goal

pub returns : goal.returns
returns c = λ r number turns talked talks. conversation_run r.config number r.first r.records r.last talked turns r.run talks
