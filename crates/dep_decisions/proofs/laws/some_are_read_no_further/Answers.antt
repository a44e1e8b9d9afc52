use Rattle.dep_decisions.proofs.ReadAlone.{read_no_further}
use Rattle.dep_decisions.proofs.laws.some_are_read_no_further.Goals as goal

pub returns : goal.returns
returns c config s op other reads alike =
    let both = read_no_further config s op other reads alike.target alike.behalf in
    record { refusal = both.0; effect = both.1 }
