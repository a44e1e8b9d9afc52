use Rattle.dep_transactions.proofs.committing.commit.Goals as goal

pub returns-in-Ok : goal.returns-in-Ok
returns-in-Ok g c = record {
  ok = λ clean. let ended = c.in-Ok.ensures.ok clean in (ended.1, ended.2, ended.3);
  err = λ clean. tt;
  ended = c.commit.ensures.ended;
  survives = c.commit.ensures.survives;
}

pub returns-in-Err : goal.returns-in-Err
returns-in-Err g c = record {
  ok = λ clean. tt;
  err = λ clean. (c.in-Err.error, c.in-Err.ensures.err clean, c.fault_of.ensures);
  ended = c.commit.ensures.ended;
  survives = c.commit.ensures.survives;
}
