use Rattle.dep_transactions.proofs.probing.check_open.Goals as goal

pub returns-in-Ok : goal.returns-in-Ok
returns-in-Ok g c = record { opened = c.in-Ok.ensures.opened; restored = c.probe.ensures.restored }

pub returns-in-Err : goal.returns-in-Err
returns-in-Err g c = record { opened = λ clean. tt; restored = c.probe.ensures.restored }
