use Rattle.dep_exchange.proofs.SendingLemmas.{given_uncut}
use Rattle.dep_exchange.proofs.sending.send_fault.Goals as goal

pub returns-in-Ok : goal.returns-in-Ok
returns-in-Ok g c = (c.fixed_reply-status.result.1.now, c.in-Ok.ensures.ok, c.fixed_reply-status.ensures, given_uncut)

pub returns-in-Err : goal.returns-in-Err
returns-in-Err g c = let part = c.in-Err.ensures.err in (part.0, part.2, rw c.fixed_reply-status.ensures at part.1, λ _. c.in-Err.ensures.cause)
