use Rattle.std.proofs.Common.{refl}
use Rattle.dep_exchange.proofs.SendingLemmas.{cut_unsent, sent_uncut}
use Rattle.dep_exchange.proofs.sending.send.Goals as goal

pub returns-in-Ok-clause-sends : goal.returns-in-Ok-clause-sends
returns-in-Ok-clause-sends g c = (c.args.reply.now, c.in-Ok.ensures.ok, refl)

pub returns-in-Ok-clause-kept : goal.returns-in-Ok-clause-kept
returns-in-Ok-clause-kept g c = λ _. c.in-Ok.ensures.count

pub returns-in-Err-clause-sends : goal.returns-in-Err-clause-sends
returns-in-Err-clause-sends g c = let part = c.in-Err.ensures.err in (part.0, part.2, part.1)

pub returns-in-Err-clause-cause : goal.returns-in-Err-clause-cause
returns-in-Err-clause-cause g c = λ _. c.in-Err.ensures.cause

-- no arm answers what the other does
pub returns-in-Ok-clause-cause : goal.returns-in-Ok-clause-cause
returns-in-Ok-clause-cause g c = sent_uncut

pub returns-in-Err-clause-kept : goal.returns-in-Err-clause-kept
returns-in-Err-clause-kept g c = cut_unsent
