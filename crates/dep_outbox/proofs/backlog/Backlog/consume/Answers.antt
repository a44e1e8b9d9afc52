use Rattle.dep_outbox.proofs.WireLemmas.{consumes_front}
use Rattle.dep_outbox.proofs.backlog.Backlog.consume.Goals as goal

pub returns-else-self-len-clause-bytes : goal.returns-else-self-len-clause-bytes
returns-else-self-len-clause-bytes g c = consumes_front _ c.args.self.now.front.items c.args.self.now.sent c.args.count
