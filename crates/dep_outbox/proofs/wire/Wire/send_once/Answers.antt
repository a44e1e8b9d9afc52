use Rattle.dep_outbox.proofs.WireLemmas.{sends_front}
use Rattle.dep_outbox.proofs.wire.Wire.send_once.Goals as goal

pub returns-in-Bytes-clause-keeps : goal.returns-in-Bytes-clause-keeps
returns-in-Bytes-clause-keeps g c = sends_front _ _ _ _ _ c.in-Bytes.n _ _ c.front.ensures c.fill.ensures.keeps c.in-Bytes.ensures.bytes.2 c.consume.ensures.bytes
