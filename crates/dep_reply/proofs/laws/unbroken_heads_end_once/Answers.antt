use Rattle.dep_reply.proofs.LineLemmas.{head_ends, head_reads}
use Rattle.dep_reply.proofs.laws.unbroken_heads_end_once.Goals as goal

pub returns : goal.returns
returns c = record { ends = head_ends; lines = head_reads }
