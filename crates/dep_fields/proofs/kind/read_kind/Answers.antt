use Rattle.std.proofs.Common.{ap, Err}
use Rattle.std.proofs.lemmas.Result.{IfOk-weaker}
use Rattle.dep_fields.proofs.KindLemmas.{kind_read, malformed, repeated}
use Rattle.dep_fields.proofs.kind.read_kind.Goals as goal

pub returns-in-Ok : goal.returns-in-Ok
returns-in-Ok c = IfOk-weaker c.kind_of.result _ _ (λ reported h. kind_read _ _ reported c.in-Ok.ensures.read.0 c.in-Ok.ensures.read.1 h) c.kind_of.ensures

pub returns-in-Err-Malformed : goal.returns-in-Err-Malformed
returns-in-Err-Malformed c = malformed _ (c.in-Err-Malformed.ensures.malformed (ap Err c.in-Err-Malformed.field-0-is))

pub returns-in-Err-Repeated : goal.returns-in-Err-Repeated
returns-in-Err-Repeated c = repeated _ (c.in-Err-Repeated.ensures.repeated (ap Err c.in-Err-Repeated.field-0-is))
