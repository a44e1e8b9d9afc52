use Rattle.std.proofs.Common.{◌∙◌}
use Rattle.dep_head.proofs.head.read_path.Goals as goal

pub returns-in_ok-from_str-in-Ok-clause-read : goal.returns-in_ok-from_str-in-Ok-clause-read
returns-in_ok-from_str-in-Ok-clause-read c =
    (c.in-Ok.uri, c.in-Ok.ensures.ok, c.in_ok-from_str-in-Ok.ensures.ok ∙ c.path.ensures.value)
