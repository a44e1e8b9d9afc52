use Rattle.std.specs.Prelude.{⊤}
use Rattle.std.specs.Fmt.{digits}
use Rattle.dep_moment.proofs.OnLiterals.{moment_on_literals}
use Rattle.dep_reply.specs.Head.{status_line, head_text}

-- what an answer unfolds to compute a head that is written out
unfoldable pub reply_on_literals : ⊤
unfolding moment_on_literals digits status_line head_text
reply_on_literals = tt
