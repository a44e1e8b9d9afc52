use Rattle.std.proofs.lemmas.Str.{IsUtf8-from_ascii}
use Rattle.dep_docs_out.proofs.spelled_moment.SpelledMoment.as_str.Goals as goal

pub unreachable-requires : goal.unreachable-requires
unreachable-requires c = c.in_default.ensures.cases.0 (IsUtf8-from_ascii c.self.inside.text c.self.invariant.1)
