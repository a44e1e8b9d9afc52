use Rattle.std.proofs.Common.{inl, inr, refl}
use Rattle.std.proofs.lemmas.Bool.{both_ways}
use Rattle.dep_schema.proofs.Version.{none_known}
use Rattle.dep_schema.proofs.opening.version_of.Goals as goal

pub returns-then-are_known : goal.returns-then-are_known
returns-then-are_known c = (2, refl, inl refl, c.are_known.ensures.0 c.if-are_known.true)

pub returns-then-are_known-2 : goal.returns-then-are_known-2
returns-then-are_known-2 c = (1, refl, inr refl, c.are_known-else-are_known.ensures.0 c.if-are_known-2.true)

pub returns-else-are_known-2 : goal.returns-else-are_known-2
returns-else-are_known-2 c = (
  refl,
  none_known _ (λ shown. both_ways c.are_known.result c.if-are_known.false (c.are_known.ensures.1 shown))
      (λ shown. both_ways c.are_known-else-are_known.result c.if-are_known-2.false (c.are_known-else-are_known.ensures.1 shown)),
)
