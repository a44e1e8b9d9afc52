use Rattle.std.proofs.Common.{ℕ, ◌≡◌, ◌+◌, ◌-◌, refl, ap, ◌∙◌, arith}
use Rattle.dep_hub.specs.Preparing.{goes_on}
use Rattle.dep_hub.specs.declared.rest.Behind.TheVariants.{Prepares}
use Rattle.dep_hub.proofs.PreparingLemmas.{ended}
use Rattle.dep_hub.proofs.preparing.stepped.Goals as goal

pub returns-in-Prepares : goal.returns-in-Prepares
returns-in-Prepares c =
    let more : c.in-Prepares.left ≡ c.in-Prepares.left - 1 + 1 = omega (arith, c.if-left-gt0.true) in
    goes_on (c.in-Prepares.left - 1) (c.in-Prepares.is ∙ ap (λ (n : ℕ). Prepares n) more) refl

pub returns-in_default : goal.returns-in_default
returns-in_default c = ended c.args.behind c.requires

pub returns-in_default-2 : goal.returns-in_default-2
returns-in_default-2 c = ended c.args.behind c.requires
