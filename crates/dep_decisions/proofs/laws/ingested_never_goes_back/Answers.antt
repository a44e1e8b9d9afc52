use Rattle.dep_decisions.specs.Decisions.{decision}
use Rattle.dep_decisions.specs.Effects.{effect}
use Rattle.dep_decisions.proofs.Ingested.{stays_ingested}
use Rattle.dep_decisions.proofs.laws.ingested_never_goes_back.Goals as goal

pub returns : goal.returns
unfolding effect
returns c config s op sound n o now was is e =
    stays_ingested s op.content n o now was is (sound.objects n o was).number_given.below (decision config op) e
