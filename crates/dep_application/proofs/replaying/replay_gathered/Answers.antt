use Rattle.std.proofs.Common.{◌∙◌, ap, sym}
use Rattle.dep_program.specs.Outcomes.{outcome_sent}
use Rattle.dep_application.proofs.ReplayLemmas.{done_open}
use Rattle.dep_application.proofs.replaying.replay_gathered.Goals as goal

pub returns-clause-replays : goal.returns-clause-replays
returns-clause-replays g c = (
  c.replay-outcome.result,
  c.replay-outcome.ensures.replays,
  c.outcome_sent.ensures ∙ ap (λ b. outcome_sent b c.replay-outcome.result) c.has_failed.ensures.answers,
)

pub returns-clause-sent : goal.returns-clause-sent
returns-clause-sent g c done flushed =
    c.has_failed.ensures.whole (done_open c.has_failed.result c.replay-outcome.result (sym c.outcome_sent.ensures ∙ done)) (c.replay-outcome.ensures.flushed flushed)
