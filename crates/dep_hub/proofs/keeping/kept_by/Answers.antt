use Rattle.std.proofs.Common.{sym, subst, ◌∙◌}
use Rattle.dep_hub.specs.Looks.{ShowsItem}
use Rattle.dep_hub.specs.declared.keeping.Look.{Look}
use Rattle.dep_hub.proofs.LookLemmas.{claims_free, waits_now}
use Rattle.dep_hub.proofs.keeping.kept_by.Goals as goal

pub returns-in-Kept : goal.returns-in-Kept
returns-in-Kept c reading was shows = subst (λ (l : Look). ShowsItem c.args.connections.now reading was l) c.in-Kept.is shows

pub returns-in-Free : goal.returns-in-Free
returns-in-Free c reading was shows = subst (λ (l : Look). ShowsItem c.args.connections.now reading was l) c.in-Free.is shows

-- its claim has to wait, or not
pub returns-then-has_to_wait : goal.returns-then-has_to_wait
returns-then-has_to_wait c reading was shows =
    waits_now c.args.connections.now reading was c.in-Claims.claim (subst (λ (l : Look). ShowsItem c.args.connections.now reading was l) c.in-Claims.is shows)
    (sym c.has_to_wait.ensures ∙ c.if-has_to_wait.true)

pub returns-else-has_to_wait : goal.returns-else-has_to_wait
returns-else-has_to_wait c reading was shows =
    claims_free c.args.connections.now reading was c.in-Claims.claim (subst (λ (l : Look). ShowsItem c.args.connections.now reading was l) c.in-Claims.is shows)
    (sym c.has_to_wait.ensures ∙ c.if-has_to_wait.false)
