use Rattle.std.proofs.Common.{◌∙◌, ap, max, min}
use Rattle.dep_types.specs.Limits.{greatest_moment}
use Rattle.dep_tables.specs.declared.state.StateRow.{StateRow}
use Rattle.dep_uploads.proofs.ticking.clock_at.Goals as goal

pub returns : goal.returns
returns c s is =
    c.max.ensures ∙ ap (max c.args.row.now.clock) c.min.ensures ∙ ap (λ (row : StateRow). max row.clock (min c.args.moment greatest_moment)) is
