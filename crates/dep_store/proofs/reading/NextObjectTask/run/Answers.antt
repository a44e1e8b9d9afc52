use Rattle.dep_tables.specs.Edits.{IsObjectAfter}
use Rattle.dep_store.proofs.Carrying.{reports}
use Rattle.dep_store.proofs.reading.NextObjectTask.run.Goals as goal

pub returns : goal.returns
returns g c = reports g.T.Statements.lenders g.T.Statements.state _ _ c.next_object.result (IsObjectAfter c.args.self.now.after) (λ clean inside ours. c.next_object.ensures.does.ok clean ours) c.next_object.ensures.does.keeps
