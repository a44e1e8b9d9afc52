use Rattle.std.proofs.Common.{◌≡◌}
use Rattle.dep_types.specs.State.{State}
use Rattle.dep_tables.specs.Tables.{tables_of}
use Rattle.dep_bag.specs.Source.{view_at}
use Rattle.dep_transactions.specs.States.{TablesRepresent}
use Rattle.dep_store.proofs.Carrying.{of_each, reports}
use Rattle.dep_store.proofs.reading.ViewObjectTask.run.Goals as goal

pub returns : goal.returns
returns g c =
    let object = c.args.self.now.object in
    let result = c.load_object_view.result in
    let asked = c.load_object_view.ensures in
    reports g.T.Statements.lenders g.T.Statements.state c.args.tx.now c.load_object_view.new.tx result (λ t found. (s : State) → TablesRepresent t s → found ≡ view_at s object)
    (λ clean inside ours. of_each result (TablesRepresent (tables_of (g.T.Statements.state c.args.tx.now))) (λ s found. found ≡ view_at s object) (λ s means. asked.map clean inside ours s means.are means.sound))
    asked.keeps
