use Rattle.dep_tables.proofs.Results.{ok_then}
use Rattle.dep_tables.specs.Tables.{tables_of}
use Rattle.dep_objects.proofs.Puts.{put_nowhere, put_over, row_is_of}
use Rattle.dep_row_maps.proofs.Calling.{written}
use Rattle.dep_objects.proofs.objects.put_object.Goals as goal

pub returns-clause-does : goal.returns-clause-does
returns-clause-does g c = written c.write_object.ensures.does (λ clean inside ours s are o it.
    ok_then c.write_object.result (c.write_object.ensures.does.ok clean inside ours)
    (λ leads.
    let new = tables_of (g.T.Statements.state c.write_object.new.tx) in
    let row = c.args.row.now in
    row_is_of new s row it.was o it.is_row it.metadata it.files
    (put_over s row (tables_of (g.T.Statements.state c.args.tx.now)) new it.was are ours.trees.ordered.1.1.0 it.there leads.rows)))

pub returns-clause-absent : goal.returns-clause-absent
returns-clause-absent g c clean inside ours s are none =
    ok_then c.write_object.result (c.write_object.ensures.does.ok clean inside ours)
    (λ leads. put_nowhere s c.args.row.now (tables_of (g.T.Statements.state c.args.tx.now)) (tables_of (g.T.Statements.state c.write_object.new.tx)) are none leads.rows)
