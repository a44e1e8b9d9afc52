use Rattle.std.proofs.Common.{Result, Ok, Err, OnOk}
use Rattle.dep_tables.proofs.Results.{ok_then}
use Rattle.dep_tables.specs.Tables.{tables_of}
use Rattle.dep_objects.proofs.Puts.{free_of, put_new}
use Rattle.dep_row_maps.proofs.Calling.{written}
use Rattle.dep_objects.proofs.objects.add_object.Goals as goal

both : {A E P Q R : Type 0} (r : Result A E) → OnOk r P → OnOk r Q → (P → Q → R) → OnOk r R
both (Ok x) p q f = f p q
both (Err e) p q f = tt

pub returns-clause-does : goal.returns-clause-does
returns-clause-does g c = written c.insert_object.ensures.does (λ clean inside ours s are.
    both c.insert_object.result (c.insert_object.ensures.does.ok clean inside ours) (c.insert_object.ensures.free clean inside ours)
    (λ leads free. put_new s c.args.row.now (tables_of (g.T.Statements.state c.args.tx.now)) (tables_of (g.T.Statements.state c.insert_object.new.tx)) are free leads.rows))

pub returns-clause-free : goal.returns-clause-free
returns-clause-free g c clean inside ours s are =
    ok_then c.insert_object.result (c.insert_object.ensures.free clean inside ours)
    (λ free. free_of s c.args.row.now (tables_of (g.T.Statements.state c.args.tx.now)) are free)
