use Rattle.dep_tables.specs.Tables.{tables_of}
use Rattle.dep_row_maps.proofs.Calling.{queried}
use Rattle.dep_row_maps.proofs.Readings.{object_read}
use Rattle.dep_objects.proofs.objects.find_object.Goals as goal

pub returns : goal.returns
returns g c = record { does = queried c.find_object.ensures.does (λ s are found read. object_read (tables_of (g.T.Statements.state c.args.tx.now)) s are c.args.object found read) }
