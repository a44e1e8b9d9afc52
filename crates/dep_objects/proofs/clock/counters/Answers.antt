use Rattle.dep_tables.specs.Tables.{tables_of}
use Rattle.dep_row_maps.proofs.Calling.{queried}
use Rattle.dep_row_maps.proofs.Readings.{state_read}
use Rattle.dep_objects.proofs.clock.counters.Goals as goal

pub returns : goal.returns
returns g c = record { does = queried c.read_state.ensures.does (λ s are row read. state_read (tables_of (g.T.Statements.state c.args.tx.now)) s are row read) }
