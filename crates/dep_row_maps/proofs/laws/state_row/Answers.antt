use Rattle.dep_row_maps.proofs.Readings.{state_found, state_read}
use Rattle.dep_row_maps.proofs.Whole.{state_written}
use Rattle.dep_row_maps.proofs.laws.state_row.Goals as goal

pub returns : goal.returns
returns c = record { written = state_written; found = state_found; read = state_read }
