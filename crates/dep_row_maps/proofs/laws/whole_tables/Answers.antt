use Rattle.dep_row_maps.proofs.Orphans.{none_left}
use Rattle.dep_row_maps.proofs.Sha512s.{sha512_read}
use Rattle.dep_row_maps.proofs.Upgraded.{tables_upgraded}
use Rattle.dep_row_maps.proofs.Whole.{first_stands}
use Rattle.dep_row_maps.proofs.laws.whole_tables.Goals as goal

pub returns : goal.returns
returns c = record { first = first_stands; none_left = none_left; sha512_read = sha512_read; upgraded = tables_upgraded }
