use Rattle.std.proofs.Common.{arith}
use Rattle.dep_tables.specs.Rows.{metadata_kinds}
use Rattle.dep_tables.proofs.KindAt.{kind_at}
use Rattle.dep_tables.proofs.metadata.MetadataRowFromRow.from_row.Goals as goal

pub number_at-requires : goal.number_at-requires
number_at-requires c = kind_at metadata_kinds c.args.row.now 0 (omega arith) c.requires

pub text_at-requires : goal.text_at-requires
text_at-requires c = kind_at metadata_kinds c.args.row.now 1 (omega arith) c.requires

pub number_at-requires-2 : goal.number_at-requires-2
number_at-requires-2 c = kind_at metadata_kinds c.args.row.now 2 (omega arith) c.requires

pub text_at-requires-2 : goal.text_at-requires-2
text_at-requires-2 c = kind_at metadata_kinds c.args.row.now 3 (omega arith) c.requires
