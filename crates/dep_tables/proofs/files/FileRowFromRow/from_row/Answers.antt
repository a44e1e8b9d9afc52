use Rattle.std.proofs.Common.{arith}
use Rattle.dep_tables.specs.Rows.{file_kinds}
use Rattle.dep_tables.proofs.KindAt.{kind_at}
use Rattle.dep_tables.proofs.files.FileRowFromRow.from_row.Goals as goal

pub number_at-requires : goal.number_at-requires
number_at-requires c = kind_at file_kinds c.args.row.now 0 (omega arith) c.requires

pub number_at-requires-2 : goal.number_at-requires-2
number_at-requires-2 c = kind_at file_kinds c.args.row.now 1 (omega arith) c.requires

pub text_at-requires : goal.text_at-requires
text_at-requires c = kind_at file_kinds c.args.row.now 2 (omega arith) c.requires

pub text_at-requires-2 : goal.text_at-requires-2
text_at-requires-2 c = kind_at file_kinds c.args.row.now 3 (omega arith) c.requires

pub number_at-requires-3 : goal.number_at-requires-3
number_at-requires-3 c = kind_at file_kinds c.args.row.now 4 (omega arith) c.requires

pub number_at-requires-4 : goal.number_at-requires-4
number_at-requires-4 c = kind_at file_kinds c.args.row.now 5 (omega arith) c.requires

pub number_at-requires-5 : goal.number_at-requires-5
number_at-requires-5 c = kind_at file_kinds c.args.row.now 6 (omega arith) c.requires

pub text_or_null_at-requires : goal.text_or_null_at-requires
text_or_null_at-requires c = kind_at file_kinds c.args.row.now 7 (omega arith) c.requires

pub flag_at-requires : goal.flag_at-requires
flag_at-requires c = kind_at file_kinds c.args.row.now 8 (omega arith) c.requires
