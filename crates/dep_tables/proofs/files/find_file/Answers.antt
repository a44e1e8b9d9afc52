use Rattle.std.proofs.Common.{refl}
use Rattle.dep_tables.proofs.Done.{asked}
use Rattle.dep_tables.specs.Texts.{find_file_text}
use Rattle.dep_tables.specs.Rows.{file_values}
use Rattle.dep_tables.proofs.Leading.{files_at}
use Rattle.dep_tables.proofs.OneTable.{finds_one}
use Rattle.dep_tables.proofs.FilesTable.{find_is, values}
use Rattle.dep_tables.proofs.files.find_file.Goals as goal

pub returns : goal.returns
returns g c = record { does = asked _ 10 find_is.plain c.ask_one_by_key.ensures (finds_one files_at file_values 10 find_file_text values c.args.file find_is (λ row. refl) _ _) }
