use Rattle.dep_tables.proofs.Done.{asked}
use Rattle.dep_tables.proofs.FilesTable.{lists_files, list_is}
use Rattle.dep_tables.proofs.files.files_of.Goals as goal

pub returns : goal.returns
returns g c = record { does = asked _ 10 list_is.plain c.ask_files.ensures (λ found. lists_files _ _ c.args.object c.args.from found.items) }
