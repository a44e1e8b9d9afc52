use Rattle.dep_tables.proofs.Done.{asked}
use Rattle.dep_tables.proofs.FilesTable.{pages_files, page_is}
use Rattle.dep_tables.proofs.files.files_page.Goals as goal

pub returns : goal.returns
returns g c = record { does = asked _ 10 page_is.plain c.ask_files.ensures (λ found. pages_files _ _ c.args.object c.args.from found.items) }
