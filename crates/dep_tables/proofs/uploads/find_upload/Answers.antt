use Rattle.std.proofs.Common.{refl}
use Rattle.dep_tables.proofs.Done.{asked}
use Rattle.dep_tables.specs.Texts.{find_upload_text}
use Rattle.dep_tables.specs.Rows.{upload_values}
use Rattle.dep_tables.proofs.OneTable.{finds_one}
use Rattle.dep_tables.proofs.UploadsTable.{uploads_at, find_is, values}
use Rattle.dep_tables.proofs.uploads.find_upload.Goals as goal

pub returns : goal.returns
returns g c = record { does = asked _ 6 find_is.plain c.ask_one_by_key.ensures (finds_one uploads_at upload_values 6 find_upload_text values c.args.upload find_is (λ row. refl) _ _) }
