use Rattle.std.specs.Prelude.{⊤}
use Rattle.dep_views.proofs.Shows.{absent_shown, reads_shown, shown_at_once, whatever_row}
use Rattle.dep_views.proofs.shown.show_other.Goals as goal

pub returns-in-File : goal.returns-in-File
returns-in-File g c = record { does = whatever_row (reads_shown c.args.read_set.now _ c.in-File.is (λ _. ⊤) c.show_file.ensures.does) }

pub returns-in-Upload : goal.returns-in-Upload
returns-in-Upload g c = record { does = whatever_row (reads_shown c.args.read_set.now _ c.in-Upload.is (λ _. ⊤) c.show_upload.ensures.does) }

pub returns-in_default : goal.returns-in_default
returns-in_default g c = record { does = shown_at_once _ (λ s sound. absent_shown s c.args.read_set.now c.in_default.not-File c.in_default.not-Upload) }
