use Rattle.dep_row_maps.proofs.FileSets.{file_missed, files_dropped, file_replaced}
use Rattle.dep_row_maps.proofs.ListedFiles.{files_read, files_page_read}
use Rattle.dep_row_maps.proofs.Posted.{file_posted}
use Rattle.dep_row_maps.proofs.Readings.{file_read}
use Rattle.dep_row_maps.proofs.Whole.{file_added, file_removed, file_assembled, file_found_at, files_listed}
use Rattle.dep_row_maps.proofs.laws.files.Goals as goal

pub returns : goal.returns
returns c = record { added = file_added; posted = file_posted; removed = file_removed; missed = file_missed; dropped = files_dropped; replaced = file_replaced; assembled = file_assembled; found = file_found_at; read = file_read; listed = files_listed; all_read = files_read; page_read = files_page_read }
