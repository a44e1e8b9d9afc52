use Rattle.dep_row_maps.proofs.Left.{left_before_read}
use Rattle.dep_row_maps.proofs.Readings.{upload_read}
use Rattle.dep_row_maps.proofs.Ticks.{ticked_one_by_one}
use Rattle.dep_row_maps.proofs.Whole.{upload_put, upload_written, upload_removed, timed_out_put, upload_found}
use Rattle.dep_row_maps.proofs.laws.uploads.Goals as goal

pub returns : goal.returns
returns c = record { put = upload_put; written = upload_written; removed = upload_removed; timed_out = timed_out_put; ticked = ticked_one_by_one; found = upload_found; read = upload_read; left = left_before_read }
