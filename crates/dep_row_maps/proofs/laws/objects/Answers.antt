use Rattle.dep_row_maps.proofs.Readings.{object_read, next_object_read}
use Rattle.dep_row_maps.proofs.Whole.{object_put, object_written, object_removed, object_deleted, object_found, next_object_found}
use Rattle.dep_row_maps.proofs.laws.objects.Goals as goal

pub returns : goal.returns
returns c = record { put = object_put; written = object_written; removed = object_removed; deleted = object_deleted; found = object_found; read = object_read; next_found = next_object_found; next_read = next_object_read }
