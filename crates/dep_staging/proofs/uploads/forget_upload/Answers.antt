use Rattle.dep_tables.proofs.Chains.{stays_then}
use Rattle.dep_row_maps.proofs.Calling.{tables_failed}
use Rattle.dep_row_maps.proofs.Changing.{tables_after, tables_by}
use Rattle.dep_staging.proofs.uploads.forget_upload.Goals as goal

pub returns : goal.returns
returns g c = record {
  does = tables_after (tables_after (tables_by c.in_ok-delete_sha512.ensures.does) (tables_by c.in_ok-delete_segments.ensures.does)) (tables_by c.delete_upload.ensures.does);
}

pub returns-in_err-delete_sha512 : goal.returns-in_err-delete_sha512
returns-in_err-delete_sha512 g c = record {
  does =
      tables_failed c.from_residual.ensures.1
      c.in_err-delete_sha512.ensures.does.keeps.stays;
}

pub returns-in_err-delete_segments : goal.returns-in_err-delete_segments
returns-in_err-delete_segments g c = record {
  does =
      tables_failed c.from_residual-in_err-delete_segments.ensures.1
      (stays_then c.in_ok-delete_sha512.ensures.does.keeps.stays c.in_err-delete_segments.ensures.does.keeps.stays);
}
