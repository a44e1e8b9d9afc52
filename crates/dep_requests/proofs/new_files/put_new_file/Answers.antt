use Rattle.dep_tables.proofs.Chains.{stays_put}
use Rattle.dep_row_maps.proofs.Changing.{each_failed}
use Rattle.dep_requests.proofs.Assembled.{posted_put, upload_put}
use Rattle.dep_requests.proofs.new_files.put_new_file.Goals as goal

pub returns-in-Posted : goal.returns-in-Posted
returns-in-Posted g c =
    let file = c.args.file.now in
    record { map = posted_put file.change.now file.numbers file.new.now c.args.index c.in_ok-row.row c.in_ok-row.ensures.reported _ c.in-Posted.is c.put_file-put.ensures.does }

pub returns-in_ok-upload-in-Assembled : goal.returns-in_ok-upload-in-Assembled
returns-in_ok-upload-in-Assembled g c =
    let file = c.args.file.now in
    record {
      map = upload_put file.change.now file.numbers file.new.now c.args.index c.in_ok-row.row c.in_ok-row.ensures.reported _ c.in-Assembled.is c.in_ok-upload-in-Assembled.upload
          c.in_ok-upload-in-Assembled.ensures.reported c.assemble-put.ensures.does;
    }

pub returns-in_err-row : goal.returns-in_err-row
returns-in_err-row g c = record { map = each_failed _ c.from_residual.ensures.0 (stays_put g.T.Statements.lenders g.T.Statements.state c.args.tx.now c.from_residual.result) }

pub returns-in_err-upload-in-Assembled : goal.returns-in_err-upload-in-Assembled
returns-in_err-upload-in-Assembled g c = record { map = each_failed _ c.from_residual-in_err-upload-in-Assembled.ensures.0 (stays_put g.T.Statements.lenders g.T.Statements.state c.args.tx.now c.from_residual-in_err-upload-in-Assembled.result) }
