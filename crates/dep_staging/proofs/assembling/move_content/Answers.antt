use Rattle.std.proofs.Common.{subst}
use Rattle.dep_tables.specs.Edits.{IsFirstBlock, with_blocks_moved}
use Rattle.dep_tables.specs.Tables.{tables_of}
use Rattle.dep_tables.specs.declared.owner.BlockOwner.TheVariants as owner
use Rattle.dep_tables.proofs.Chains.{stays_then}
use Rattle.dep_row_maps.proofs.FilesOwn.{no_upload}
use Rattle.dep_row_maps.proofs.Runs.{moved_none, moved_rest}
use Rattle.dep_row_maps.proofs.Calling.{tables_failed}
use Rattle.dep_row_maps.proofs.Changing.{tables_then}
use Rattle.dep_files.proofs.RunByRun.{no_run, no_more_run, one_run}
use Rattle.dep_staging.proofs.assembling.move_content.Goals as goal

pub runs-init : goal.runs-init
runs-init g c = no_run (with_blocks_moved (owner.Upload c.args.upload) (owner.File c.args.file)) c.args.tx.now

pub runs-preserved : goal.runs-preserved
runs-preserved g c =
    one_run (with_blocks_moved (owner.Upload c.args.upload) (owner.File c.args.file)) c.runs.invariant c.in_ok-start.ensures.does.keeps c.in_ok-move_run.ensures.does
    (moved_rest (record { owner = owner.Upload c.args.upload; at = c.run_end-at.result }) (owner.File c.args.file) (no_upload c.args.upload c.args.file))

pub returns-in_default : goal.returns-in_default
returns-in_default g c =
    let from = owner.Upload c.args.upload in
    let mid = tables_of (g.T.Statements.state c.runs.tx) in
    record {
      does = no_more_run (with_blocks_moved from (owner.File c.args.file)) c.runs.invariant c.in_ok-start.ensures.does.keeps
          (λ clean ours. moved_none from (owner.File c.args.file) mid (subst (IsFirstBlock from mid) c.in_default.is (c.in_ok-start.ensures.does.ok clean ours)));
    }

pub returns : goal.returns
returns g c = record { does = tables_then c.runs.invariant.0 c.runs.invariant.1 c.move_blocks.ensures.does }

pub returns-in_err-start : goal.returns-in_err-start
returns-in_err-start g c = record {
  does =
      tables_failed c.from_residual.ensures.1
      (stays_then c.runs.invariant.0 c.in_err-start.ensures.does.keeps.stays);
}

pub returns-in_err-move_run : goal.returns-in_err-move_run
returns-in_err-move_run g c = record {
  does =
      tables_failed c.from_residual-in_err-move_run.ensures.1
      (stays_then (stays_then c.runs.invariant.0 c.in_ok-start.ensures.does.keeps.stays) c.in_err-move_run.ensures.does.keeps.stays);
}
