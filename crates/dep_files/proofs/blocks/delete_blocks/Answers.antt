use Rattle.std.proofs.Common.{subst}
use Rattle.dep_tables.specs.Edits.{IsFirstBlock, without_blocks_of}
use Rattle.dep_tables.specs.Tables.{tables_of}
use Rattle.dep_tables.proofs.Chains.{stays_then}
use Rattle.dep_row_maps.proofs.Runs.{deleted_none, deleted_rest}
use Rattle.dep_row_maps.proofs.Calling.{tables_failed}
use Rattle.dep_row_maps.proofs.Changing.{tables_then}
use Rattle.dep_files.proofs.RunByRun.{no_run, no_more_run, one_run}
use Rattle.dep_files.proofs.blocks.delete_blocks.Goals as goal

pub runs-init : goal.runs-init
runs-init g c = no_run (without_blocks_of c.args.owner) c.args.tx.now

pub runs-preserved : goal.runs-preserved
runs-preserved g c =
    one_run (without_blocks_of c.args.owner) c.runs.invariant c.in_ok-start.ensures.does.keeps c.in_ok-delete_run.ensures.does
    (deleted_rest (record { owner = c.args.owner; at = c.run_end-at.result }))

pub returns-in_default : goal.returns-in_default
returns-in_default g c =
    let mid = tables_of (g.T.Statements.state c.runs.tx) in
    record {
      does = no_more_run (without_blocks_of c.args.owner) c.runs.invariant c.in_ok-start.ensures.does.keeps
          (λ clean ours. deleted_none c.args.owner mid (subst (IsFirstBlock c.args.owner mid) c.in_default.is (c.in_ok-start.ensures.does.ok clean ours)));
    }

pub returns : goal.returns
returns g c = record { does = tables_then c.runs.invariant.0 c.runs.invariant.1 c.delete_blocks.ensures.does }

pub returns-in_err-start : goal.returns-in_err-start
returns-in_err-start g c = record {
  does = tables_failed c.from_residual.ensures.1
      (stays_then c.runs.invariant.0 c.in_err-start.ensures.does.keeps.stays);
}

pub returns-in_err-delete_run : goal.returns-in_err-delete_run
returns-in_err-delete_run g c = record {
  does = tables_failed c.from_residual-in_err-delete_run.ensures.1
      (stays_then (stays_then c.runs.invariant.0 c.in_ok-start.ensures.does.keeps.stays) c.in_err-delete_run.ensures.does.keeps.stays);
}
