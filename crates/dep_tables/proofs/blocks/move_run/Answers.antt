use Rattle.dep_tables.proofs.Results.{not_storable}
use Rattle.dep_tables.proofs.Done.{refuses, runs}
use Rattle.dep_tables.proofs.BlocksTable.{moves_run}
use Rattle.dep_tables.proofs.blocks.move_run.Goals.{then-not-is_storable_key-via-then-not-is_storable_key, then-not-is_storable_key-via-else-not-is_storable_key+then-not-is_storable_owner}
use Rattle.dep_tables.proofs.blocks.move_run.Goals as goal

pub returns-then-not-is_storable_key : goal.returns-then-not-is_storable_key
returns-then-not-is_storable_key g c = record {
  does = refuses _ (λ storable. elim c.then-not-is_storable_key.branch [
    | then-not-is_storable_key-via-then-not-is_storable_key w ↦ not_storable c.is_storable_key.result w.if-not-is_storable_key.true c.is_storable_key.ensures.1 storable.0
    | then-not-is_storable_key-via-else-not-is_storable_key+then-not-is_storable_owner w ↦ not_storable w.is_storable_owner.result w.if-not-is_storable_owner.true w.is_storable_owner.ensures.1 storable.1
  ]);
}

pub returns : goal.returns
returns g c =
    record { does = runs _ (c.is_storable_key.ensures.0 c.if-not-is_storable_key.false, c.is_storable_owner.ensures.0 c.if-not-is_storable_owner.false) c.move_run_params.ensures c.run.ensures.runs c.run.ensures.cause c.run.ensures.keeps (moves_run _ _ c.args.end.now c.args.to) }
