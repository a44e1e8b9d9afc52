use Rattle.dep_tables.proofs.Results.{not_storable}
use Rattle.dep_tables.proofs.Done.{refuses, runs}
use Rattle.dep_tables.proofs.BlocksTable.{moves_blocks}
use Rattle.dep_tables.proofs.blocks.move_blocks.Goals.{then-not-is_storable_owner-via-then-not-is_storable_owner, then-not-is_storable_owner-via-else-not-is_storable_owner+then-not-is_storable_owner-2}
use Rattle.dep_tables.proofs.blocks.move_blocks.Goals as goal

pub returns-then-not-is_storable_owner : goal.returns-then-not-is_storable_owner
returns-then-not-is_storable_owner g c = record {
  does = refuses _ (λ storable. elim c.then-not-is_storable_owner.branch [
    | then-not-is_storable_owner-via-then-not-is_storable_owner w ↦ not_storable c.is_storable_owner.result w.if-not-is_storable_owner.true c.is_storable_owner.ensures.1 storable.0
    | then-not-is_storable_owner-via-else-not-is_storable_owner+then-not-is_storable_owner-2 w ↦
        not_storable w.is_storable_owner-else-not-is_storable_owner.result w.if-not-is_storable_owner-2.true w.is_storable_owner-else-not-is_storable_owner.ensures.1 storable.1
  ]);
}

pub returns : goal.returns
returns g c =
    record { does = runs _ (c.is_storable_owner.ensures.0 c.if-not-is_storable_owner.false, c.is_storable_owner-else-not-is_storable_owner.ensures.0 c.if-not-is_storable_owner-2.false) c.move_params.ensures c.run.ensures.runs c.run.ensures.cause c.run.ensures.keeps (moves_blocks _ _ c.args.owner c.args.to) }
