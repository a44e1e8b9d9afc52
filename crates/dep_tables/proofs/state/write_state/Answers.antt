use Rattle.dep_tables.proofs.Results.{not_storable}
use Rattle.dep_tables.proofs.Done.{refuses, runs}
use Rattle.dep_tables.proofs.StateTable.{writes_state}
use Rattle.dep_tables.proofs.state.write_state.Goals as goal

pub returns-then-not-is_storable_state : goal.returns-then-not-is_storable_state
returns-then-not-is_storable_state g c = record { does = refuses _ (not_storable c.is_storable_state.result c.if-not-is_storable_state.true c.is_storable_state.ensures.1) }

pub returns : goal.returns
returns g c = record { does = runs _ (c.is_storable_state.ensures.0 c.if-not-is_storable_state.false) c.state_params.ensures c.run.ensures.runs c.run.ensures.cause c.run.ensures.keeps (writes_state _ _ c.args.row.now) }
