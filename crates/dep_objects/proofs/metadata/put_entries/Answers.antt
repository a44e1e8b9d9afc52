use Rattle.std.proofs.Common.{◌<◌, length, Ok, arith}
use Rattle.std.proofs.lemmas.List.{take_all}
use Rattle.dep_tables.proofs.Chains.{clean_before, stays_ok, stays_then}
use Rattle.dep_tables.specs.Tables.{tables_of}
use Rattle.dep_objects.proofs.Appending.{one_more_name}
use Rattle.dep_row_maps.proofs.Calling.{tables_failed}
use Rattle.dep_objects.proofs.metadata.put_entries.Goals as goal

pub entries-preserved : goal.entries-preserved
entries-preserved g c =
    let old = g.T.Statements.state c.args.tx.now in
    let mid = g.T.Statements.state c.entries.tx in
    let new = g.T.Statements.state c.put_texts.new.tx in
    let inv = c.entries.invariant in
    let within : c.entries.entry-index < length c.args.entries.now = omega (arith, c.entries-test.true) in (
      stays_ok (stays_then {r = Ok tt} inv.0 c.in_ok-put_texts.ensures.does.stays),
      λ clean inside ours.
          let before = clean_before c.put_texts.ensures.does.stays clean in
          let was = inv.1 before inside ours in
          let sees = c.in_ok-put_texts.ensures.does.ok clean (inv.0.inside before inside) was.ours in
          record {
            ours = sees.ours;
            rows = one_more_name (tables_of old) (tables_of mid) (tables_of new) c.args.object c.args.entries.now c.entries.entry-index c.entry-item.result within c.entry-item.is
                was.rows sees.rows;
          },
    )

pub returns-in_err-put_texts : goal.returns-in_err-put_texts
returns-in_err-put_texts g c = record {
  does =
      let inv = c.entries.invariant in
      tables_failed c.from_residual.ensures.1
      (stays_then inv.0 c.in_err-put_texts.ensures.does.stays);
}

pub returns : goal.returns
returns g c = record {
  does = record {
    ok = rw (take_all c.entries.entry-index c.args.entries.now c.entries-test.false) at c.entries.invariant.1;
    stays = stays_ok c.entries.invariant.0;
  };
}
