use Rattle.std.proofs.Common.{◌<◌, length, arith}
use Rattle.std.proofs.lemmas.List.{take_all}
use Rattle.dep_tables.proofs.Chains.{clean_before, stays_then, stays_ok}
use Rattle.dep_tables.specs.Tables.{tables_of}
use Rattle.dep_files.proofs.FileCalls.{one_more_gone}
use Rattle.dep_row_maps.proofs.Calling.{tables_failed}
use Rattle.dep_row_maps.proofs.Changing.{tables_after, tables_by}
use Rattle.dep_files.proofs.files.delete_contents.Goals as goal

pub rows-preserved : goal.rows-preserved
rows-preserved g c =
    let inv = c.rows.invariant in
    let one = tables_after c.in_ok-delete_blocks.ensures.does (tables_by c.in_ok-delete_sha512.ensures.does) in
    let within : c.rows.row-index < length c.args.rows.now = omega arith in (
      stays_ok (stays_then inv.0 one.stays),
      λ clean inside ours.
          let before = clean_before one.stays clean in
          let was = inv.1 before inside ours in
          let gone = one.ok clean (inv.0.inside before inside) was.ours in
          record {
            ours = gone.ours;
            rows = one_more_gone (tables_of (g.T.Statements.state c.args.tx.now)) (tables_of (g.T.Statements.state c.rows.tx)) (tables_of (g.T.Statements.state c.delete_sha512.new.tx)) c.args.rows.now c.rows.row-index _ within c.row-item.is was.rows gone.rows;
          },
    )

pub returns-in_err-delete_blocks : goal.returns-in_err-delete_blocks
returns-in_err-delete_blocks g c = record {
  does =
      tables_failed c.from_residual.ensures.1
      (stays_then c.rows.invariant.0 c.in_err-delete_blocks.ensures.does.stays);
}

pub returns-in_err-delete_sha512 : goal.returns-in_err-delete_sha512
returns-in_err-delete_sha512 g c = record {
  does =
      tables_failed c.from_residual-in_err-delete_sha512.ensures.1
      (stays_then (stays_then c.rows.invariant.0 c.in_ok-delete_blocks.ensures.does.stays) c.in_err-delete_sha512.ensures.does.keeps.stays);
}

pub returns : goal.returns
returns g c = record {
  does = record {
    ok = rw (take_all c.rows.row-index c.args.rows.now c.rows-test.false) at c.rows.invariant.1;
    stays = stays_ok c.rows.invariant.0;
  };
}
