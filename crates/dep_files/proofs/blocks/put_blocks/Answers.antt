use Rattle.std.proofs.Common.{◌<◌, length, subst}
use Rattle.dep_tables.specs.Tables.{tables_of}
use Rattle.dep_tables.proofs.Chains.{clean_before, stays_then, stays_ok}
use Rattle.dep_row_maps.specs.Stored.{blocks_of}
use Rattle.dep_files.proofs.Written.{one_more}
use Rattle.dep_row_maps.proofs.Calling.{tables_failed}
use Rattle.dep_files.proofs.blocks.put_blocks.Goals as goal

pub loop-place-preserved : goal.loop-place-preserved
loop-place-preserved g c =
    let old = g.T.Statements.state c.args.tx.now in
    let mid = g.T.Statements.state c.loop-place.tx in
    let new = g.T.Statements.state c.insert_block.new.tx in
    let inv = c.loop-place.invariant in
    let blocks = blocks_of (g.C.Content.bytes c.args.content.now) in
    let within : c.loop-place.place < length blocks = subst (λ n. c.loop-place.place < n) inv.0 c.loop-place-test.true in (
      inv.0,
      stays_ok (stays_then inv.1 c.in_ok-insert_block.ensures.does.keeps.stays),
      λ clean inside ours.
          let before = clean_before c.insert_block.ensures.does.keeps.stays clean in
          let was = inv.2 before inside ours in
          let leads = c.in_ok-insert_block.ensures.does.ok clean (inv.1.inside before inside) was.ours in
          record { ours = leads.ours; rows = one_more c.args.owner c.args.part (tables_of old) (tables_of mid) (tables_of new) blocks c.loop-place.place c.block.result.now within c.block.ensures was.rows leads.rows },
      inv.3,
    )

pub returns-in_err-insert_block : goal.returns-in_err-insert_block
returns-in_err-insert_block g c = record {
  does =
      tables_failed c.from_residual.ensures.1
      (stays_then c.loop-place.invariant.1 c.in_err-insert_block.ensures.does.keeps.stays);
}
