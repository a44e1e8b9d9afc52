use Rattle.std.proofs.Common.{[], refl, sym, Some, None, ◌∙◌}
use Rattle.sqlite.specs.Held.{state}
use Rattle.dep_tables.specs.Rows.{owner_values}
use Rattle.dep_tables.specs.Texts.{blocks_of_text}
use Rattle.dep_tables.proofs.Results.{not_storable}
use Rattle.dep_schema.specs.Causes.FailsToGiveBlocks.{no_owner}
use Rattle.dep_schema.proofs.NextRow.{answered, begun_stays, clean_before}
use Rattle.dep_schema.proofs.Queries.{blocks_read}
use Rattle.dep_schema.proofs.Stills.{begun_reads, stays_itself}
use Rattle.dep_schema.proofs.RowByRow.{hashed_more, stays, owner_hashed, not_begun, ends_whole, ends_failed, ends_refused, ends_uncounted}
use Rattle.dep_schema.proofs.Reported.{passed_on}
use Rattle.dep_schema.proofs.hashing.hash_blocks.Goals as goal

pub returns-then-not-is_storable_owner : goal.returns-then-not-is_storable_owner
returns-then-not-is_storable_owner g c = record {
  ok = λ clean known. tt;
  cause = λ clean known. no_owner (λ storable. not_storable c.is_storable_owner.result c.if-not-is_storable_owner.true c.is_storable_owner.ensures.1 storable) refl;
  reads = record { stays = stays_itself c.args.connection.now; same = λ clean. tt };
}

pub returns-in-Err : goal.returns-in-Err
returns-in-Err g c =
    let left = rw (c.blocks_query.ensures, c.owner_params.ensures) at c.query.follows.holds-at-none in
    owner_hashed c.args.owner refl
    (not_begun g.S.Store blocks_of_text (owner_values c.args.owner) blocks_read c.args.connection.now c.query.follows.lender-at-none
    c.query.result c.in-Err.error c.fault_of.result left c.in-Err.is c.fault_of.ensures)

pub rows-init : goal.rows-init
rows-init g c =
    let made = rw (c.blocks_query.ensures, c.owner_params.ensures) at c.in-Ok.ensures in
    let old = c.args.connection.now in
    let begun = c.in-Ok.rows.conn.now in
    let params = owner_values c.args.owner in (
      refl,
      begun_stays g.S.Store blocks_of_text params old begun blocks_read made.begun made.mode made.survives,
      λ clean.
          let none = begun_reads g.S.Store blocks_of_text params old begun blocks_read (made.begun clean) in
          ([], none.0, none.1, c.new-hasher.ensures, refl),
    )

pub rows-preserved : goal.rows-preserved
rows-preserved g c =
    let moved = c.next.follows.holds-at-none in
    let now = c.next.follows.lender-at-none in
    let first = c.args.connection.now in
    let params = owner_values c.args.owner in
    let some = answered c.next.result c.in-Ok-Some.field-0 (Some c.in-Ok-Some.row) c.in-Ok-Some.is c.in-Ok-Some.field-0-is in
    let inv = c.rows.invariant in (
      moved.same_reference ∙ inv.0,
      stays g.S.Store c.rows.rows now c.next.result moved blocks_of_text params first c.rows.counter c.rows.hasher inv.1 inv.2,
      λ late.
          hashed_more g.S.Store c.rows.rows now c.next.result moved blocks_of_text params (state g.S.Store first) c.rows.counter c.rows.hasher
          (inv.2 (clean_before g.S.Store c.rows.rows now c.next.result moved late)) late c.in-Ok-Some.row c.hash_row.new.hasher some c.in_ok-hash_row.ensures.holds,
    )

pub returns-in-Ok-None : goal.returns-in-Ok-None
returns-in-Ok-None g c =
    let moved = c.next.follows.holds-at-none in
    let back = sym (c.connection-in-Ok-None-1.given.1 (sym (moved.same_reference ∙ c.rows.invariant.0 ∙ c.in-Ok.ensures.same_reference)) ∙ c.drop-rows.ensures) in
    let none = answered c.next.result c.in-Ok-None.field-0 None c.in-Ok-None.is c.in-Ok-None.field-0-is in
    owner_hashed c.args.owner back
    (ends_whole g.S.Store c.rows.rows c.next.follows.lender-at-none c.next.result moved blocks_of_text (owner_values c.args.owner) c.args.connection.now
    c.rows.counter c.rows.hasher c.rows.invariant.1 c.rows.invariant.2 none c.finish.result c.finish.ensures)

pub returns-in-Err-next : goal.returns-in-Err-next
returns-in-Err-next g c =
    let moved = c.next.follows.holds-at-none in
    let back = sym (c.connection-in-Err-next-1.given.1 (sym (moved.same_reference ∙ c.rows.invariant.0 ∙ c.in-Ok.ensures.same_reference)) ∙ c.drop-rows-in-Err-next.ensures) in
    owner_hashed c.args.owner back
    (ends_failed g.S.Store c.rows.rows c.next.follows.lender-at-none c.next.result moved blocks_of_text (owner_values c.args.owner) c.args.connection.now
    c.rows.counter c.rows.hasher c.rows.invariant.1 c.rows.invariant.2 c.in-Err-next.error c.in-Err-next.is c.fault_of-in-Err-next.result c.fault_of-in-Err-next.ensures)

pub returns-in_err-hash_row : goal.returns-in_err-hash_row
returns-in_err-hash_row g c =
    let moved = c.next.follows.holds-at-none in
    let back = sym (c.connection-in_err-hash_row-1.given.1 (sym (moved.same_reference ∙ c.rows.invariant.0 ∙ c.in-Ok.ensures.same_reference)) ∙ c.drop-rows-in_err-hash_row.ensures) in
    let some = answered c.next.result c.in-Ok-Some.field-0 (Some c.in-Ok-Some.row) c.in-Ok-Some.is c.in-Ok-Some.field-0-is in
    let fault = c.in_err-hash_row.field-0.0 in
    let passed = passed_on c.from_residual.result fault c.from_residual.ensures.1 in
    rw passed (owner_hashed c.args.owner back
    (ends_refused g.S.Store c.rows.rows c.next.follows.lender-at-none c.next.result moved blocks_of_text (owner_values c.args.owner) c.args.connection.now
    c.rows.counter c.rows.hasher c.rows.invariant.1 c.rows.invariant.2 c.in-Ok-Some.row some fault c.in_err-hash_row.ensures.refused))

-- no more rows can be counted
pub returns : goal.returns
returns g c =
    let back = sym (c.connection-2-1.given.1 (sym (c.rows.invariant.0 ∙ c.in-Ok.ensures.same_reference)) ∙ c.drop-rows-2.ensures) in
    owner_hashed c.args.owner back
    (ends_uncounted g.S.Store blocks_of_text (owner_values c.args.owner) c.args.connection.now c.rows.rows.conn.now c.rows.counter c.rows.hasher
    c.rows.invariant.1 c.rows.invariant.2 c.rows-test.false)
