use Rattle.std.proofs.Common.{inl, refl, sym, [], Some, None, ◌∙◌}
use Rattle.std.proofs.KnownBytes.{Appends-nil}
use Rattle.dep_tables.proofs.Results.{not_storable}
use Rattle.dep_types.specs.declared.stream_fault.StreamFault.TheVariants.{Writer, NoSuchFile}
use Rattle.dep_tables.specs.Rows.{owner_values}
use Rattle.dep_tables.specs.Texts.{blocks_of_text}
use Rattle.dep_schema.specs.Causes.FailsToGiveBlocks.{no_owner}
use Rattle.dep_schema.proofs.FaultsReported.{none_failed, store_stopped, store_there}
use Rattle.dep_schema.proofs.NextRow.{answered}
use Rattle.dep_schema.proofs.Queries.{blocks_read}
use Rattle.dep_schema.proofs.Reported.{passed_on}
use Rattle.dep_files.proofs.Results.{some_where}
use Rattle.dep_schema.proofs.RowsSent.{owner_sent, not_begun, none_sent, one_more, ends_failed, ends_short, ends_cut, ends_whole, ends_uncounted}
use Rattle.dep_schema.proofs.Stills.{stays_itself}
use Rattle.dep_schema.proofs.sending.stream_blocks.Goals as goal

pub returns-then-size-eq0 : goal.returns-then-size-eq0
returns-then-size-eq0 g c = record {
  streams = ([], Appends-nil _, λ clean ours. (inl refl, sym c.if-size-eq0.true));
  why = λ clean ours. tt;
  leaves = record { stays = stays_itself c.args.connection.now; same = λ clean. inl refl };
  outlet = record { kept = refl; cause = λ e. absurd (none_failed tt Writer e); others = λ _. refl };
  there = none_failed tt NoSuchFile;
}

pub returns-then-not-is_storable_owner : goal.returns-then-not-is_storable_owner
returns-then-not-is_storable_owner g c = record {
  streams = ([], Appends-nil _, λ clean ours. (inl refl, some_where c.args.size c.if-size-eq0.false));
  why = λ clean ours. no_owner (λ storable. not_storable c.is_storable_owner.result c.if-not-is_storable_owner.true c.is_storable_owner.ensures.1 storable) refl;
  leaves = record { stays = stays_itself c.args.connection.now; same = λ clean. tt };
  outlet = record { kept = tt; cause = λ e. absurd (store_stopped e); others = λ _. refl };
  there = store_there;
}

pub returns-in-Err : goal.returns-in-Err
returns-in-Err g c =
    let left = rw (c.blocks_query.ensures, c.owner_params.ensures) at c.query.follows.holds-at-none in
    let it = owner_sent {o = c.args.owner} refl
    (not_begun g.S.Store blocks_of_text (owner_values c.args.owner) blocks_read c.args.connection.now c.query.follows.lender-at-none c.args.size
    (g.O.Outlet.taken c.args.out.now) (g.O.Outlet.failures c.args.out.now) c.query.result c.in-Err.error c.fault_of.result
    (some_where c.args.size c.if-size-eq0.false) c.fault_of.ensures left c.in-Err.is) in
    rw c.from.ensures record { streams = it.streams; why = it.why; leaves = it.leaves; outlet = it.outlet; there = it.there }

pub rows-init : goal.rows-init
rows-init g c =
    let made = rw (c.blocks_query.ensures, c.owner_params.ensures) at c.in-Ok.ensures in (
      refl,
      none_sent g.S.Store blocks_of_text (owner_values c.args.owner) blocks_read c.args.connection.now c.in-Ok.rows.conn.now c.args.size
          (g.O.Outlet.taken c.args.out.now) (g.O.Outlet.failures c.args.out.now) (some_where c.args.size c.if-size-eq0.false) made.begun made.mode made.survives,
    )

pub rows-preserved : goal.rows-preserved
rows-preserved g c =
    let moved = c.next.follows.holds-at-none in
    let gave = c.in_ok-left.ensures in (
      moved.same_reference ∙ c.rows.invariant.0,
      one_more c.rows.rows c.next.follows.lender-at-none c.next.result moved c.rows.invariant.1
          c.in-Ok-Some.row (answered c.next.result c.in-Ok-Some.field-0 (Some c.in-Ok-Some.row) c.in-Ok-Some.is c.in-Ok-Some.field-0-is)
          (g.O.Outlet.taken c.give_sized.new.out) (g.O.Outlet.failures c.give_sized.new.out)
          c.in_ok-left.field-0 gave.gives gave.fits gave.outlet.kept (some_where _ c.if-left-eq0.false),
    )

pub returns-in-Ok-None : goal.returns-in-Ok-None
returns-in-Ok-None g c =
    let moved = c.next.follows.holds-at-none in
    let back = sym (c.connection-in-Ok-None-1.given.1 (sym (moved.same_reference ∙ c.rows.invariant.0 ∙ c.in-Ok.ensures.same_reference)) ∙ c.drop-rows.ensures) in
    let it = owner_sent {o = c.args.owner} back
    (ends_short c.rows.rows c.next.follows.lender-at-none c.next.result moved c.rows.invariant.1 (answered c.next.result c.in-Ok-None.field-0 None c.in-Ok-None.is c.in-Ok-None.field-0-is)) in
    record { streams = it.streams; why = it.why; leaves = it.leaves; outlet = it.outlet; there = it.there }

pub returns-in-Err-next : goal.returns-in-Err-next
returns-in-Err-next g c =
    let moved = c.next.follows.holds-at-none in
    let back = sym (c.connection-in-Err-next-1.given.1 (sym (moved.same_reference ∙ c.rows.invariant.0 ∙ c.in-Ok.ensures.same_reference)) ∙ c.drop-rows-in-Err-next.ensures) in
    let fault = c.fault_of-in-Err-next.result in
    let it = owner_sent {o = c.args.owner} back
    (ends_failed c.rows.rows c.next.follows.lender-at-none c.next.result moved c.rows.invariant.1 c.in-Err-next.error c.in-Err-next.is fault c.fault_of-in-Err-next.ensures) in
    rw c.from-in-Err-next.ensures record { streams = it.streams; why = it.why; leaves = it.leaves; outlet = it.outlet; there = it.there }

pub returns-in_err-left : goal.returns-in_err-left
returns-in_err-left g c =
    let moved = c.next.follows.holds-at-none in
    let back = sym (c.connection-in_err-left-1.given.1 (sym (moved.same_reference ∙ c.rows.invariant.0 ∙ c.in-Ok.ensures.same_reference)) ∙ c.drop-rows-in_err-left.ensures) in
    let gave = c.in_err-left.ensures in
    let fault = c.in_err-left.field-0.0 in
    let it = owner_sent {o = c.args.owner} back
    (ends_cut c.rows.rows c.next.follows.lender-at-none c.next.result moved c.rows.invariant.1
    c.in-Ok-Some.row (answered c.next.result c.in-Ok-Some.field-0 (Some c.in-Ok-Some.row) c.in-Ok-Some.is c.in-Ok-Some.field-0-is)
    (g.O.Outlet.taken c.give_sized.new.out) (g.O.Outlet.failures c.give_sized.new.out)
    fault gave.gives gave.refused gave.outlet) in
    let passed = passed_on c.from_residual.result fault c.from_residual.ensures.1 in
    rw passed record { streams = it.streams; why = it.why; leaves = it.leaves; outlet = it.outlet; there = it.there }

pub returns-then-left-eq0 : goal.returns-then-left-eq0
returns-then-left-eq0 g c =
    let moved = c.next.follows.holds-at-none in
    let back = sym (c.connection-then-left-eq0-1.given.1 (sym (moved.same_reference ∙ c.rows.invariant.0 ∙ c.in-Ok.ensures.same_reference)) ∙ c.drop-rows-then-left-eq0.ensures) in
    let gave = c.in_ok-left.ensures in
    let it = owner_sent {o = c.args.owner} back
    (ends_whole c.rows.rows c.next.follows.lender-at-none c.next.result moved c.rows.invariant.1
    c.in-Ok-Some.row (answered c.next.result c.in-Ok-Some.field-0 (Some c.in-Ok-Some.row) c.in-Ok-Some.is c.in-Ok-Some.field-0-is)
    (g.O.Outlet.taken c.give_sized.new.out) (g.O.Outlet.failures c.give_sized.new.out)
    c.in_ok-left.field-0 gave.gives gave.fits gave.outlet.kept c.if-left-eq0.true) in
    record { streams = it.streams; why = it.why; leaves = it.leaves; outlet = it.outlet; there = it.there }

-- no more rows can be counted
pub returns : goal.returns
returns g c =
    let back = sym (c.connection-2-1.given.1 (sym (c.rows.invariant.0 ∙ c.in-Ok.ensures.same_reference)) ∙ c.drop-rows-2.ensures) in
    let it = owner_sent {o = c.args.owner} back (ends_uncounted c.rows.rows.conn.now c.rows.invariant.1 c.rows-test.false) in
    record { streams = it.streams; why = it.why; leaves = it.leaves; outlet = it.outlet; there = it.there }
