use Rattle.std.proofs.Common.{ap, subst, length, drop, arith}
use Rattle.std.proofs.lemmas.Result.{IfOk-from_err}
use Rattle.dep_tables.specs.Tables.{Tables}
use Rattle.dep_tables.proofs.Chains.{may_put, may_ok, may_then, may_read, may_err}
use Rattle.dep_files.proofs.Behind.{behind_any}
use Rattle.dep_staging.specs.NextBytes.{GrowsAsRead}
use Rattle.dep_staging.proofs.NextBytes.{ended_front, front_grows, longer, nothing_first, some_front}
use Rattle.dep_staging.proofs.reading_on.bytes_by.Goals as goal

pub loop-round-init : goal.loop-round-init
loop-round-init g c = (
  omega arith,
  may_put g.T.Statements.lenders g.T.Statements.state c.args.tx.now _,
  λ is_open clean ours s h all is.
      let none = nothing_first (drop c.args.start all) c.new-bytes.result.items c.new-bytes.ensures.items in
      (none.0, none.1, omega (arith, ap (λ l. length l) c.new-bytes.ensures.items)),
)

pub loop-round-preserved : goal.loop-round-preserved
loop-round-preserved g c =
    let inv = c.loop-round.invariant in (
      omega (arith, c.loop-round-test.true),
      may_ok (may_then inv.1 (may_read c.in_ok-append_next.ensures.does.keeps)),
      λ is_open clean ours s h all is.
          let mid = behind_any inv.1 c.append_next.ensures.does.keeps.stays is_open clean ours s h in
          let grows = subst (λ (t : Tables). GrowsAsRead t s c.args.file c.args.size c.args.start c.loop-round.bytes c.append_next.new.bytes c.in_ok-append_next.field-0) mid.tables
          (c.in_ok-append_next.ensures.does.map clean mid.ours s mid.are) h all is in
          let so_far = inv.2 is_open mid.clean ours s h all is in (
            front_grows all c.args.start c.loop-round.bytes.items c.append_next.new.bytes.items c.in_ok-append_next.field-0 so_far.0 grows,
            λ later. longer all c.args.start c.loop-round.bytes.items c.append_next.new.bytes.items c.in_ok-append_next.field-0 c.if-not-branch.false grows,
            let few = grows.few in omega (arith, few, so_far.2),
          ),
    )

pub returns-then-not-branch : goal.returns-then-not-branch
returns-then-not-branch g c = record {
  does = record {
    map = λ is_open clean ours s are h all is.
        let mid = behind_any c.loop-round.invariant.1 c.append_next.ensures.does.keeps.stays is_open clean ours s h in
        let grows = subst (λ (t : Tables). GrowsAsRead t s c.args.file c.args.size c.args.start c.loop-round.bytes c.append_next.new.bytes c.in_ok-append_next.field-0) mid.tables
        (c.in_ok-append_next.ensures.does.map clean mid.ours s mid.are) h all is in
        let so_far = c.loop-round.invariant.2 is_open mid.clean ours s h all is in
        ended_front all c.args.start c.loop-round.bytes.items c.append_next.new.bytes.items c.in_ok-append_next.field-0 c.if-not-branch.true so_far.0 (omega (arith, so_far.2, c.loop-round-test.true)) grows;
    keeps = may_ok (may_then c.loop-round.invariant.1 (may_read c.in_ok-append_next.ensures.does.keeps));
  };
}

pub returns : goal.returns
returns g c = record {
  does = record {
    map = λ is_open clean ours s are h all is.
        let so_far = c.loop-round.invariant.2 is_open clean ours s h all is in
        some_front (drop c.args.start all) c.loop-round.bytes.items so_far.0 (so_far.1 (omega (arith, c.loop-round-test.false))) (omega (arith, so_far.2, c.loop-round.invariant.0));
    keeps = may_ok c.loop-round.invariant.1;
  };
}

pub returns-in_err-append_next : goal.returns-in_err-append_next
returns-in_err-append_next g c = record {
  does = record {
    map = λ is_open clean ours s are. IfOk-from_err c.from_residual.result _ c.from_residual.ensures.0;
    keeps = may_err c.from_residual.ensures.0 (may_then c.loop-round.invariant.1 (may_read c.append_next.ensures.does.keeps));
  };
}
