use Rattle.std.proofs.Common.{◌≡◌, ◌-◌, ◌≤◌, ◌++◌, length, take, drop, true, false, sym, ap, subst, ◌∙◌, arith, take_all, length-drop}
use Rattle.dep_head.proofs.AnyError.{on_err}
use Rattle.dep_body.specs.Standing.{StandsAt, is_settled}
use Rattle.dep_body.proofs.FeedLemmas.{chunk_byte, kept_further, take_further}
use Rattle.dep_body.proofs.reader.advance.Goals as goal

pub loop-used-preserved : goal.loop-used-preserved
loop-used-preserved c =
    let used = c.loop-used.used in
    let piece = c.args.piece.now in
    let goes_on : is_settled c.loop-used.stage ≡ false = sym c.is_settled.ensures ∙ c.if-not-is_settled.true in
    let rest : take (length piece - used) (drop used piece) ≡ drop used piece = take_all _ _ (omega (arith, length-drop used piece)) in
    let count_within : c.in_ok-next.count ≤ length (take (length piece - used) (drop used piece)) = c.in_ok-next.ensures.within in
    let short : length (take (length piece - used) (drop used piece)) ≡ length piece - used = ap length rest ∙ length-drop used piece in
    record {
      stands = λ text h.
          subst (StandsAt c.args.limit c.step.new.content c.in_ok-next.next)
          (ap (λ s. (text ++ take used piece) ++ take c.in_ok-next.count s) rest ∙ take_further text piece used c.in_ok-next.count c.loop-used.invariant.within)
          (c.in_ok-next.ensures.stands (text ++ take used piece) (c.loop-used.invariant.stands text h));
      within = omega (arith, count_within, short, c.loop-used.invariant.within);
      settled = λ t. absurd (let same : false ≡ true = sym goes_on ∙ ap is_settled (c.loop-used.invariant.settled t).1 ∙ t in cc);
      kept = kept_further c.args.content.now c.loop-used.content c.step.new.content c.loop-used.invariant.kept c.in_ok-next.ensures.kept;
    }

pub returns-in_err-next-clause-wanted : goal.returns-in_err-next-clause-wanted
returns-in_err-next-clause-wanted c =
    on_err c.from_residual.result
    (λ text h. chunk_byte c.args.limit c.loop-used.used c.loop-used.content text c.args.piece.now c.loop-used.stage (c.loop-used.invariant.stands text h) c.in_err-next.ensures.wanted (omega arith))

pub returns-in_err-next-clause-kept : goal.returns-in_err-next-clause-kept
returns-in_err-next-clause-kept c = kept_further c.args.content.now c.loop-used.content c.step.new.content c.loop-used.invariant.kept c.in_err-next.ensures.kept
