use Rattle.std.proofs.Common.{◌<◌, ◌++◌, length, subst, length-append, arith}
use Rattle.std.proofs.lemmas.Bool.Decides.{nat_tests}
use Rattle.std.proofs.lemmas.Result.{on_err_weaker}
use Rattle.dep_message.specs.Places.{Place, HasBytes, place_with}
use Rattle.dep_message.specs.Working.{kept_bytes}
use Rattle.dep_message.proofs.Keeping.{stands_still}
use Rattle.dep_message.proofs.Reading.{has_bytes}
use Rattle.dep_message.proofs.intake.Intake.feed.Goals as goal

pub returns-in-Live-clause-err : goal.returns-in-Live-clause-err
returns-in-Live-clause-err c =
    let unparsed = c.self.inside.unparsed in
    let piece = c.args.piece.now in
    let some : 0 < length piece = grind (arith, nat_tests, c.is_empty.ensures, c.if-not-is_empty.true) in
    on_err_weaker c.feed.result
    (λ keeps.
    let still = stands_still unparsed c.feed.new.self c.self.inside.standing c.args.self.now c.in-Live.is c.self.view_is keeps in (
      still.0,
      subst (λ (p : Place). HasBytes (place_with p piece)) still.1
          (has_bytes unparsed.continued (kept_bytes unparsed ++ piece) (omega (arith, length-append (kept_bytes unparsed) piece))),
    ))
    c.feed.ensures.err

pub returns-in-Live-clause-copied : goal.returns-in-Live-clause-copied
returns-in-Live-clause-copied c =
    let some : 0 < length c.args.piece.now = grind (arith, nat_tests, c.is_empty.ensures, c.if-not-is_empty.true) in
    on_err_weaker c.feed.result (λ _. some) c.feed.ensures.err
