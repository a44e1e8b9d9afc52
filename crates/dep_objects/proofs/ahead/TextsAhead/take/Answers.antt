use Rattle.dep_objects.proofs.AheadTexts.{taken_texts, whole_described}
use Rattle.dep_objects.proofs.ahead.TextsAhead.take.Goals as goal

pub returns-then-read-clause-taken : goal.returns-then-read-clause-taken
returns-then-read-clause-taken c s sound are has =
    let read = c.in_ok-read.read in
    whole_described s c.args.row.now has read sound (taken_texts s c.args.row.now has read c.in_ok-read.ensures.taken.0 are) c.if-read.true
