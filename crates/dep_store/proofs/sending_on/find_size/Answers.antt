use Rattle.std.proofs.Common.{◌∙◌, sym, ap}
use Rattle.std.proofs.lemmas.Result.{IfOk-from_err}
use Rattle.sqlite.specs.Held.{state}
use Rattle.dep_types.specs.State.{file_at}
use Rattle.dep_store.proofs.SentOn.{sized_row}
use Rattle.dep_store.proofs.Tries.{back_as_was}
use Rattle.dep_store.proofs.sending_on.find_size.Goals as goal

-- it is known to be there, and nothing is asked
pub returns-then-one-it-2 : goal.returns-then-one-it-2
returns-then-one-it-2 g c =
    let d = state g.S.Store c.args.connection.now in
    let one = c.in-Some.one in
    let it = c.args.it in
    let known = c.requires.there one c.in-Some.is in
    let back = back_as_was d known.1 c.requires.settled in
    record {
      reports = λ clean s represents.
          let has = known.0 s represents in
          (has.0, ap (λ n. file_at s n it.file) (sym c.if-one-it.true) ∙ (ap (λ n. file_at s one.object n) (sym c.if-one-it-2.true) ∙ has.1), has.2);
      finds = record { opened = back.opened; restored = record { back = back.back; mode = c.requires.settled; survives = back.survives } };
    }

-- its row was found
pub returns-in-Some-found : goal.returns-in-Some-found
returns-in-Some-found g c =
    let did = c.in_ok-found.ensures in
    let it = c.args.it in
    record {
      reports = λ clean s represents. sized_row (file_at s it.object it.file) it.object it.file c.in-Some-found.row (sym c.in-Some-found.is ∙ did.reports clean s represents);
      finds = record { opened = did.finds.opened; restored = did.finds.restored };
    }

-- it has none
pub returns-in-None : goal.returns-in-None
returns-in-None g c = record {
  reports = λ clean s represents. tt;
  finds = record { opened = λ clean. tt; restored = c.read_if_open.ensures.finds.restored };
}

-- it could not be read
pub returns-in_err-found : goal.returns-in_err-found
returns-in_err-found g c =
    let result = c.from_residual.result in
    let failed = c.from_residual.ensures.0 in
    record {
      reports = λ clean s represents. IfOk-from_err result _ failed;
      finds = record { opened = λ clean. IfOk-from_err result _ failed; restored = c.read_if_open.ensures.finds.restored };
    }
