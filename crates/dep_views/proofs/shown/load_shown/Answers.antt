use Rattle.std.proofs.lemmas.Result.{IfOk-from_err}
use Rattle.dep_tables.proofs.Chains.{may_err}
use Rattle.dep_views.proofs.Shows.{beside_rows, shown_behind_row}
use Rattle.dep_views.proofs.shown.load_shown.Goals as goal

pub returns-in-Some : goal.returns-in-Some
returns-in-Some g c = record {
  does = shown_behind_row c.in-Some.is c.in_ok-row.ensures.does c.show_object.ensures.does;
  rows = c.show_object.ensures.rows;
}

pub returns-in-None : goal.returns-in-None
returns-in-None g c = record {
  does = shown_behind_row c.in-None.is c.in_ok-row.ensures.does (beside_rows _ c.show_other.ensures.does);
  rows = λ s are. are;
}

pub returns-in_err-row : goal.returns-in_err-row
returns-in_err-row g c = record {
  does = record {
    map = record {
      found = λ clean inside ours s are sound known. IfOk-from_err c.from_residual.result _ c.from_residual.ensures.0;
      keeps = may_err c.from_residual.ensures.0 c.in_err-row.ensures.does.keeps;
    };
    still = λ clean ours. IfOk-from_err c.from_residual.result _ c.from_residual.ensures.0;
  };
  rows = λ s are. are;
}
