use Rattle.std.proofs.lemmas.Result.{IfOk-from_err}
use Rattle.std.proofs.Common.{ap, subst, sym, ◌∙◌}
use Rattle.std.specs.Option.{option_map}
use Rattle.dep_operations.specs.Rulings.{IsRuling}
use Rattle.dep_operations.specs.declared.ruling.Ruling.{Ruling}
use Rattle.dep_tables.proofs.Results.{if_ok}
use Rattle.dep_row_maps.specs.Clauses.{SeesState}
use Rattle.dep_row_maps.proofs.Changing.{changes_err, changes_ok, changes_put}
use Rattle.dep_requests.proofs.Stepping.{delivered, refused_then, accepted_then, row_known_shown}
use Rattle.sqlite.proofs.StateLemmas.{unchanged}
use Rattle.dep_types.specs.State.{State}
use Rattle.dep_answers.specs.declared.read_set.Shown.TheVariants as shown
use Rattle.dep_requests.specs.Performing.{AsksToBeShown, Rules, SeesFor, ShowsEffect}
use Rattle.dep_requests.specs.declared.performing.Ruled.{Ruled}
use Rattle.dep_requests.proofs.performing.follow.Goals as goal

pub returns-in-Some-clause-map : goal.returns-in-Some-clause-map
returns-in-Some-clause-map g c = record {
  done = λ clean within ours s are sound fit rules read.
      let op = c.args.operation.now in
      let config = c.args.service.now in
      let way = delivered s op c.args.ruled.now.view.clock c.delivery_at-delivery.result sound rules.clock
      c.delivery_at-delivery.ensures.clock c.delivery_at-delivery.ensures.head_only c.delivery_at-delivery.ensures.closes in
      let is = c.in-Some.ensures.let_through.1 in
      let ruling = subst (λ (r : Ruling). IsRuling config s op r) is rules.ruling in
      let seen = subst (λ (r : Ruling). SeesFor config s op c.args.ruled.now r) is rules.seen in
      let shows = row_known_shown config s op c.args.ruled.now seen (shown.File c.in-Some.row) (sym (ap (option_map shown.File) c.in-Some.ensures.row)) in
      let carried : ShowsEffect config s op (g.T.Statements.state c.args.tx.now) (shown.File c.in-Some.row) = (subst (λ (after : State). SeesState (g.T.Statements.state c.args.tx.now) after) (sym shows.0) are, shows.1) in
      accepted_then config s op (SeesState (g.T.Statements.state c.args.tx.now)) c.delivery_at-delivery.result _ c.accept-performed.result fit sound ruling.0 way carried c.accept-performed.ensures;
  keeps = changes_put g.T.Statements.lenders g.T.Statements.state c.args.tx.now c.accept-performed.result;
}

pub returns-in-Some-clause-unchanged : goal.returns-in-Some-clause-unchanged
returns-in-Some-clause-unchanged g c only is_open clean ours = if_ok c.accept-performed.result (unchanged (g.T.Statements.state c.args.tx.now) is_open)

pub returns-in-Refuse-clause-map : goal.returns-in-Refuse-clause-map
returns-in-Refuse-clause-map g c = record {
  done = λ clean within ours s are sound fit rules read.
      let op = c.args.operation.now in
      let config = c.args.service.now in
      let ruled = c.take_row.new.ruled in
      let is = subst (λ (r : Ruled). Rules config s op r) (sym (c.take_row.ensures.kept c.in_default.is)) rules in
      let way = delivered s op c.args.ruled.now.view.clock c.delivery_at-delivery.result sound rules.clock
      c.delivery_at-delivery.ensures.clock c.delivery_at-delivery.ensures.head_only c.delivery_at-delivery.ensures.closes in
      refused_then config s op (SeesState (g.T.Statements.state c.args.tx.now)) _ c.delivery_at-delivery.result c.refused.result
      (subst (λ (r : Ruling). IsRuling config s op r) c.in-Refuse.is is.ruling) way are c.refused.ensures.says;
  keeps = changes_put g.T.Statements.lenders g.T.Statements.state c.args.tx.now c.refused.result;
}

pub returns-in_ok-shown-in-Do-clause-map : goal.returns-in_ok-shown-in-Do-clause-map
returns-in_ok-shown-in-Do-clause-map g c = record {
  done = λ clean within ours s are sound fit rules read.
      let op = c.args.operation.now in
      let config = c.args.service.now in
      let ruled = c.take_row.new.ruled in
      let is = subst (λ (r : Ruled). Rules config s op r) (sym (c.take_row.ensures.kept c.in_default.is)) rules in
      let way = delivered s op c.args.ruled.now.view.clock c.delivery_at-delivery.result sound rules.clock
      c.delivery_at-delivery.ensures.clock c.delivery_at-delivery.ensures.head_only c.delivery_at-delivery.ensures.closes in
      let ruling = subst (λ (r : Ruling). IsRuling config s op r) c.in-Do.is is.ruling in
      let seen = subst (λ (r : Ruling). SeesFor config s op ruled r) c.in-Do.is is.seen in
      let carried = c.in_ok-shown-in-Do.ensures.map.done clean within ours s are config sound fit seen ruling read in
      accepted_then config s op (SeesState (g.T.Statements.state c.carry.new.tx)) c.delivery_at-delivery.result _ c.accept-performed-in-Do.result fit sound ruling.0 way carried c.accept-performed-in-Do.ensures;
  keeps = changes_ok c.in_ok-shown-in-Do.ensures.map.keeps;
}

pub returns-in_err-shown-in-Do-clause-map : goal.returns-in_err-shown-in-Do-clause-map
returns-in_err-shown-in-Do-clause-map g c = record {
  done = λ clean within ours s are sound fit rules read. IfOk-from_err c.from_residual.result _ c.from_residual.ensures.0;
  keeps = changes_err c.from_residual.ensures.0 c.in_err-shown-in-Do.ensures.map.keeps.stays;
}

pub returns-in-Refuse-clause-unchanged : goal.returns-in-Refuse-clause-unchanged
returns-in-Refuse-clause-unchanged g c only is_open clean ours = if_ok c.refused.result (unchanged (g.T.Statements.state c.args.tx.now) is_open)

pub returns-in_ok-shown-in-Do-clause-unchanged : goal.returns-in_ok-shown-in-Do-clause-unchanged
returns-in_ok-shown-in-Do-clause-unchanged g c only is_open clean ours =
    if_ok c.accept-performed-in-Do.result
    (c.in_ok-shown-in-Do.ensures.unchanged (subst (λ (r : Ruling). AsksToBeShown r) (sym (ap (λ (r : Ruled). r.ruling) (c.take_row.ensures.kept c.in_default.is)) ∙ c.in-Do.is) only) is_open clean ours)
