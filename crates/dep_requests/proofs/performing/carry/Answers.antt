use Rattle.std.proofs.Common.{IfSome, refl, sym, subst, ◌∙◌}
use Rattle.std.proofs.lemmas.Result.{IfOk-from_err}
use Rattle.dep_types.specs.State.{State}
use Rattle.dep_tables.proofs.Chains.{clean_before}
use Rattle.dep_row_maps.specs.Clauses.{SeesState}
use Rattle.dep_row_maps.proofs.Changing.{changes_err, changes_ok, changes_then}
use Rattle.dep_decisions.specs.Effects.{effect}
use Rattle.dep_decisions.proofs.Accepted.{effect_sound}
use Rattle.dep_decisions.proofs.ObjectsStay.{effect_keeps_objects}
use Rattle.dep_requests.specs.Reported.{IsAccepted}
use Rattle.dep_requests.proofs.AheadStill.{rows_still}
use Rattle.dep_requests.proofs.Carried.{request_made}
use Rattle.dep_requests.proofs.FilesBehind.{known_adds}
use Rattle.dep_requests.proofs.KnownShown.{has_known, seen_has}
use Rattle.dep_views.specs.Ahead.{AddsTo}
use Rattle.dep_row_maps.specs.Stored.{HasRow}
use Rattle.dep_requests.proofs.KnownReplies.{known_shown_by}
use Rattle.dep_requests.proofs.Stepping.{changes_still, left_alone, next_after, reads_alone, shown_after}
use Rattle.dep_requests.proofs.performing.carry.Goals as goal

pub returns-in_err-carry_out-clause-map : goal.returns-in_err-carry_out-clause-map
returns-in_err-carry_out-clause-map g c = record {
  done = λ clean within ours s are config sound fit rules ruling read. IfOk-from_err c.from_residual.result _ c.from_residual.ensures.0;
  keeps = changes_err c.from_residual.ensures.0 c.in_err-carry_out.ensures.map.keeps.stays;
}

pub returns-in_err-shown-clause-map : goal.returns-in_err-shown-clause-map
returns-in_err-shown-clause-map g c = record {
  done = λ clean within ours s are config sound fit rules ruling read. IfOk-from_err c.from_residual-in_err-shown.result _ c.from_residual-in_err-shown.ensures.0;
  keeps = changes_ok c.in_ok-carry_out.ensures.map.keeps;
}

pub returns-in-Show-clause-map : goal.returns-in-Show-clause-map
returns-in-Show-clause-map g c = record {
  done = λ clean within ours s are config sound fit rules ruling read.
      let op = c.args.asked.operation.now in
      let mid = g.T.Statements.state c.carry_out.new.tx in
      let before = clean_before c.load_shown.ensures.does.map.keeps.stays clean in
      let accepted : IsAccepted s c.args.ruled.now.view op.content c.args.decision.now = record { config = config; op = op; sound = sound; seen = rules.view; ruling = ruling; sent = refl } in
      let becomes = request_made config s op c.args.decision.now ruling.1 in
      let made = subst (SeesState mid) becomes (c.in_ok-carry_out.ensures.map.done before within ours s are accepted) in
      let known = has_known s op.content c.args.decision.now c.args.ruled.now.view.object c.row_after-after.result (c.row_after-after.ensures s op.content accepted) in
      let then = c.in_ok-carry_out.ensures.map.keeps.ours before within ours in
      let next = next_after config s op c.args.ruled.now.view c.args.decision.now c.after_taking-next.result rules.view ruling.1 (rw c.numbers_for.ensures at c.after_taking-next.ensures) in
      shown_after (effect config s op) op mid (g.T.Statements.state c.load_shown.new.tx) c.after_taking-next.result c.of-read_set.result c.load_shown.result made c.of-read_set.ensures next
      (c.load_shown.ensures.does.still clean then)
      (c.load_shown.ensures.does.map.found clean (c.in_ok-carry_out.ensures.map.keeps.stays.inside before within) then (effect config s op) made (effect_sound config s op fit ruling.0 sound)
      (subst (λ (after : State). IfSome c.row_after-after.result (HasRow after)) becomes known, rows_still s (effect config s op) c.args.rows.now (effect_keeps_objects config s op) read));
  keeps = changes_then c.in_ok-carry_out.ensures.map.keeps (changes_still c.load_shown.ensures.does.map.keeps.stays c.load_shown.ensures.does.still);
}

pub returns-clause-map : goal.returns-clause-map
returns-clause-map g c = record {
  done = λ clean within ours s are config sound fit rules ruling read.
      let op = c.args.asked.operation.now in
      let mid = g.T.Statements.state c.carry_out.new.tx in
      let before = clean_before c.load_shown-2.ensures.does.map.keeps.stays clean in
      let accepted : IsAccepted s c.args.ruled.now.view op.content c.args.decision.now = record { config = config; op = op; sound = sound; seen = rules.view; ruling = ruling; sent = refl } in
      let next = next_after config s op c.args.ruled.now.view c.args.decision.now c.after_taking-next.result rules.view ruling.1 (rw c.numbers_for.ensures at c.after_taking-next.ensures) in
      let becomes = request_made config s op c.args.decision.now ruling.1 in
      let made = subst (SeesState mid) becomes (c.in_ok-carry_out.ensures.map.done before within ours s are accepted) in
      let then = c.in_ok-carry_out.ensures.map.keeps.ours before within ours in
      let known = has_known s op.content c.args.decision.now c.args.ruled.now.view.object c.row_after-after.result (c.row_after-after.ensures s op.content accepted) in
      let added = subst (λ (after : State). AddsTo s after c.args.ruled.now.view.object c.row_after-after.result) becomes (known_adds s sound op.content c.args.decision.now c.args.ruled.now.view.object c.row_after-after.result (c.row_after-after.ensures s op.content accepted) (seen_has config s op c.args.ruled.now.view rules.view)) in
      shown_after (effect config s op) op mid (g.T.Statements.state c.load_shown-2.new.tx) c.after_taking-next.result c.of-read_set.result c.load_shown-2.result made c.of-read_set.ensures next
      (c.load_shown-2.ensures.does.still clean then)
      (c.load_shown-2.ensures.does.map.found clean (c.in_ok-carry_out.ensures.map.keeps.stays.inside before within) then (effect config s op) made (effect_sound config s op fit ruling.0 sound)
      (subst (λ (after : State). IfSome c.row_after-after.result (HasRow after)) becomes known, c.follow-its.ensures.followed s (effect config s op) (effect_sound config s op fit ruling.0 sound) read added));
  keeps = changes_then c.in_ok-carry_out.ensures.map.keeps (changes_still c.load_shown-2.ensures.does.map.keeps.stays c.load_shown-2.ensures.does.still);
}

pub returns-in-Show-clause-unchanged : goal.returns-in-Show-clause-unchanged
returns-in-Show-clause-unchanged g c show =
    reads_alone g.T.Statements.state c.args.tx.now c.carry_out.new.tx c.load_shown.new.tx c.load_shown.result (c.in_ok-carry_out.ensures.untouched show).1 c.load_shown.ensures.does.map.keeps.same

pub returns-clause-unchanged : goal.returns-clause-unchanged
returns-clause-unchanged g c show =
    reads_alone g.T.Statements.state c.args.tx.now c.carry_out.new.tx c.load_shown-2.new.tx c.load_shown-2.result (c.in_ok-carry_out.ensures.untouched show).1 c.load_shown-2.ensures.does.map.keeps.same

pub returns-in-Some-clause-map : goal.returns-in-Some-clause-map
returns-in-Some-clause-map g c = record {
  done = λ clean within ours s are config sound fit rules ruling read.
      let op = c.args.asked.operation.now in
      let accepted : IsAccepted s c.args.ruled.now.view op.content c.args.decision.now = record { config = config; op = op; sound = sound; seen = rules.view; ruling = ruling; sent = refl } in
      let made = subst (SeesState (g.T.Statements.state c.carry_out.new.tx)) (request_made config s op c.args.decision.now ruling.1) (c.in_ok-carry_out.ensures.map.done clean within ours s are accepted) in
      (made, known_shown_by config s op c.args.decision.now c.in-Some.shown ruling.1 (sym c.in-Some.is ∙ c.in_ok-shown.ensures s accepted));
  keeps = changes_ok c.in_ok-carry_out.ensures.map.keeps;
}

pub returns-in-Some-clause-unchanged : goal.returns-in-Some-clause-unchanged
returns-in-Some-clause-unchanged g c show is_open clean ours =
    left_alone g.T.Statements.state c.args.tx.now c.carry_out.new.tx (c.in_ok-carry_out.ensures.untouched show).1 is_open
