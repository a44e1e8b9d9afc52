use Rattle.std.proofs.Common.{take, drop, sym, ◌∙◌}
use Rattle.std.proofs.lemmas.List.{take-append-drop}
use Rattle.dep_message.specs.Stream.{bad_framing}
use Rattle.dep_message.proofs.Bodies.{waiting_head, due_now}
use Rattle.dep_message.proofs.first.framed.Goals as goal

pub returns-in-Err : goal.returns-in-Err
returns-in-Err c = (
  take c.args.end c.args.bytes.now,
  drop c.args.end c.args.bytes.now,
  sym (take-append-drop c.args.end c.args.bytes.now),
  rw (c.refusal_for.ensures, c.is_without_body-head_only.ensures) (bad_framing c.in-Err.fault c.requires.1 (sym c.in-Err.ensures)),
)

pub returns-in-Ok : goal.returns-in-Ok
returns-in-Ok c =
    waiting_head c.args.limit c.args.continued c.args.bytes.now c.args.end c.args.head c.in-Ok.framing c.requires.1 (sym c.in-Ok.ensures)
    (due_now _ _ c.if-not-continued.true (sym c.awaits_continue.ensures ∙ c.if-awaits_continue.true))
