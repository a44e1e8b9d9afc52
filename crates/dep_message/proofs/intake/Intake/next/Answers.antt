use Rattle.std.proofs.Common.{◌∙◌, subst}
use Rattle.std.proofs.lemmas.Result.{err_from_is_err_and}
use Rattle.dep_message.specs.Giving.{HasFirstHead}
use Rattle.dep_message.specs.Places.{HasBytes}
use Rattle.dep_message.proofs.Bodies.{head_bytes}
use Rattle.dep_message.specs.Working.{FindsFirst, kept_bytes}
use Rattle.dep_message.proofs.Keeping.{stands_still}
use Rattle.dep_message.proofs.Taking.{behind_last, behind_other, gives_continue, gives_fault, gives_request}
use Rattle.dep_message.proofs.intake.Intake.next.Goals as goal
use Rattle.dep_message.proofs.intake.Intake.next.Goals.{then-is_last, else-is_last}

pub returns-in_err-next : goal.returns-in_err-next
returns-in_err-next c =
    let unparsed = c.self.inside.unparsed in
    let wants = c.in_err-next.ensures in
    let still = stands_still unparsed c.next.new.self c.self.inside.standing c.args.self.now c.in-Live.is c.self.view_is wants.0 in
    let err = err_from_is_err_and c.from_residual.result c.from_residual.ensures.1 in
    rw (err.1) (still.0, subst HasBytes still.1 (head_bytes unparsed.continued _ wants.1), subst HasFirstHead still.1 wants.1)

pub returns-in-Some-Continue : goal.returns-in-Some-Continue
returns-in-Some-Continue c =
    let w = c.self.inside.unparsed in
    let given : FindsFirst w.limit w.continued (kept_bytes w) c.next.new.self c.in_ok-next.field-0 = c.in_ok-next.ensures in
    gives_continue c.args.self.now c.self.inside.standing w c.next.new.self c.in-Live.is c.self.view_is
    (rw (c.in-Some-Continue.is, c.in-Some-Continue.field-0-is) at given)

pub returns-in-Some-Fault : goal.returns-in-Some-Fault
returns-in-Some-Fault c =
    let w = c.self.inside.unparsed in
    let given : FindsFirst w.limit w.continued (kept_bytes w) c.next.new.self c.in_ok-next.field-0 = c.in_ok-next.ensures in
    gives_fault c.args.self.now c.shut.new.self c.self.inside.standing w c.next.new.self c.in-Some-Fault.refusal c.in-Some-Fault.head_only c.in-Live.is c.self.view_is
    (rw (c.in-Some-Fault.is, c.in-Some-Fault.field-0-is) at given) c.shut.ensures

pub returns-after-is_last : goal.returns-after-is_last
returns-after-is_last c =
    let w = c.self.inside.unparsed in
    let standing = c.self.inside.standing in
    let new = c.next.new.self in
    let last = c.closes-is_last.result in
    let after = c.if-is_last.self in
    let given : FindsFirst w.limit w.continued (kept_bytes w) new c.in_ok-next.field-0 = c.in_ok-next.ensures in
    gives_request c.args.self.now after standing w new c.in-Some-Message.message last c.in-Live.is c.self.view_is
    (rw (c.in-Some-Message.is, c.in-Some-Message.field-0-is) at given) c.closes-is_last.ensures
    (elim c.if-is_last.branch [
      | then-is_last t ↦ behind_last last standing new after t.if-is_last.true (t.self-is ∙ t.end.ensures)
      | else-is_last t ↦ behind_other last standing new after t.if-is_last.false t.self-is
    ])
