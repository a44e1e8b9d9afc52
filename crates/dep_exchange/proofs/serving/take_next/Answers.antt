use Rattle.std.proofs.Common.{None, true, false, sym, refl, ◌∙◌}
use Rattle.dep_message.specs.Stream.{Fault, Continue, Request}
use Rattle.dep_exchange.specs.Machine.{out_of_memory}
use Rattle.dep_exchange.specs.Sending.{outside}
use Rattle.dep_exchange.specs.Serving.{BeginsFirst, BeginsSource, answer_after}
use Rattle.dep_exchange.specs.Owing.{with_more}
use Rattle.dep_exchange.proofs.OwingLemmas.{takes_none}
use Rattle.dep_exchange.proofs.ServingLemmas.{continue_goes_on, request_shuts, request_goes_on, fault_shuts}
use Rattle.dep_exchange.proofs.ShutLemmas.{sends_up_to, was_cut}
use Rattle.dep_exchange.proofs.NextLemmas.{runs_out, takes_next, takes_lack, takes_waiting, takes_dead}
use Rattle.dep_exchange.proofs.BeginLemmas.{begins_as}
use Rattle.dep_exchange.proofs.serving.take_next.Goals as goal

pub returns-in-Err : goal.returns-in-Err
returns-in-Err g c =
    let h = c.in-Err.ensures in
    let store = g.A.Archive.condition c.args.store.now in
    let a = c.send_fault-answer.ensures in
    let how = c.send_fault-answer.result in
    record {
      owing = (
        None,
        refl,
        (a.0, a.1),
        takes_lack c.args.context.now.site.now c.args.intake.now c.next.new.self c.args.context.now.moment
            (outside (g.O.Outlet.taken c.args.out.now) (g.O.Outlet.failures c.args.out.now) store) (outside (g.O.Outlet.taken c.send_fault-answer.new.out) (g.O.Outlet.failures c.send_fault-answer.new.out) store)
            how h.0
            (runs_out c.args.intake.now.place (g.O.Outlet.taken c.args.out.now) (g.O.Outlet.taken c.send_fault-answer.new.out) (g.O.Outlet.failures c.args.out.now) (g.O.Outlet.failures c.send_fault-answer.new.out) store
            (answer_after how) h.1 (a.0, a.1, sends_up_to out_of_memory a.0 how a.2) (λ e. a.3 (was_cut how e)))
            c.next_after.result c.next_after.ensures.next c.next_after.new.intake c.next_after.ensures.read,
      );
      begins = tt;
      at_once = λ _. refl;
    }

pub returns-in-Ok-NeedMore : goal.returns-in-Ok-NeedMore
returns-in-Ok-NeedMore g c =
    let h = rw c.in-Ok-NeedMore.field-0-is at c.in-Ok-NeedMore.ensures in
    record {
      owing = (
        None,
        refl,
        takes_none (g.O.Outlet.taken c.args.out.now),
        takes_waiting c.args.context.now.site.now c.args.intake.now c.next.new.self c.args.context.now.moment
            (outside (g.O.Outlet.taken c.args.out.now) (g.O.Outlet.failures c.args.out.now) (g.A.Archive.condition c.args.store.now)) h.0 h.1 h.2,
      );
      begins = tt;
      at_once = λ _. refl;
    }

pub returns-in-Ok-Dead : goal.returns-in-Ok-Dead
returns-in-Ok-Dead g c =
    let h = rw c.in-Ok-Dead.field-0-is at c.in-Ok-Dead.ensures in
    record {
      owing = (
        None,
        refl,
        takes_none (g.O.Outlet.taken c.args.out.now),
        takes_dead c.args.context.now.site.now c.args.intake.now c.next.new.self c.args.context.now.moment
            (outside (g.O.Outlet.taken c.args.out.now) (g.O.Outlet.failures c.args.out.now) (g.A.Archive.condition c.args.store.now)) h.0 h.1,
      );
      begins = tt;
      at_once = λ _. refl;
    }

pub returns-in-Ok-Refused : goal.returns-in-Ok-Refused
returns-in-Ok-Refused g c =
    let h = rw c.in-Ok-Refused.field-0-is at c.in-Ok-Refused.ensures in
    let config = c.args.context.now.site.now in
    let moment = c.args.context.now.moment in
    let item = Fault c.in-Ok-Refused.refusal c.in-Ok-Refused.is_head_only in
    let old = g.A.Archive.condition c.args.store.now in
    let new = g.A.Archive.condition c.send_step-answer.new.store in
    let y = c.send_step-answer.ensures.owing config item moment c.args.store.now c.step_fault-step.ensures in
    record {
      owing = (
        y.0,
        y.1,
        y.2,
        takes_next config c.args.intake.now c.next.new.self moment
            (outside (g.O.Outlet.taken c.args.out.now) (g.O.Outlet.failures c.args.out.now) old)
            (outside (with_more (g.O.Outlet.taken c.send_step-answer.new.out) y.0) (g.O.Outlet.failures c.send_step-answer.new.out) new)
            item h true (λ _. fault_shuts _ _ _ _ _ h.first) (λ e. cc) c.send_step-answer.result.0 y.3
            c.next_after-in-Ok-Refused.result c.next_after-in-Ok-Refused.ensures.next c.next_after-in-Ok-Refused.new.intake c.next_after-in-Ok-Refused.ensures.read,
      );
      begins = begins_as (BeginsSource config item moment old new) (BeginsFirst config c.args.intake.now moment old new) c.send_step-answer.result.1
          (λ r source. (item, c.next.new.self.place, h.first, source)) (c.send_step-answer.ensures.begins config item moment c.args.store.now c.step_fault-step.ensures);
      at_once = c.send_step-answer.ensures.at_once;
    }

pub returns-in-Ok-Continue100 : goal.returns-in-Ok-Continue100
returns-in-Ok-Continue100 g c =
    let h = rw c.in-Ok-Continue100.field-0-is at c.in-Ok-Continue100.ensures in
    let config = c.args.context.now.site.now in
    let store = g.A.Archive.condition c.args.store.now in
    let sent = c.answer_continue-answer.ensures config c.args.context.now.moment in
    record {
      owing = (
        None,
        refl,
        (sent.sent, sent.passes.appends),
        takes_next config c.args.intake.now c.next.new.self c.args.context.now.moment
            (outside (g.O.Outlet.taken c.args.out.now) (g.O.Outlet.failures c.args.out.now) store)
            (outside (g.O.Outlet.taken c.answer_continue-answer.new.out) (g.O.Outlet.failures c.answer_continue-answer.new.out) store)
            Continue h false (λ e. cc) (λ _. continue_goes_on _ _ _ h.first) c.answer_continue-answer.result sent
            c.next_after-in-Ok-Continue100.result c.next_after-in-Ok-Continue100.ensures.next c.next_after-in-Ok-Continue100.new.intake c.next_after-in-Ok-Continue100.ensures.read,
      );
      begins = tt;
      at_once = λ _. refl;
    }

pub step_message-step-requires : goal.step_message-step-requires
step_message-step-requires g c = (rw c.in-Ok-Message.field-0-is at c.in-Ok-Message.ensures).1

pub returns-in-Ok-Message : goal.returns-in-Ok-Message
returns-in-Ok-Message g c =
    let h = rw c.in-Ok-Message.field-0-is at c.in-Ok-Message.ensures in
    let config = c.args.context.now.site.now in
    let moment = c.args.context.now.moment in
    let message = c.in-Ok-Message.message in
    let item = Request message in
    let old = g.A.Archive.condition c.args.store.now in
    let new = g.A.Archive.condition c.send_step-answer-in-Ok-Message.new.store in
    let y = c.send_step-answer-in-Ok-Message.ensures.owing config item moment c.args.store.now c.step_message-step.ensures in
    record {
      owing = (
        y.0,
        y.1,
        y.2,
        takes_next config c.args.intake.now c.next.new.self moment
            (outside (g.O.Outlet.taken c.args.out.now) (g.O.Outlet.failures c.args.out.now) old)
            (outside (with_more (g.O.Outlet.taken c.send_step-answer-in-Ok-Message.new.out) y.0) (g.O.Outlet.failures c.send_step-answer-in-Ok-Message.new.out) new)
            item h.0 c.in-Ok-Message.is_last (λ e. request_shuts _ _ _ message (sym h.1 ∙ e) h.0.first) (λ e. request_goes_on _ _ _ message (sym h.1 ∙ e) h.0.first)
            c.send_step-answer-in-Ok-Message.result.0 y.3
            c.next_after-in-Ok-Message.result c.next_after-in-Ok-Message.ensures.next c.next_after-in-Ok-Message.new.intake c.next_after-in-Ok-Message.ensures.read,
      );
      begins = begins_as (BeginsSource config item moment old new) (BeginsFirst config c.args.intake.now moment old new) c.send_step-answer-in-Ok-Message.result.1
          (λ r source. (item, c.next.new.self.place, h.0.first, source)) (c.send_step-answer-in-Ok-Message.ensures.begins config item moment c.args.store.now c.step_message-step.ensures);
      at_once = c.send_step-answer-in-Ok-Message.ensures.at_once;
    }
