use Rattle.std.proofs.Common.{◌≡◌, subst, sym, ap, ◌∙◌}
use Rattle.dep_exchange.specs.Machine.{SendsUpTo, out_of_memory}
use Rattle.dep_exchange.specs.Nexts.{arrived_after, reading_behind}
use Rattle.dep_exchange.specs.Serving.{answer_after}
use Rattle.dep_exchange.proofs.NextLemmas.{arrived_last, reads_last}
use Rattle.dep_exchange.proofs.ShutLemmas.{sends_up_to, was_cut}
use Rattle.dep_exchange.proofs.serving.give_up.Goals as goal

pub returns : goal.returns
returns g c =
    let a = c.send_fault-answer.ensures in
    let how = c.send_fault-answer.result in
    let is : c.arrived.result ≡ answer_after how = c.arrived.ensures ∙ (ap arrived_after c.next_after.ensures.next ∙ arrived_last how) in
    record {
      sent = (a.0, a.1, subst (λ answer. SendsUpTo out_of_memory a.0 answer) (sym is) (sends_up_to out_of_memory a.0 how a.2));
      cause = λ e. a.3 (was_cut how (sym is ∙ e));
      shut = c.next_after.ensures.read ∙ ap (reading_behind c.args.intake.now) c.next_after.ensures.next ∙ reads_last c.args.intake.now how;
    }
