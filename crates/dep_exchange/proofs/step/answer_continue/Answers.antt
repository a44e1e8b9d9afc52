use Rattle.std.proofs.Common.{sym}
use Rattle.std.proofs.lemmas.List.{append-nil}
use Rattle.dep_message.specs.Stream.{Continue}
use Rattle.dep_exchange.specs.Machine.{step, continue_line}
use Rattle.dep_exchange.proofs.ServingLemmas.{answers_reply}
use Rattle.dep_exchange.proofs.step.answer_continue.Goals as goal

pub returns : goal.returns
unfolding step
returns g c = λ config moment.
    answers_reply config (g.O.Outlet.taken c.args.out.now) (g.O.Outlet.taken c.send.new.out) (g.O.Outlet.failures c.args.out.now) (g.O.Outlet.failures c.send.new.out)
    (g.A.Archive.condition c.args.store.now) Continue moment c.send.result continue_line
    (g.met.A.Archive.settled c.args.store.now)
    c.send.ensures.sends c.send.ensures.kept c.send.ensures.cause (λ s represents. (represents, sym (append-nil continue_line)))
    (λ sent h. h)
