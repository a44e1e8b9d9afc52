use Rattle.std.proofs.Common.{IfOk, subst, ◌∙◌, ◌≡◌}
use Rattle.dep_types.specs.Sinks.{file_given}
use Rattle.dep_bag.specs.Giving.{state_of}
use Rattle.dep_bag.specs.declared.export_fault.ExportFault.TheVariants.{Sink}
use Rattle.dep_bag.proofs.GivenParts.{text_breaks, text_unended, text_ended, none_asked, none_given}
use Rattle.dep_bag.proofs.giving.give_text.Goals as goal

pub returns-in_err-text : goal.returns-in_err-text
returns-in_err-text g c = λ bytes are.
    none_asked (state_of g.K.Outlet.taken g.K.Outlet.failures c.args.sink.now) (file_given (c.args.path.now, bytes)) c.from_residual.result c.from_residual.ensures.1

pub returns-in_err-begin : goal.returns-in_err-begin
returns-in_err-begin g c = λ bytes are.
    let reported = state_of g.K.Outlet.taken g.K.Outlet.failures in
    none_given (reported c.args.sink.now) (reported c.begin.new.self) (file_given (c.args.path.now, bytes)) c.from_residual-in_err-begin.result Sink
    c.in_err-begin.ensures.err c.in_err-begin.ensures.cause c.from_residual-in_err-begin.ensures.1 tt

pub returns-in_err-write : goal.returns-in_err-write
returns-in_err-write g c = λ bytes are.
    let reported = state_of g.K.Outlet.taken g.K.Outlet.failures in
    text_breaks (reported c.args.sink.now) (reported c.begin.new.self) (reported c.write.new.self) (reported c.write.new.self)
    c.args.path.now bytes c.as_slice.result.now c.from_residual-in_err-write.result
    (c.as_slice.ensures.value ∙ subst (λ made. IfOk made (λ text. text.items ≡ bytes)) c.in_ok-text.was are)
    (record { adds = c.in_ok-begin.ensures.ok; steady = c.in_ok-begin.ensures.count })
    c.in_err-write.ensures.err c.in_err-write.ensures.cause c.from_residual-in_err-write.ensures.1

pub returns-in_err-finish : goal.returns-in_err-finish
returns-in_err-finish g c = λ bytes are.
    let reported = state_of g.K.Outlet.taken g.K.Outlet.failures in
    text_unended (reported c.args.sink.now) (reported c.begin.new.self) (reported c.write.new.self) (reported c.finish.new.self)
    c.args.path.now bytes c.as_slice.result.now c.from_residual-in_err-finish.result
    (c.as_slice.ensures.value ∙ subst (λ made. IfOk made (λ text. text.items ≡ bytes)) c.in_ok-text.was are)
    (record { adds = c.in_ok-begin.ensures.ok; steady = c.in_ok-begin.ensures.count })
    c.in_ok-write.ensures.ok c.in_ok-write.ensures.count c.in_err-finish.ensures.err c.in_err-finish.ensures.cause c.from_residual-in_err-finish.ensures.1

pub returns : goal.returns
returns g c = λ bytes are.
    let reported = state_of g.K.Outlet.taken g.K.Outlet.failures in
    text_ended (reported c.args.sink.now) (reported c.begin.new.self) (reported c.write.new.self) (reported c.finish.new.self)
    c.args.path.now bytes c.as_slice.result.now _
    (c.as_slice.ensures.value ∙ subst (λ made. IfOk made (λ text. text.items ≡ bytes)) c.in_ok-text.was are)
    (record { adds = c.in_ok-begin.ensures.ok; steady = c.in_ok-begin.ensures.count })
    c.in_ok-write.ensures.ok c.in_ok-write.ensures.count c.in_ok-finish.ensures.ok c.in_ok-finish.ensures.count
