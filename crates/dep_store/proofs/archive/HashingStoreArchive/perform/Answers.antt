use Rattle.std.proofs.Common.{inl, Result, Ok}
use Rattle.sqlite.specs.Held.{state}
use Rattle.dep_types.specs.declared.store_fault.StoreFault.{StoreFault}
use Rattle.dep_answers.specs.Performing.{IsReady}
use Rattle.dep_answers.specs.declared.performed.Performed.{Performed}
use Rattle.dep_answers.specs.Steps.{operation_step}
use Rattle.dep_answers.proofs.SegmentsStay.{step_keeps_objects, step_keeps_segments}
use Rattle.dep_fields.specs.Fit.{AreFit}
use Rattle.dep_store.specs.HashingStores.{shown_with_hashes}
use Rattle.dep_store.proofs.LogLemmas.{note_falls_due}
use Rattle.dep_store.proofs.KeepingLemmas.{still_ahead, tries_hashed, tries_failed, shut_hashed, fails_failed}
use Rattle.dep_store.proofs.archive.HashingStoreArchive.perform.Goals as goal

pub returns-in_err-performed-clause-does : goal.returns-in_err-performed-clause-does
returns-in_err-performed-clause-does g c =
    let runs = c.args.self.now.ahead in
    let later = c.perform.new.ahead in
    let config = c.args.service.now in
    let op = c.args.operation.now in
    let old = state g.S.Store c.args.self.now.store in
    let new = state g.S.Store c.perform.new.self in
    tries_failed (shown_with_hashes old runs) (shown_with_hashes new later) _ (λ s p. IsReady (operation_step config s op) p) (λ s. (operation_step config s op).state) _ c.from_residual.result c.from_residual.ensures.0
    (tries_hashed old new runs later _ (λ s. AreFit op.fields) (λ s p. IsReady (operation_step config s op) p) (λ s. (operation_step config s op).state) _ (λ s fit are. (fit, are)) c.in_err-performed.ensures.ahead
    (λ s are. still_ahead s (operation_step config s op).state later (step_keeps_segments config s op) (step_keeps_objects config s op) are) c.in_err-performed.ensures.does)

pub returns-in_err-performed-clause-shut : goal.returns-in_err-performed-clause-shut
returns-in_err-performed-clause-shut g c =
    let runs = c.args.self.now.ahead in
    let later = c.perform.new.ahead in
    let old = state g.S.Store c.args.self.now.store in
    let new = state g.S.Store c.perform.new.self in
    fails_failed (shown_with_hashes old runs) (shown_with_hashes new later) _ c.from_residual.result c.from_residual.ensures.0
    (shut_hashed old new runs later _ c.in_err-performed.ensures.shut)

pub returns-clause-does : goal.returns-clause-does
returns-clause-does g c =
    let runs = c.args.self.now.ahead in
    let later = c.note_segment.new.ahead in
    let config = c.args.service.now in
    let op = c.args.operation.now in
    let old = state g.S.Store c.args.self.now.store in
    let done : Result Performed StoreFault = Ok c.in_ok-performed.performed in
    tries_hashed old (state g.S.Store c.perform.new.self) runs later _ (λ s. AreFit op.fields) (λ s p. IsReady (operation_step config s op) p) (λ s. (operation_step config s op).state) done
    (λ s fit are. (fit, are)) (λ is_open s represents are. c.note_segment.ensures.ahead s (c.in_ok-performed.ensures.ahead is_open s represents are))
    (λ s are. still_ahead s (operation_step config s op).state later (step_keeps_segments config s op) (step_keeps_objects config s op) are)
    c.in_ok-performed.ensures.does

pub returns-clause-shut : goal.returns-clause-shut
returns-clause-shut g c =
    let runs = c.args.self.now.ahead in
    let later = c.note_segment.new.ahead in
    let old = state g.S.Store c.args.self.now.store in
    let done : Result Performed StoreFault = Ok c.in_ok-performed.performed in
    shut_hashed old (state g.S.Store c.perform.new.self) runs later done c.in_ok-performed.ensures.shut

-- what was due stays due
pub returns-in_err-performed-clause-commits : goal.returns-in_err-performed-clause-commits
returns-in_err-performed-clause-commits g c = λ due. inl due

pub returns-clause-commits : goal.returns-clause-commits
returns-clause-commits g c =
    let op = c.args.operation.now in
    let done : Result Performed StoreFault = Ok c.in_ok-performed.performed in
    note_falls_due StoreFault op c.in_ok-performed.performed _ _ c.note.ensures
