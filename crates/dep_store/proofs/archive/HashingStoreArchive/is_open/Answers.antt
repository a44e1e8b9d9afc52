use Rattle.std.proofs.lemmas.Result.{IfErr-weaker}
use Rattle.sqlite.specs.Held.{state}
use Rattle.dep_types.specs.declared.store_fault.StoreFault.{StoreFault}
use Rattle.dep_store.proofs.KeepingLemmas.{fails_to_report, keeps_hashed}
use Rattle.dep_store.proofs.archive.HashingStoreArchive.is_open.Goals as goal

pub returns-clause-rests : goal.returns-clause-rests
returns-clause-rests g c =
    let runs = c.args.self.now.ahead in
    keeps_hashed (state g.S.Store c.args.self.now.store) (state g.S.Store c.is_open.new.self) runs runs (λ is_open s represents are. are) c.is_open.ensures.rests

pub returns-clause-cause : goal.returns-clause-cause
returns-clause-cause g c clean =
    let old = state g.S.Store c.args.self.now.store in
    let new = state g.S.Store c.is_open.new.self in
    IfErr-weaker c.is_open.result _ _ (λ (fault : StoreFault) h. fails_to_report old new fault h) (c.is_open.ensures.cause clean)
