use Rattle.std.proofs.lemmas.Result.{IfOk-weaker}
use Rattle.sqlite.specs.Held.{state}
use Rattle.dep_store.proofs.KeepingLemmas.{shut_hashed, state_hashed}
use Rattle.dep_store.proofs.archive.HashingStoreArchive.begin.Goals as goal

pub returns-clause-begins : goal.returns-clause-begins
returns-clause-begins g c =
    let begun = c.begin.ensures.begins in
    (begun.0, λ clean. IfOk-weaker c.begin.result _ _ (λ answer behind. λ s keeps. behind s keeps.represents) (begun.1 clean))

pub returns-clause-does : goal.returns-clause-does
returns-clause-does g c = state_hashed (state g.S.Store c.args.self.now.store) (state g.S.Store c.begin.new.self) c.args.self.now.ahead c.begin.result c.begin.ensures.does

pub returns-clause-shut : goal.returns-clause-shut
returns-clause-shut g c =
    let runs = c.args.self.now.ahead in
    shut_hashed (state g.S.Store c.args.self.now.store) (state g.S.Store c.begin.new.self) runs runs c.begin.result c.begin.ensures.shut
