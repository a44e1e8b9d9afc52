use Rattle.sqlite.specs.Held.{state}
use Rattle.dep_store.proofs.KeepingLemmas.{shut_hashed, state_hashed}
use Rattle.dep_store.proofs.archive.HashingStoreArchive.stream.Goals as goal

pub returns-clause-streams : goal.returns-clause-streams
returns-clause-streams g c =
    let sent = c.stream.ensures.streams in
    (sent.0, sent.1, λ clean s keeps. sent.2 clean s keeps.represents)

pub returns-clause-does : goal.returns-clause-does
returns-clause-does g c = state_hashed (state g.S.Store c.args.self.now.store) (state g.S.Store c.stream.new.self) c.args.self.now.ahead c.stream.result c.stream.ensures.does

pub returns-clause-shut : goal.returns-clause-shut
returns-clause-shut g c =
    let runs = c.args.self.now.ahead in
    shut_hashed (state g.S.Store c.args.self.now.store) (state g.S.Store c.stream.new.self) runs runs c.stream.result c.stream.ensures.stays.shut
