use Rattle.sqlite.specs.Held.{state}
use Rattle.dep_store.proofs.KeepingLemmas.{shut_hashed, state_hashed}
use Rattle.dep_store.proofs.archive.HashingStoreArchive.stream_on.Goals as goal

pub returns-clause-streams : goal.returns-clause-streams
returns-clause-streams g c =
    let sent = c.stream_on.ensures.streams in
    (sent.0, sent.1, λ clean s keeps. sent.2 clean s keeps.represents)

pub returns-clause-does : goal.returns-clause-does
returns-clause-does g c = state_hashed (state g.S.Store c.args.self.now.store) (state g.S.Store c.stream_on.new.self) c.args.self.now.ahead c.stream_on.result c.stream_on.ensures.does

pub returns-clause-shut : goal.returns-clause-shut
returns-clause-shut g c =
    let runs = c.args.self.now.ahead in
    shut_hashed (state g.S.Store c.args.self.now.store) (state g.S.Store c.stream_on.new.self) runs runs c.stream_on.result c.stream_on.ensures.stays.shut
