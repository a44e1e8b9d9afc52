use Rattle.std.proofs.Common.{◌≡◌}
use Rattle.sqlite.specs.Held.{state}
use Rattle.dep_types.specs.State.{tick}
use Rattle.dep_decisions.proofs.ObjectsStay.{tick_keeps_objects}
use Rattle.dep_decisions.proofs.SegmentsStay.{tick_keeps_segments}
use Rattle.dep_exchange.specs.Archives.{Always}
use Rattle.dep_store.proofs.KeepingLemmas.{still_ahead, tries_hashed, shut_hashed}
use Rattle.dep_store.proofs.archive.HashingStoreArchive.tick.Goals as goal

pub returns-clause-does : goal.returns-clause-does
returns-clause-does g c =
    let runs = c.args.self.now.ahead in
    let config = c.args.config.now in
    tries_hashed (state g.S.Store c.args.self.now.store) (state g.S.Store c.tick.new.self) runs runs Always Always (λ s clock. clock ≡ (tick config s c.args.moment).clock)
    (λ s. tick config s c.args.moment) c.tick.result (λ s its are. tt) (λ is_open s represents are. are)
    (λ s are. still_ahead s (tick config s c.args.moment) runs (tick_keeps_segments config s c.args.moment) (tick_keeps_objects config s c.args.moment) are) c.tick.ensures.does

pub returns-clause-shut : goal.returns-clause-shut
returns-clause-shut g c =
    let runs = c.args.self.now.ahead in
    shut_hashed (state g.S.Store c.args.self.now.store) (state g.S.Store c.tick.new.self) runs runs c.tick.result c.tick.ensures.shut
