use Rattle.std.proofs.Common.{IsTrue, ◌∙◌, ℕ, Result, Ok, Err, min, refl, sym, ap}
use Rattle.sqlite.specs.Held.{state}
use Rattle.sqlite.proofs.StateLemmas.{clean_if_open}
use Rattle.dep_types.specs.Limits.{greatest_moment}
use Rattle.dep_types.specs.declared.store_fault.StoreFault.{StoreFault}
use Rattle.dep_types.specs.declared.store_fault.StoreFault.TheVariants.{Store}
use Rattle.dep_transactions.specs.Transactions.{Transacts}
use Rattle.dep_transactions.proofs.Transacting.{unmoved, after_back, fails_back}
use Rattle.dep_store.specs.Shut.{StoreFailsIfShut}
use Rattle.dep_requests.proofs.CacheLemmas.{none_is}
use Rattle.dep_store.proofs.Cache.{clock_made, forgotten, may_cache}
use Rattle.dep_store.proofs.ShutLemmas.{fails_still, was_open_then}
use Rattle.dep_store.proofs.Tries.{busy_tries, busy_fails, is_busy, is_settled, Clocked, ticks_over}
use Rattle.dep_store.proofs.store.Store.tick.Goals as goal

abbrev reported : ℕ → Result ℕ StoreFault
reported clock = Ok clock

pub returns-in-Some : goal.returns-in-Some
returns-in-Some g c =
    let d = state g.S.Store c.self.inside.connection in
    let config = c.args.config.now in
    let its = c.clock_still.ensures.reported c.in-Some.clock c.in-Some.is in
    let shown = reported c.new-shown.result in
    let still : Transacts d d shown (Clocked config c.secs-secs.result) = unmoved d _ _ (λ is_open trees h. g.met.S.Store.settled c.self.inside.connection.store trees is_open h)
    (λ t represents. clock_made d t config c.secs-secs.result its.0 c.new-shown.result represents (λ s at. (c.self.invariant.0 its.0 its.1 s at, its.3, sym its.4))
    (c.new-shown.ensures ∙ ap (λ (n : ℕ). min n greatest_moment) its.2)) in
    let shut : StoreFailsIfShut d d shown = was_open_then d d _ (c.self.invariant.1 its.0 its.1) in
    record {
      does = ticks_over _ _ _ config _ _ c.secs-secs.ensures.seconds (rw c.self.view_is at still);
      shut = rw c.self.view_is at shut;
    }

pub returns-in_err-found : goal.returns-in_err-found
returns-in_err-found g c =
    let old = state g.S.Store c.self.inside.connection in
    let new = state g.S.Store c.read_if_open.new.connection in
    let restored = c.read_if_open.ensures.finds.restored in
    let result = c.from_residual.result in
    let is_err = c.from_residual.ensures.0 in
    let back : Transacts old new result (Clocked c.args.config.now c.secs-secs.result) = fails_back old new result _ is_err (λ is_open trees h. g.met.S.Store.settled c.self.inside.connection.store trees is_open h) restored.back restored.survives in
    let shut : StoreFailsIfShut old new result = fails_still old new result is_err restored.survives in
    record {
      does = ticks_over _ _ _ c.args.config.now _ _ c.secs-secs.ensures.seconds (rw c.self.view_is at back);
      shut = rw c.self.view_is at shut;
    }

pub returns-in-Some-found : goal.returns-in-Some-found
returns-in-Some-found g c =
    let old = state g.S.Store c.self.inside.connection in
    let mid = state g.S.Store c.read_if_open.new.connection in
    let store = c.read_if_open.new.connection.store in
    let config = c.args.config.now in
    let looked = c.in_ok-found.ensures in
    let restored = looked.finds.restored in
    let shown = reported c.new-reported.result in
    let cached = may_cache old mid config c.secs-secs.result _ (clean_if_open (g.S.Store.view store) (g.met.S.Store.shut_if_dirty store))
    (is_settled c.self.inside.connection.in_transaction c.if-not-is_autocommit.ensures.value) looked in
    let moved : Transacts old mid shown (Clocked config c.secs-secs.result) = after_back old mid mid _ _ (λ is_open trees h. g.met.S.Store.settled c.self.inside.connection.store trees is_open h)
    (clean_if_open (g.S.Store.view store) (g.met.S.Store.shut_if_dirty store)) restored.back restored.survives looked.finds.opened
    (unmoved mid _ _ (λ is_open trees h. g.met.S.Store.settled store trees is_open h)
    (λ t represents. clock_made mid t config c.secs-secs.result c.in-Some-found.it c.new-reported.result represents (λ s at. cached s at c.in-Some-found.it c.in-Some-found.is) c.new-reported.ensures)) in
    let shut : StoreFailsIfShut old mid shown = was_open_then old mid _ (λ clean. (restored.back (looked.finds.opened clean)).0) in
    record {
      does = ticks_over _ _ _ config _ _ c.secs-secs.ensures.seconds (rw c.self.view_is at moved);
      shut = rw c.self.view_is at shut;
    }

pub returns-in-None : goal.returns-in-None
returns-in-None g c =
    let old = state g.S.Store c.self.inside.connection in
    let mid = state g.S.Store c.read_if_open.new.connection in
    let new = state g.S.Store c.transact.new.connection in
    let store = c.read_if_open.new.connection.store in
    let finds = c.in_ok-found.ensures.finds in
    let moved : Transacts old new c.transact.result (Clocked c.args.config.now c.secs-secs.result) = after_back old mid new _ _ (λ is_open trees h. g.met.S.Store.settled c.self.inside.connection.store trees is_open h)
    (clean_if_open (g.S.Store.view store) (g.met.S.Store.shut_if_dirty store)) finds.restored.back finds.restored.survives finds.opened c.transact.ensures.transacts in
    let shut : StoreFailsIfShut old new c.transact.result = was_open_then old new c.transact.result
    (λ clean. (finds.restored.back (finds.opened (c.transact.ensures.transacts.honest clean))).0) in
    record {
      does = ticks_over _ _ _ c.args.config.now _ _ c.secs-secs.ensures.seconds (rw c.self.view_is at moved);
      shut = rw c.self.view_is at shut;
    }

-- what was read is cached
pub invariant_of-self-in-Some-found : goal.invariant_of-self-in-Some-found
invariant_of-self-in-Some-found g c =
    let store = c.read_if_open.new.connection.store in
    let looked = c.in_ok-found.ensures in
    let cached = may_cache (state g.S.Store c.self.inside.connection) (state g.S.Store c.read_if_open.new.connection) c.args.config.now c.secs-secs.result _
    (clean_if_open (g.S.Store.view store) (g.met.S.Store.shut_if_dirty store)) (is_settled c.self.inside.connection.in_transaction c.if-not-is_autocommit.ensures.value) looked in (
      λ m is s represents. (cached s represents m (c.in-Some-found.is ∙ is)).0,
      λ m is clean. looked.finds.opened clean,
      λ it is. absurd (none_is is),
    )

pub returns-then-not-is_autocommit : goal.returns-then-not-is_autocommit
returns-then-not-is_autocommit g c =
    let d = state g.S.Store c.args.self.now in
    let busy : IsTrue d.in_transaction = rw c.self.view_is at (is_busy c.self.inside.connection.in_transaction c.if-not-is_autocommit.ensures.value) in
    record { does = busy_tries d busy (Err Store) refl; shut = busy_fails d busy (Err Store) refl }

pub invariant_of-self : goal.invariant_of-self
invariant_of-self g c = forgotten (state g.S.Store c.read_if_open.new.connection)

pub invariant_of-self-in-None : goal.invariant_of-self-in-None
invariant_of-self-in-None g c = forgotten (state g.S.Store c.transact.new.connection)
