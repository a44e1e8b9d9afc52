use Rattle.sqlite.specs.Held.{state}
use Rattle.dep_types.specs.State.{State}
use Rattle.dep_decisions.specs.declared.operation.Operation.{Operation}
use Rattle.dep_types.specs.declared.config.Config.{Config}
use Rattle.dep_answers.specs.Performing.{IsReady}
use Rattle.dep_answers.specs.Steps.{operation_step}
use Rattle.dep_answers.specs.declared.performed.Performed.{Performed}
use Rattle.dep_fields.specs.Fit.{AreFit}
use Rattle.dep_tables.specs.Tables.{Tables}
use Rattle.dep_tables.proofs.Results.{if_failed, if_ok}
use Rattle.std.proofs.Common.{IsTrue, ◌≡◌, ◌∙◌, Option, Some, Err, false, refl, sym, subst}
use Rattle.std.specs.Prelude.{IfSome}
use Rattle.sqlite.proofs.StateLemmas.{clean_if_open}
use Rattle.dep_answers.specs.declared.performed.StoredFile.{StoredFile}
use Rattle.dep_types.specs.declared.store_fault.StoreFault.TheVariants.{Store}
use Rattle.dep_store.specs.Caching.{IsOfSize}
use Rattle.std.proofs.lemmas.Result.{IfOk-from_err}
use Rattle.dep_requests.specs.declared.performing.Done.{Done}
use Rattle.dep_transactions.specs.Transactions.{OverStates, Transacts, IsGivenBack}
use Rattle.dep_transactions.proofs.Transacting.{fails_back, stood_before, unmoved}
use Rattle.dep_requests.specs.declared.caching.Cache.{Cache}
use Rattle.dep_requests.proofs.CacheLemmas.{known_still}
use Rattle.dep_store.proofs.Cache.{forgotten, service_made}
use Rattle.dep_store.proofs.Tries.{back_as_was, busy_tries, busy_fails, is_busy, is_settled, tries_over}
use Rattle.dep_store.specs.Shut.{StoreFailsIfShut}
use Rattle.dep_store.proofs.KnownFiles.{performs, shows_file}
use Rattle.dep_store.proofs.ShutLemmas.{fails_still, was_open_then}
use Rattle.dep_store.proofs.store.Store.perform.Goals as goal

module _ (config : Config) (op : Operation) where
  abbrev ready : State → Performed → Type 0
  ready s p = IsReady (operation_step config s op) p

  abbrev done_ready : State → Done → Type 0
  done_ready s done = ready s done.performed

  abbrev next : State → State
  next s = (operation_step config s op).state

  abbrev Made : Tables → Performed → Tables → Type 0
  Made t p after = AreFit op.fields → OverStates ready next t p after

pub returns-in-Some : goal.returns-in-Some
returns-in-Some g c =
    let d = state g.S.Store c.self.inside.connection in
    let config = c.args.service.now in
    let op = c.args.operation.now in
    let reported = c.cached.ensures.reported c.in-Some.it c.in-Some.is in
    let result = c.show_service.result in
    let still : Transacts d d result (Made config op) = unmoved d result (Made config op) (λ is_open trees h. g.met.S.Store.settled c.self.inside.connection.store trees is_open h)
    (λ t represents. service_made d t config op c.in-Some.it result represents (c.self.invariant.0 c.in-Some.it reported.0) c.show_service.ensures) in
    let was_open = c.self.invariant.1 c.in-Some.it reported.0 in
    let between : d.in_transaction ≡ false = is_settled d.in_transaction c.if-not-is_autocommit.ensures.value in
    let back : IsGivenBack d d = back_as_was d was_open between in
    let shut : StoreFailsIfShut d d result = was_open_then d d _ was_open in
    record {
      does = tries_over _ _ result (Made config op) _ (ready config op) (next config op) (λ s its t p after made means. made its.0 s means) (rw c.self.view_is at still);
      unchanged = λ clean s given ahead nothing. if_ok result (rw c.self.view_is at back);
      ahead = λ is_open s represents are. are;
      shut = rw c.self.view_is at shut;
    }

-- it was shut, or the look at that failed
pub returns-in_err-check_open : goal.returns-in_err-check_open
returns-in_err-check_open g c =
    let first = c.self.inside.connection in
    let old = state g.S.Store first in
    let new = state g.S.Store c.check_open.new.connection in
    let config = c.args.service.now in
    let op = c.args.operation.now in
    let result = c.from_residual.result in
    let is_err = c.from_residual.ensures.0 in
    let restored = c.check_open.ensures.restored in
    let back : Transacts old new result (Made config op) = fails_back old new result _ is_err (λ is_open trees h. g.met.S.Store.settled first.store trees is_open h) restored.back restored.survives in
    let shut : StoreFailsIfShut old new result = fails_still old new result is_err restored.survives in
    record {
      does = tries_over _ _ result (Made config op) _ (ready config op) (next config op) (λ s its t p after made means. made its.0 s means) (rw c.self.view_is at back);
      unchanged = λ clean s given ahead nothing. IfOk-from_err result _ is_err;
      ahead = λ is_open s represents are. are;
      shut = rw c.self.view_is at shut;
    }

pub returns-in_err-done : goal.returns-in_err-done
returns-in_err-done g c =
    let first = c.self.inside.connection in
    let mid = c.check_open.new.connection in
    let new = state g.S.Store c.perform_request.new.connection in
    let config = c.args.service.now in
    let op = c.args.operation.now in
    let result = c.from_residual-in_err-done.result in
    let is_err = c.from_residual-in_err-done.ensures.0 in
    let asked = c.in_err-done.ensures in
    let done = performs (state g.S.Store first) (state g.S.Store mid) new config op c.args.ahead.now c.perform_request.new.ahead _ (λ is_open trees h. g.met.S.Store.settled first.store trees is_open h)
    (clean_if_open (g.S.Store.view mid.store) (g.met.S.Store.shut_if_dirty mid.store)) c.in_ok-check_open.ensures asked.ahead
    (shows_file _ _ config op _ asked.plain) asked.transacts asked.changes asked.back in
    let did = tries_over (state g.S.Store c.args.self.now) new _ _ _ (done_ready config op) (next config op) (λ s its t p after made means. made its.0 s means its.1) (rw c.self.view_is at done.transacts) in
    let shut : StoreFailsIfShut (state g.S.Store first) new result = record {
      opened = λ clean. IfOk-from_err result (λ _. IsTrue (state g.S.Store first).is_open) is_err;
      left = done.shut.left;
    } in
    record {
      does = record {
        ok = λ clean s at its. IfOk-from_err result _ is_err;
        err = λ is_open s at. if_failed result (did.err is_open s at);
        honest = did.honest;
        was_open = did.was_open;
        stop = did.stop;
      };
      unchanged = λ clean s given ahead nothing. IfOk-from_err result _ is_err;
      ahead = rw c.self.view_is at done.hashed;
      shut = rw c.self.view_is at shut;
    }

pub returns : goal.returns
returns g c =
    let first = c.self.inside.connection in
    let mid = c.check_open.new.connection in
    let new = state g.S.Store c.perform_request.new.connection in
    let config = c.args.service.now in
    let op = c.args.operation.now in
    let asked = c.in_ok-done.ensures in
    let done = performs (state g.S.Store first) (state g.S.Store mid) new config op c.args.ahead.now c.perform_request.new.ahead _ (λ is_open trees h. g.met.S.Store.settled first.store trees is_open h)
    (clean_if_open (g.S.Store.view mid.store) (g.met.S.Store.shut_if_dirty mid.store)) c.in_ok-check_open.ensures asked.ahead
    (shows_file _ _ config op _ asked.plain) asked.transacts asked.changes asked.back in
    let did = tries_over (state g.S.Store c.args.self.now) new _ _ _ (done_ready config op) (next config op) (λ s its t p after made means. made its.0 s means its.1) (rw c.self.view_is at done.transacts) in
    let shut = rw c.self.view_is at done.shut in
    record {
      does = record { ok = did.ok; err = λ is_open s at. tt; honest = did.honest; was_open = did.was_open; stop = did.stop };
      unchanged = λ clean s given ahead nothing.
          let represents = rw (← c.self.view_is) at given in
          subst (λ h. IsGivenBack (state g.S.Store h) new) c.self.view_is (done.back ((done.changes clean s represents ahead).1 nothing));
      ahead = rw c.self.view_is at done.hashed;
      shut = record { opened = shut.opened; left = shut.left };
    }

pub returns-then-not-is_autocommit : goal.returns-then-not-is_autocommit
returns-then-not-is_autocommit g c =
    let d = state g.S.Store c.args.self.now in
    let busy : IsTrue d.in_transaction = rw c.self.view_is at (is_busy c.self.inside.connection.in_transaction c.if-not-is_autocommit.ensures.value) in
    record {
      does = busy_tries d busy (Err Store) refl;
      unchanged = λ clean s given ahead nothing. tt;
      ahead = λ is_open s represents are. are;
      shut = busy_fails d busy (Err Store) refl;
    }

pub invariant_of-self : goal.invariant_of-self
invariant_of-self g c = forgotten (state g.S.Store c.check_open.new.connection)

pub invariant_of-self-in_err-done : goal.invariant_of-self-in_err-done
invariant_of-self-in_err-done g c = forgotten (state g.S.Store c.perform_request.new.connection)

pub invariant_of-self-2 : goal.invariant_of-self-2
invariant_of-self-2 g c =
    let first = c.self.inside.connection in
    let mid = c.check_open.new.connection in
    let asked = c.in_ok-done.ensures in
    let op = c.args.operation.now in
    let done = performs (state g.S.Store first) (state g.S.Store mid) (state g.S.Store c.perform_request.new.connection) c.args.service.now op c.args.ahead.now c.perform_request.new.ahead _
    (λ is_open trees h. g.met.S.Store.settled first.store trees is_open h) (clean_if_open (g.S.Store.view mid.store) (g.met.S.Store.shut_if_dirty mid.store)) c.in_ok-check_open.ensures asked.ahead
    (shows_file _ _ c.args.service.now op _ asked.plain) asked.transacts asked.changes asked.back in
    let known = λ (m : Cache) (is : c.still_known-self-inside.result ≡ Some m). known_still c.in_ok-done.done.has_changes c.self.inside.known.cache m (sym c.still_known-self-inside.ensures ∙ is) in (
      λ m is s represents.
          c.self.invariant.0 m (known m is).0 s (stood_before (state g.S.Store c.self.inside.connection) (state g.S.Store c.perform_request.new.connection) (done.back (known m is).1).back (is_settled c.self.inside.connection.in_transaction c.if-not-is_autocommit.ensures.value) s represents),
      λ m is clean. (done.back (known m is).1).opened clean,
      λ it is.
          let shown = c.file_shown-self-inside.ensures.reported it is in
          let given = done.back shown.1 in
          let store = c.perform_request.new.connection.store in (
            λ s represents.
                let clean = clean_if_open (g.S.Store.view store) (g.met.S.Store.shut_if_dirty store) represents.represents.is_open in
                let was = stood_before (state g.S.Store c.self.inside.connection) (state g.S.Store c.perform_request.new.connection) given.back (is_settled c.self.inside.connection.in_transaction c.if-not-is_autocommit.ensures.value) s represents in
                subst (λ (o : Option StoredFile). IfSome o (IsOfSize s)) shown.2 (done.shows shown.0 clean s was),
            λ clean. given.opened clean,
          ),
    )
