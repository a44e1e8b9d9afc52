use Rattle.std.proofs.Common.{not, ◌∙◌, ap, inl, []}
use Rattle.std.proofs.lemmas.Result.{err_from_is_err_and}
use Rattle.sqlite.specs.Held.{state}
use Rattle.sqlite.proofs.StateLemmas.{clean_if_open}
use Rattle.dep_transactions.proofs.Transacting.{back_by_statement, not_run}
use Rattle.dep_transactions.proofs.probing.probe.Goals as goal

pub returns-in_err-prepare-clause-cause : goal.returns-in_err-prepare-clause-cause
returns-in_err-prepare-clause-cause g c clean =
    let is = err_from_is_err_and c.from_residual.result c.from_residual.ensures.1 in
    rw (is.1, is.2) (c.in_err-prepare.ensures.err clean [])

pub returns-in_err-prepare-clause-restored : goal.returns-in_err-prepare-clause-restored
returns-in_err-prepare-clause-restored g c =
    let old = state g.S.Store c.args.connection.now in
    let new = state g.S.Store c.prepare.new.self in
    let clean = clean_if_open (g.S.Store.view c.prepare.new.self.store) (g.met.S.Store.shut_if_dirty c.prepare.new.self.store) in
    record {
      back = λ is_open. back_by_statement old new (c.is_autocommit-between.ensures.settled (c.is_autocommit-between.ensures.value ∙ ap not c.requires.settled)) c.requires.settled
          (not_run old new _ [] c.in_err-prepare.field-0.0 (c.in_err-prepare.ensures.err (clean is_open) [])) is_open;
      mode = c.prepare.ensures.mode c.requires.settled;
      survives = c.prepare.ensures.survives;
    }

pub returns-clause-opened : goal.returns-clause-opened
returns-clause-opened g c = λ clean. (c.in_ok-prepare.ensures.ok clean).1.0.is_open

pub returns-clause-restored : goal.returns-clause-restored
returns-clause-restored g c =
    let old = state g.S.Store c.args.connection.now in
    let new = state g.S.Store c.prepare.new.self in
    let clean = clean_if_open (g.S.Store.view c.prepare.new.self.store) (g.met.S.Store.shut_if_dirty c.prepare.new.self.store) in
    record {
      back = λ is_open. back_by_statement old new (c.is_autocommit-between.ensures.settled (c.is_autocommit-between.ensures.value ∙ ap not c.requires.settled)) c.requires.settled
          (inl (c.in_ok-prepare.ensures.ok (clean is_open)).1) is_open;
      mode = c.prepare.ensures.mode c.requires.settled;
      survives = c.prepare.ensures.survives;
    }
