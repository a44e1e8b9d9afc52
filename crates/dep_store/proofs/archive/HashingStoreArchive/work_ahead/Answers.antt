use Rattle.std.proofs.Common.{sym, subst}
use Rattle.sqlite.specs.Held.{state}
use Rattle.sqlite.proofs.StateLemmas.{clean_if_open}
use Rattle.dep_transactions.proofs.Transacting.{leaves_as_was}
use Rattle.dep_exchange.specs.Archives.{Always, CommitsIfDue}
use Rattle.dep_views.specs.declared.ahead.WorkAhead.{WorkAhead}
use Rattle.dep_store.specs.Archive.{shown_by}
use Rattle.dep_store.specs.HashingStores.{shown_with_hashes}
use Rattle.dep_store.specs.LogCopies.{has_call}
use Rattle.dep_store.specs.declared.log_copy.LogCopy.{LogCopy}
use Rattle.dep_store.proofs.LogLemmas.{ahead_commits, copy_commits}
use Rattle.dep_store.proofs.KeepingLemmas.{keeps_each, keeps_either, keeps_itself, keeps_all, keeps_hashed, tries_hashed, shut_hashed}
use Rattle.dep_store.proofs.archive.HashingStoreArchive.work_ahead.Goals as goal

-- the log was copied
pub returns-then-count-clause-rests : goal.returns-then-count-clause-rests
returns-then-count-clause-rests g c =
    let runs = c.args.self.now.ahead in
    let old = state g.S.Store c.args.self.now.store in
    let store = c.copy_log-copied.new.self in
    let new = state g.S.Store store in
    let result = c.copy_log-copied.result in
    keeps_either (shown_with_hashes old runs) (shown_with_hashes new runs) result
    (clean_if_open (g.S.Store.view store.store) (g.met.S.Store.shut_if_dirty store.store))
    (tries_hashed old new runs runs Always Always (λ s answer. Unit {0}) (λ s. s) result (λ s its are. tt) (λ is_open s represents are. are) (λ s are. are) c.copy_log-copied.ensures.does)
    (shut_hashed old new runs runs result c.copy_log-copied.ensures.shut)

pub returns-then-count-clause-commits : goal.returns-then-count-clause-commits
returns-then-count-clause-commits g c =
    let runs = c.args.self.now.ahead in
    let log = c.args.self.now.log_copy in
    let old = shown_with_hashes (state g.S.Store c.args.self.now.store) runs in
    let new = shown_with_hashes (state g.S.Store c.copy_log-copied.new.self) runs in
    subst (λ (l : LogCopy). CommitsIfDue (has_call log) (has_call l) old new) (sym c.count.ensures.counted)
    (copy_commits log old new (c.count.ensures.due.0 c.if-count.true))

-- ---- nothing is hashed in this call

pub returns-then-matches-clause-rests : goal.returns-then-matches-clause-rests
returns-then-matches-clause-rests g c =
    let store = c.args.self.now.store in
    keeps_itself (shown_with_hashes (state g.S.Store store) c.args.self.now.ahead)
    (λ s keeps. leaves_as_was _ s (λ trees h. g.met.S.Store.settled store.store trees keeps.represents.represents.is_open h) keeps.represents)

pub returns-then-matches-clause-commits : goal.returns-then-matches-clause-commits
returns-then-matches-clause-commits g c =
    let at = shown_with_hashes (state g.S.Store c.args.self.now.store) c.args.self.now.ahead in
    ahead_commits c.args.self.now.log_copy _ at at c.count.ensures.counted (keeps_all at)

pub returns-then-not-self-clause-rests : goal.returns-then-not-self-clause-rests
returns-then-not-self-clause-rests g c =
    let store = c.args.self.now.store in
    let d = state g.S.Store store in
    let runs = c.args.self.now.ahead in
    let later : WorkAhead = c.forget.new.self in
    keeps_each (shown_with_hashes d runs) (shown_with_hashes d later)
    (λ s keeps. leaves_as_was _ s (λ trees h. g.met.S.Store.settled store.store trees keeps.represents.represents.is_open h) keeps.represents)
    (keeps_hashed d d runs later (λ is_open s represents are. c.forget.ensures s are) (keeps_all (shown_by d)))

pub returns-then-not-self-clause-commits : goal.returns-then-not-self-clause-commits
returns-then-not-self-clause-commits g c =
    let d = state g.S.Store c.args.self.now.store in
    let runs = c.args.self.now.ahead in
    let later : WorkAhead = c.forget.new.self in
    ahead_commits c.args.self.now.log_copy _ (shown_with_hashes d runs) (shown_with_hashes d later) c.count.ensures.counted
    (keeps_hashed d d runs later (λ is_open s represents are. c.forget.ensures s are) (keeps_all (shown_by d)))

-- ---- a part was hashed

pub returns-in-Some-clause-rests : goal.returns-in-Some-clause-rests
returns-in-Some-clause-rests g c =
    let store = c.args.self.now.store in
    let did = c.prepare-hashed.ensures in
    let old = state g.S.Store store in
    let new = state g.S.Store c.prepare-hashed.new.self in
    keeps_each (shown_with_hashes old c.args.self.now.ahead) (shown_with_hashes new c.prepare-hashed.new.ahead)
    (λ s keeps. leaves_as_was _ s (λ trees h. g.met.S.Store.settled store.store trees keeps.represents.represents.is_open h) keeps.represents)
    (keeps_hashed old new c.args.self.now.ahead c.prepare-hashed.new.ahead did.ahead did.rests)

pub returns-in-Some-clause-commits : goal.returns-in-Some-clause-commits
returns-in-Some-clause-commits g c =
    let did = c.prepare-hashed.ensures in
    let runs = c.args.self.now.ahead in
    let later = c.prepare-hashed.new.ahead in
    let old = state g.S.Store c.args.self.now.store in
    let new = state g.S.Store c.prepare-hashed.new.self in
    ahead_commits c.args.self.now.log_copy _ (shown_with_hashes old runs) (shown_with_hashes new later) c.count.ensures.counted (keeps_hashed old new runs later did.ahead did.rests)

pub returns-clause-rests : goal.returns-clause-rests
returns-clause-rests g c =
    let store = c.args.self.now.store in
    let did = c.hash_ahead.ensures in
    let old = state g.S.Store store in
    let new = state g.S.Store c.hash_ahead.new.self in
    keeps_each (shown_with_hashes old c.args.self.now.ahead) (shown_with_hashes new c.hash_ahead.new.ahead)
    (λ s keeps. leaves_as_was _ s (λ trees h. g.met.S.Store.settled store.store trees keeps.represents.represents.is_open h) keeps.represents)
    (keeps_hashed old new c.args.self.now.ahead c.hash_ahead.new.ahead (λ is_open s represents are. did.ahead is_open s represents (c.forget.ensures s are)) did.rests)

pub returns-clause-commits : goal.returns-clause-commits
returns-clause-commits g c =
    let did = c.hash_ahead.ensures in
    let runs = c.args.self.now.ahead in
    let later = c.hash_ahead.new.ahead in
    let old = state g.S.Store c.args.self.now.store in
    let new = state g.S.Store c.hash_ahead.new.self in
    ahead_commits c.args.self.now.log_copy _ (shown_with_hashes old runs) (shown_with_hashes new later) c.count.ensures.counted (keeps_hashed old new runs later (λ is_open s represents are. did.ahead is_open s represents (c.forget.ensures s are)) did.rests)
