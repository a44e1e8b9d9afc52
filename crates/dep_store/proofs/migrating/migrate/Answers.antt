use Rattle.std.proofs.Common.{inl, inr}
use Rattle.std.proofs.lemmas.Result.{on_err_weaker}
use Rattle.sqlite.specs.Held.{state}
use Rattle.sqlite.proofs.StateLemmas.{clean_if_open}
use Rattle.dep_tables.proofs.Results.{if_err, ok_then}
use Rattle.dep_schema.proofs.Reported.{passed_on}
use Rattle.dep_store.proofs.Migrated.{not_computed, was_tried, kept_back, back_behind}
use Rattle.dep_store.proofs.migrating.migrate.Goals as goal

-- the values were not computed
pub returns-in_err-values : goal.returns-in_err-values
returns-in_err-values g c =
    let old = c.args.connection.now in
    let new = c.hash_files.new.connection in
    let reported = c.in_err-values.ensures in
    let fault = c.in_err-values.field-0.0 in
    let shut = clean_if_open (g.S.Store.view new.store) (g.met.S.Store.shut_if_dirty new.store) in
    let passed = passed_on c.from_residual.result fault c.from_residual.ensures.1 in
    rw passed record {
      migrates = not_computed (state g.S.Store old) (state g.S.Store new) (λ is_open trees h. g.met.S.Store.settled old.store trees is_open h) shut fault (λ clean known. reported.reads.stays.kept clean) reported.reads.stays.honest (λ _ known. reported.reads.stays.survives);
      mode = reported.reads.stays.mode c.requires.settled;
      «open» = λ is_open. reported.reads.stays.was_open (shut is_open) is_open;
      free = λ clean was_open. tt;
      cause = λ clean was_open known. inl (reported.cause clean known);
      left = λ is_open between known. kept_back (state g.S.Store old) (state g.S.Store new) between (reported.reads.stays.kept (shut is_open)) is_open;
    }

pub returns : goal.returns
returns g c =
    let old = c.args.connection.now in
    let mid = c.hash_files.new.connection in
    let new = c.upgrade.new.connection in
    let reported = c.in_ok-values.ensures in
    let shut = clean_if_open (g.S.Store.view mid.store) (g.met.S.Store.shut_if_dirty mid.store) in
    let tried = rw c.as_slice.ensures.value at c.upgrade.ensures in
    let upgrades = tried.upgrades in
    record {
      migrates = was_tried (state g.S.Store old) (state g.S.Store mid) (state g.S.Store new) c.in_ok-values.values.items c.upgrade.result reported.hashes (λ clean known. reported.reads.same clean) shut reported.reads.stays.honest upgrades;
      mode = c.upgrade.ensures.mode;
      «open» = λ is_open. let mid_open = upgrades.was_open is_open in reported.reads.stays.was_open (shut mid_open) mid_open;
      free = λ clean was_open. ok_then c.upgrade.result (tried.free clean) (λ free. (mid, (λ known. (reported.reads.same (upgrades.honest clean)).0.now_is), free));
      cause = λ clean was_open known.
          let before = upgrades.honest clean in
          if_err c.upgrade.result (tried.cause clean) (λ fault failed. inr (mid, reported.reads.same before, c.in_ok-values.values.items, reported.hashes before known, failed));
      left = λ is_open between known.
          let mid_open = upgrades.was_open is_open in
          let before = shut mid_open in
          on_err_weaker c.upgrade.result (back_behind (state g.S.Store old) (state g.S.Store mid) (state g.S.Store new) (reported.reads.same before)) (tried.left is_open);
    }
