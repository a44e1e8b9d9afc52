use Rattle.sqlite.specs.Held.{state}
use Rattle.sqlite.proofs.StateLemmas.{clean_if_open}
use Rattle.dep_schema.specs.Fixity.{IsAudited}
use Rattle.dep_store.specs.Shut.{StoreFailsIfShut}
use Rattle.dep_store.specs.Staying.{ReportsTables}
use Rattle.dep_store.proofs.Carrying.{ok_reported}
use Rattle.dep_store.proofs.Migrated.{tables_kept}
use Rattle.dep_store.proofs.ShutLemmas.{leaves_no_more}
use Rattle.dep_store.proofs.Cache.{forgotten}
use Rattle.dep_tables.proofs.Results.{ok_then}
use Rattle.dep_transactions.proofs.Transacting.{left_still}
use Rattle.dep_store.proofs.store.Store.audit.Goals as goal

pub returns : goal.returns
returns g c =
    let first = c.self.inside.connection in
    let last = c.audit_files.new.connection in
    let old = state g.S.Store first in
    let new = state g.S.Store last in
    let result = c.audit_files.result in
    let reads = c.audit_files.ensures.reads in
    let clean_now = clean_if_open (g.S.Store.view last.store) (g.met.S.Store.shut_if_dirty last.store) in
    let does : ReportsTables old new (λ t. IsAudited t c.args.object) result = record {
      ok = λ clean t at. ok_reported old new result (λ t. IsAudited t c.args.object) t at (reads.same clean) (c.audit_files.ensures.audits clean at.ours);
      still = λ is_open t at. tables_kept old new t at is_open (reads.stays.kept (clean_now is_open));
      honest = reads.stays.honest;
      was_open = λ is_open. reads.stays.was_open (clean_now is_open) is_open;
      stop = λ clean t at. left_still old new t (λ trees h. g.met.S.Store.settled first.store trees at.is_open h) at reads.stays.survives clean;
    } in
    let shut : StoreFailsIfShut old new result = record {
      opened = λ clean. ok_then result (reads.same clean) (λ same. same.0.was_open);
      left = leaves_no_more old new reads.stays.survives;
    } in
    record { does = rw c.self.view_is at does; shut = rw c.self.view_is at shut }

pub invariant_of-self : goal.invariant_of-self
invariant_of-self g c = forgotten (state g.S.Store c.audit_files.new.connection)
