use Rattle.std.proofs.Common.{ℕ, inl, inr, ap, subst, map, ◌∙◌}
use Rattle.dep_tables.specs.Rowids.{columns_from}
use Rattle.sqlite.specs.Held.{state}
use Rattle.dep_tables.specs.Clauses.{AtMostOne, IsFaultAt}
use Rattle.dep_tables.specs.Rows.{IsNumberRow}
use Rattle.dep_tables.proofs.Results.{if_then, if_err}
use Rattle.sqlite.specs.State.{State}
use Rattle.dep_types.specs.declared.store_fault.StoreFault.{StoreFault}
use Rattle.dep_schema.specs.Causes.{FailsToAskFor, FailsToFindFile}
use Rattle.dep_schema.specs.Causes.FailsToFindFile.{no_number, not_reported}
use Rattle.dep_schema.specs.Sha512s.{next_file_text}
use Rattle.dep_schema.proofs.KnownTables.{nexts_file}
use Rattle.dep_schema.proofs.Queries.{files_read}
use Rattle.dep_schema.proofs.Reported.{passed_on}
use Rattle.dep_schema.proofs.Stills.{over_err, over_ok}
use Rattle.dep_schema.proofs.numbers.next_file.Goals as goal

not_asked : (old new : State) (n : ℕ) (fault : StoreFault) → FailsToAskFor next_file_text n old new fault → FailsToFindFile n old new fault
not_asked old new n fault (inl none) = no_number none.0 none.1
not_asked old new n fault (inr failed) = not_reported (inl failed)

pub ask-requires : goal.ask-requires
ask-requires g c = files_read

pub returns : goal.returns
returns g c =
    let old = state g.S.Store c.args.connection.now in
    let new = state g.S.Store c.ask.new.connection in
    let reported = c.in_ok-rows.ensures in
    record {
      ok = λ clean known. if_then c.only.result c.only.ensures.reported
          (λ found read. nexts_file old new c.args.after found _ known (reported.shows clean) (read ∙ ap (map (columns_from 0 1)) c.as_slice.ensures.value));
      cause = λ clean known. if_err c.only.result c.only.ensures.refused
          (λ fault it. not_reported (inr (_, reported.shows clean, subst (λ rows. IsFaultAt ⊥ (AtMostOne IsNumberRow) rows fault) c.as_slice.ensures.value it)));
      reads = over_ok reported.reads;
    }

pub returns-in_err-rows : goal.returns-in_err-rows
returns-in_err-rows g c =
    let reported = c.in_err-rows.ensures in
    let passed = passed_on c.from_residual.result c.in_err-rows.field-0.0 c.from_residual.ensures.1 in
    rw passed record { ok = λ clean known. tt; cause = λ clean known. not_asked _ _ c.args.after c.in_err-rows.field-0.0 (reported.cause clean); reads = over_err reported.reads }
