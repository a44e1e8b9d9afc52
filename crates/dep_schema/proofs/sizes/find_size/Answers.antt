use Rattle.std.proofs.Common.{ℕ, inl, inr, ap, subst, map, ◌∙◌}
use Rattle.dep_tables.specs.Rowids.{columns_from}
use Rattle.sqlite.specs.Held.{state}
use Rattle.dep_tables.specs.Clauses.{AtMostOne, IsFaultAt}
use Rattle.dep_schema.specs.Sizes.{IsSizeRow, find_size_text}
use Rattle.dep_tables.proofs.Results.{if_then, if_err}
use Rattle.sqlite.specs.State.{State}
use Rattle.dep_types.specs.declared.store_fault.StoreFault.{StoreFault}
use Rattle.dep_schema.specs.Causes.{FailsToAskFor, FailsToFindSize}
use Rattle.dep_schema.specs.Causes.FailsToFindSize.{no_number, not_reported}
use Rattle.dep_schema.proofs.SizeFound.{finds_size}
use Rattle.dep_schema.proofs.Queries.{size_reads}
use Rattle.dep_schema.proofs.Reported.{passed_on}
use Rattle.dep_schema.proofs.Stills.{over_err, over_ok}
use Rattle.dep_schema.proofs.sizes.find_size.Goals as goal

not_asked : (old new : State) (n : ℕ) (fault : StoreFault) → FailsToAskFor find_size_text n old new fault → FailsToFindSize n old new fault
not_asked old new n fault (inl none) = no_number none.0 none.1
not_asked old new n fault (inr failed) = not_reported (inl failed)

pub ask-requires : goal.ask-requires
ask-requires g c = size_reads

pub returns : goal.returns
returns g c =
    let old = state g.S.Store c.args.connection.now in
    let new = state g.S.Store c.ask.new.connection in
    let reported = c.in_ok-rows.ensures in
    record {
      ok = λ clean ours. if_then c.only.result c.only.ensures.reported
          (λ found read. finds_size old new c.args.file found _ ours (reported.shows clean) (read ∙ ap (map (columns_from 0 2)) c.as_slice.ensures.value));
      cause = λ clean ours. if_err c.only.result c.only.ensures.refused
          (λ fault it. not_reported (inr (_, reported.shows clean, subst (λ rows. IsFaultAt ⊥ (AtMostOne IsSizeRow) rows fault) c.as_slice.ensures.value it)));
      reads = over_ok reported.reads;
    }

pub returns-in_err-rows : goal.returns-in_err-rows
returns-in_err-rows g c =
    let reported = c.in_err-rows.ensures in
    let passed = passed_on c.from_residual.result c.in_err-rows.field-0.0 c.from_residual.ensures.1 in
    rw passed record { ok = λ clean ours. tt; cause = λ clean ours. not_asked _ _ c.args.file c.in_err-rows.field-0.0 (reported.cause clean); reads = over_err reported.reads }
