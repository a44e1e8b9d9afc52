use Rattle.std.proofs.Common.{◌≡◌, List, Option, Some, None, IfOk, IfErr, inl, inr, [], refl, sym, ap, map, length, subst, arith}
use Rattle.std.specs.Option.{ok_or, option_to_list}
use Rattle.std.proofs.lemmas.Result.{IfOk-from_err}
use Rattle.std.proofs.lemmas.List.{length-map}
use Rattle.sqlite.specs.Order.{Row}
use Rattle.sqlite.specs.State.{State, Shown}
use Rattle.dep_types.specs.declared.store_fault.StoreFault.TheVariants.{Store}
use Rattle.dep_tables.specs.Rowids.{columns_from}
use Rattle.dep_tables.proofs.Chains.{plain_reads, reads_ok, reads_err}
use Rattle.dep_tables.specs.Texts.{read_state_text}
use Rattle.dep_tables.specs.Tables.{IsOurs, tables_of}
use Rattle.dep_tables.specs.Edits.{HasStateRow}
use Rattle.dep_tables.proofs.Leading.{plain_here}
use Rattle.dep_tables.specs.Rows.{IsStateRow, state_values}
use Rattle.dep_tables.specs.Clauses.{FailsToReadNumbers, JustOne}
use Rattle.dep_tables.specs.declared.state.StateRow.{StateRow}
use Rattle.dep_tables.proofs.Results.{err_then}
use Rattle.dep_tables.proofs.Refused.{refused_one}
use Rattle.dep_tables.proofs.StateTable.{reads_state, read_is}
use Rattle.dep_tables.proofs.state.read_state.Goals as goal

none_shown : (rows : List Row) → [] ≡ map (columns_from 0 5) rows → length rows ≡ 1 → ⊥
none_shown rows none one = omega (arith, simp length-map at (ap length none))

-- the rows that were shown are what was read
abbrev IsRead : State → State → Option StateRow → Type 0
IsRead old new found = (rows : List Row) × Shown read_state_text [] old new rows × (map state_values (option_to_list found) ≡ map (columns_from 0 5) rows)

is_there : (old new : State) (found : Option StateRow) → IsOurs old → IsRead old new found → IfOk (ok_or found Store) (HasStateRow (tables_of old))
is_there old new None ours read = tt
is_there old new (Some row) ours read = reads_state old new row ours read

is_missing : (old new : State) (found : Option StateRow) → IsRead old new found → IfErr (ok_or found Store) (FailsToReadNumbers (JustOne IsStateRow) read_state_text [] old new)
is_missing old new None (rows, shown, none) = inr (rows, shown, inl (λ ours. none_shown rows none ours.1, refl))
is_missing old new (Some row) read = tt

pub returns : goal.returns
returns g c =
    let old = g.T.Statements.state c.args.tx.now in
    let new = g.T.Statements.state c.ask_one.new.tx in
    record {
      does = record {
        ok = λ clean ours. rw c.ok_or.ensures.value (is_there old new c.in_ok-found.found ours (c.in_ok-found.ensures.shown clean));
        numbers = λ refused. absurd (refused tt);
        cause = λ _ clean. rw c.ok_or.ensures.value (is_missing old new c.in_ok-found.found (c.in_ok-found.ensures.shown clean));
        keeps = reads_ok (plain_reads c.in_ok-found.ensures.keeps (λ ours. plain_here old read_state_text ours read_is.plain));
      };
    }

pub returns-in_err-found : goal.returns-in_err-found
returns-in_err-found g c =
    let old = g.T.Statements.state c.args.tx.now in
    let new = g.T.Statements.state c.ask_one.new.tx in
    record {
      does = record {
        ok = λ clean ours. IfOk-from_err c.from_residual.result _ c.from_residual.ensures.0;
        numbers = λ refused. absurd (refused tt);
        cause = λ _ clean.
            let failed = refused_one IsStateRow read_state_text [] old new c.in_err-found.field-0.0 (c.in_err-found.ensures.cause clean) in
            err_then c.from_residual.result c.from_residual.ensures.1 (λ e is. let same : e ≡ c.in_err-found.field-0.0 = cc in subst (FailsToReadNumbers (JustOne IsStateRow) read_state_text [] old new) (sym same) failed);
        keeps = reads_err c.from_residual.ensures.0 (plain_reads c.in_err-found.ensures.keeps (λ ours. plain_here old read_state_text ours read_is.plain));
      };
    }
