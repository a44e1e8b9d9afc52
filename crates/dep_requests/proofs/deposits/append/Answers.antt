use Rattle.std.proofs.Common.{List, refl, ap, sym, subst, ◌∙◌}
use Rattle.std.specs.FinMap as finmap
use Rattle.dep_types.specs.State.{Object}
use Rattle.dep_types.specs.MetadataEntries.{joined}
use Rattle.dep_tables.proofs.Chains.{stays_put}
use Rattle.dep_tables.proofs.Results.{ok_then}
use Rattle.dep_tables.specs.Tables.{tables_of}
use Rattle.dep_row_maps.specs.TablesAre.{with_object}
use Rattle.dep_row_maps.proofs.Changing.{changes_then, does_failed, inside_after}
use Rattle.dep_row_maps.proofs.Lens.{get_here}
use Rattle.dep_decisions.specs.Effects.{with_other_files, with_other_texts}
use Rattle.dep_decisions.specs.declared.decision.Deposit.TheVariants.{Files}
use Rattle.dep_decisions.specs.declared.decision.NewFile.{NewFile}
use Rattle.dep_requests.specs.Clauses.{Appends}
use Rattle.dep_requests.proofs.Added.{new_files_again}
use Rattle.dep_requests.proofs.Appended.{append_carried, row_put}
use Rattle.dep_requests.proofs.Steps.{written_again}
use Rattle.dep_requests.proofs.deposits.append.Goals as goal

pub returns-in-Files : goal.returns-in-Files
returns-in-Files g c = record {
  map = λ n.
      let change = c.args.numbered.now.change.now in
      let row = c.ingested_by-row.result in
      let files = c.as_slice-files.result.now in
      append_carried g.T.Statements.state c.args.tx.now c.put_new_files.new.tx c.put_new_files.result change c.args.numbered.now.deposit.now c.args.ingests c.in_ok-touched_object.field-0 row c.in_ok-touched_object.ensures.reported c.ingested_by-row.ensures n
      (subst (Appends g.T.Statements.lenders g.T.Statements.state c.args.tx.now c.put_new_files.new.tx c.put_new_files.result change row) (ap (λ (new : List NewFile). Files new) c.as_slice-files.ensures ∙ sym c.in-Files.is)
      (record {
        done = λ it clean inside ours s are reported.
            let before = inside_after c.in_ok-put_object.ensures.does.keeps c.put_new_files.ensures.map.keeps.stays clean inside ours in
            let mark : Object = with_other_files s it.files it in
            let put = row_put (tables_of (g.T.Statements.state c.put_object.new.tx)) s change.view.now change.content.now row c.added_to.result c.args.numbered.now.deposit.now c.added_to.ensures _ c.in-Files.is it mark reported.1 reported.0.0 refl refl refl
            (c.in_ok-put_object.ensures.does.map before.clean inside ours s are mark) in
            ok_then c.put_new_files.result
            (c.put_new_files.ensures.map.done mark clean before.inside before.ours (with_object s row.object mark) put (reported.0, get_here s.objects row.object mark))
            (λ added. new_files_again (tables_of (g.T.Statements.state c.put_new_files.new.tx)) s change.content.now row.object row.object mark mark files refl added);
        keeps = changes_then c.in_ok-put_object.ensures.does.keeps c.put_new_files.ensures.map.keeps;
      }));
}

pub returns-in-Metadata : goal.returns-in-Metadata
returns-in-Metadata g c = record {
  map = λ n.
      let change = c.args.numbered.now.change.now in
      let row = c.ingested_by-row.result in
      let texts = c.in-Metadata.metadata in
      append_carried g.T.Statements.state c.args.tx.now c.append_metadata.new.tx c.append_metadata.result change c.args.numbered.now.deposit.now c.args.ingests c.in_ok-touched_object.field-0 row c.in_ok-touched_object.ensures.reported c.ingested_by-row.ensures n
      (subst (Appends g.T.Statements.lenders g.T.Statements.state c.args.tx.now c.append_metadata.new.tx c.append_metadata.result change row) (sym c.in-Metadata.is)
      (record {
        done = λ it clean inside ours s are reported.
            let before = inside_after c.in_ok-put_object.ensures.does.keeps c.append_metadata.ensures.does.keeps.stays clean inside ours in
            let mark : Object = with_other_texts s it.metadata it in
            let put = row_put (tables_of (g.T.Statements.state c.put_object.new.tx)) s change.view.now change.content.now row c.added_to.result c.args.numbered.now.deposit.now c.added_to.ensures _ c.in-Metadata.is it mark reported.1 reported.0.0 refl refl refl
            (c.in_ok-put_object.ensures.does.map before.clean inside ours s are mark) in
            ok_then c.append_metadata.result
            (c.append_metadata.ensures.does.map clean before.inside before.ours (with_object s row.object mark) put mark (get_here s.objects row.object mark))
            (λ added. written_again (tables_of (g.T.Statements.state c.append_metadata.new.tx)) s row.object mark (with_other_texts s (joined (finmap.entries texts) it.metadata) it) added);
        keeps = changes_then c.in_ok-put_object.ensures.does.keeps c.append_metadata.ensures.does.keeps;
      }));
}

pub returns-in_err-touched_object : goal.returns-in_err-touched_object
returns-in_err-touched_object g c = record { map = λ n. does_failed _ c.from_residual.ensures.0 (stays_put g.T.Statements.lenders g.T.Statements.state c.args.tx.now c.from_residual.result) }

pub returns-in_err-put_object : goal.returns-in_err-put_object
returns-in_err-put_object g c = record { map = λ n. does_failed _ c.from_residual-in_err-put_object.ensures.0 c.in_err-put_object.ensures.does.keeps.stays }
