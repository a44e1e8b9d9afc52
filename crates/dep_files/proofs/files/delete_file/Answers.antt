use Rattle.dep_tables.specs.Tables.{tables_of}
use Rattle.dep_tables.proofs.Results.{ok_then}
use Rattle.dep_tables.proofs.Chains.{stays_then}
use Rattle.dep_files.proofs.FileCalls.{file_gone, file_absent}
use Rattle.dep_row_maps.proofs.Changing.{tables_after, tables_by, tables_kept}
use Rattle.dep_row_maps.proofs.Calling.{changes_failed}
use Rattle.dep_files.proofs.files.delete_file.Goals as goal

pub returns-clause-does : goal.returns-clause-does
returns-clause-does g c =
    let all = tables_after (tables_after c.in_ok-delete_blocks.ensures.does (tables_by c.in_ok-delete_sha512.ensures.does)) (tables_by c.delete_file.ensures.does) in
    record {
      map = λ clean inside ours s are n o it there has.
          ok_then c.delete_file.result (all.ok clean inside ours)
          (λ seen. file_gone (tables_of (g.T.Statements.state c.args.tx.now)) (tables_of (g.T.Statements.state c.delete_file.new.tx)) s c.args.file are ours.trees.ordered.1.1.1.1.0 seen.rows n o it there has);
      keeps = tables_kept all;
    }

pub returns-clause-absent : goal.returns-clause-absent
returns-clause-absent g c clean inside ours s are none =
    let all = tables_after (tables_after c.in_ok-delete_blocks.ensures.does (tables_by c.in_ok-delete_sha512.ensures.does)) (tables_by c.delete_file.ensures.does) in
    ok_then c.delete_file.result (all.ok clean inside ours)
    (λ seen. file_absent (tables_of (g.T.Statements.state c.args.tx.now)) (tables_of (g.T.Statements.state c.delete_file.new.tx)) s c.args.file are ours.trees.ordered.1.1.1.1.0 seen.rows none)

pub returns-in_err-delete_sha512-clause-does : goal.returns-in_err-delete_sha512-clause-does
returns-in_err-delete_sha512-clause-does g c =
    changes_failed c.from_residual-in_err-delete_sha512.ensures.1 (λ s n o it there has. tt)
    (stays_then c.in_ok-delete_blocks.ensures.does.stays c.in_err-delete_sha512.ensures.does.keeps.stays)

pub returns-in_err-delete_blocks-clause-does : goal.returns-in_err-delete_blocks-clause-does
returns-in_err-delete_blocks-clause-does g c =
    changes_failed c.from_residual.ensures.1 (λ s n o it there has. tt)
    c.in_err-delete_blocks.ensures.does.stays
