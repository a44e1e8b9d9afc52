use Rattle.dep_tables.specs.Tables.{tables_of}
use Rattle.dep_tables.proofs.Results.{ok_then}
use Rattle.dep_files.specs.Edits.{without_files}
use Rattle.dep_requests.proofs.Steps.{emptied, gone_after}
use Rattle.dep_row_maps.proofs.Changing.{changes_then, each_failed, inside_after}
use Rattle.dep_requests.proofs.objects.drop_object.Goals as goal

pub returns : goal.returns
returns g c = record {
  map = record {
    done = λ o clean inside ours s are there.
        let new = g.T.Statements.state c.delete_object.new.tx in
        let before = inside_after c.in_ok-delete_files.ensures.does.keeps c.delete_object.ensures.does.keeps.stays clean inside ours in
        let none = c.in_ok-delete_files.ensures.does.map before.clean inside ours s are o there in
        ok_then c.delete_object.result
        (c.delete_object.ensures.does.map clean before.inside before.ours (without_files s c.args.object o) none (emptied s c.args.object o))
        (λ gone. gone_after (tables_of new) s c.args.object _ gone);
    keeps = changes_then c.in_ok-delete_files.ensures.does.keeps c.delete_object.ensures.does.keeps;
  };
}

pub returns-in_err-delete_files : goal.returns-in_err-delete_files
returns-in_err-delete_files g c = record { map = each_failed _ c.from_residual.ensures.0 c.in_err-delete_files.ensures.does.keeps.stays }
