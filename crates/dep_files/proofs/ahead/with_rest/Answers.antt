use Rattle.std.proofs.Common.{◌∙◌, ap}
use Rattle.dep_tables.proofs.Chains.{reads_ok}
use Rattle.dep_tables.specs.Tables.{tables_of}
use Rattle.dep_row_maps.specs.TablesAre.{files_at}
use Rattle.dep_row_maps.proofs.ListedFiles.{files_read}
use Rattle.dep_files.specs.Ahead.{number_behind}
use Rattle.dep_files.proofs.AheadFiles.{rest_all}
use Rattle.dep_files.proofs.ahead.with_rest.Goals as goal

pub returns : goal.returns
returns g c = record {
  does = record {
    map = λ clean ours s are first.
        let n = c.args.object in
        let rest = files_read (tables_of (g.T.Statements.state c.args.tx.now)) s are n c.in_ok-from.from c.in_ok-rest.rest.items (c.in_ok-rest.ensures.does.ok clean ours) in
        rest_all n (files_at s.objects n) c.args.rows.items first c.in_ok-from.from c.in_ok-rest.rest.items c.in_ok-joined.field-0.items
        (c.in_ok-from.ensures ∙ ap number_behind c.as_slice.ensures.value) rest c.in_ok-joined.ensures;
    keeps = reads_ok c.in_ok-rest.ensures.does.keeps;
  };
}
