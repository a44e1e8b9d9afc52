use Rattle.std.proofs.Common.{◌∙◌, ap}
use Rattle.dep_tables.proofs.Chains.{reads_ok}
use Rattle.dep_tables.specs.Edits.{page_size}
use Rattle.dep_tables.specs.Tables.{tables_of}
use Rattle.dep_row_maps.specs.TablesAre.{files_at}
use Rattle.dep_row_maps.proofs.ListedFiles.{files_page_read}
use Rattle.dep_files.specs.Ahead.{number_behind}
use Rattle.dep_files.proofs.AheadFiles.{more_first}
use Rattle.dep_files.proofs.ahead.with_page.Goals as goal

pub returns : goal.returns
returns g c = record {
  does = record {
    map = λ clean ours s are its.
        let n = c.args.object in
        let from = c.in_ok-from.from in
        let page = c.in_ok-page.page.items in
        let read = files_page_read (tables_of (g.T.Statements.state c.args.tx.now)) s are n from page (c.in_ok-page.ensures.does.ok clean ours) in
        record {
          rows =
              more_first n (files_at s.objects n) c.args.read.rows.items its.rows from page_size page c.in_ok-rows.rows.items (c.in_ok-from.ensures ∙ ap number_behind c.as_slice.ensures.value) read
              c.in_ok-rows.ensures;
          sha512s = its.sha512s;
        };
    keeps = reads_ok c.in_ok-page.ensures.does.keeps;
  };
}
