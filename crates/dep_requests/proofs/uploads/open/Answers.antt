use Rattle.std.proofs.Common.{refl, ap}
use Rattle.dep_types.specs.declared.counters.Counters.{Counters}
use Rattle.dep_tables.specs.Tables.{tables_of}
use Rattle.dep_tables.proofs.Results.{ok_then}
use Rattle.dep_decisions.specs.Effects.{fresh}
use Rattle.dep_requests.proofs.Staged.{opened_row, upload_at}
use Rattle.dep_requests.proofs.uploads.open.Goals as goal

pub returns : goal.returns
returns g c = record {
  map = record {
    done = λ clean inside ours s are reported.
        let view = c.args.change.now.view.now in
        let numbers = reported.0 in
        let it = fresh s c.args.opening.now in
        ok_then c.open_upload.result
        (c.open_upload.ensures.does.map clean inside ours s are it (opened_row s c.args.opening.now view.clock view.next.upload numbers.0) refl)
        (λ opened. upload_at (tables_of (g.T.Statements.state c.open_upload.new.tx)) s view.next.upload s.next.upload it (ap (λ (next : Counters). next.upload) numbers.1) opened);
    keeps = c.open_upload.ensures.does.keeps;
  };
}
