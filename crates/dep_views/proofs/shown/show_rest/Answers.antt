use Rattle.std.specs.FinMap as finmap
use Rattle.dep_types.specs.Rows.{object_view}
use Rattle.dep_types.specs.declared.rows.ObjectView.{ObjectView}
use Rattle.dep_answers.specs.declared.read_set.Shown.TheVariants as shown
use Rattle.dep_tables.proofs.Chains.{reads_err, reads_ok}
use Rattle.dep_views.proofs.Shows.{shown_failed, some_shown}
use Rattle.dep_views.proofs.shown.show_rest.Goals as goal

pub returns-in-Some : goal.returns-in-Some
returns-in-Some g c = record {
  does = record {
    map = record {
      found = λ clean inside ours s are sound told.
          let n = c.args.row.object in
          some_shown (object_view n) (λ (v : ObjectView). shown.Object v) shown.Nothing (finmap.get s.objects n) c.in_ok-view.view
          (c.in_ok-view.ensures.map.found clean inside ours s are sound told.1.files (c.in-Some.ensures.taken s sound told.1.texts told.0));
      keeps = reads_ok c.in_ok-view.ensures.map.keeps;
    };
  };
  rows = λ s are. record { texts = c.take.ensures.left s are.texts; files = c.in_ok-view.ensures.files s are.files };
}

pub returns : goal.returns
returns g c = record {
  does = record {
    map = record {
      found = λ clean inside ours s are sound told.
          let n = c.args.row.object in
          some_shown (object_view n) (λ (v : ObjectView). shown.Object v) shown.Nothing (finmap.get s.objects n) c.in_ok-view-2.view (c.in_ok-view-2.ensures.map.found clean inside ours s are sound told.1.files told.0);
      keeps = reads_ok c.in_ok-view-2.ensures.map.keeps;
    };
  };
  rows = λ s are. record { texts = c.take.ensures.left s are.texts; files = c.in_ok-view-2.ensures.files s are.files };
}

pub returns-in_err-view : goal.returns-in_err-view
returns-in_err-view g c = record {
  does = shown_failed c.from_residual.ensures.0 (reads_err c.from_residual.ensures.0 c.in_err-view.ensures.map.keeps);
  rows = λ s are. record { texts = c.take.ensures.left s are.texts; files = c.in_err-view.ensures.files s are.files };
}
