use Rattle.std.specs.FinMap as finmap
use Rattle.dep_answers.specs.declared.read_set.Shown.TheVariants as shown
use Rattle.dep_objects.specs.Objects.{described_object}
use Rattle.dep_objects.specs.declared.objects.DescribedObject.{DescribedObject}
use Rattle.dep_tables.proofs.Chains.{reads_err, reads_ok}
use Rattle.dep_views.proofs.Shows.{may_shown, shown_at_once, shown_failed, some_shown}
use Rattle.dep_views.proofs.shown.show_texts.Goals as goal

pub returns-in-Some : goal.returns-in-Some
returns-in-Some g c = record {
  does = shown_at_once _ (λ s sound told.
      some_shown (described_object c.args.row.object) (λ (d : DescribedObject). shown.Metadata d.row d.metadata) shown.Nothing (finmap.get s.objects c.args.row.object) (record { row = c.args.row; metadata = c.in-Some.metadata })
      (c.in-Some.ensures.taken s sound told.1.texts told.0));
  rows = λ s are. record { texts = c.take.ensures.left s are.texts; files = are.files };
}

pub returns : goal.returns
returns g c = record {
  does = may_shown (record {
    map = record {
      found = λ clean inside ours s are sound told.
          let n = c.args.row.object in
          some_shown (described_object n) (λ (d : DescribedObject). shown.Metadata d.row d.metadata) shown.Nothing (finmap.get s.objects n) c.in_ok-described.described
          (c.in_ok-described.ensures.does.found clean inside ours s are sound told.0);
      keeps = reads_ok c.in_ok-described.ensures.does.keeps;
    };
  });
  rows = λ s are. record { texts = c.take.ensures.left s are.texts; files = are.files };
}

pub returns-in_err-described : goal.returns-in_err-described
returns-in_err-described g c = record {
  does = may_shown (shown_failed c.from_residual.ensures.0 (reads_err c.from_residual.ensures.0 c.in_err-described.ensures.does.keeps));
  rows = λ s are. record { texts = c.take.ensures.left s are.texts; files = are.files };
}
