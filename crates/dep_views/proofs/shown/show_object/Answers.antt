use Rattle.std.proofs.Common.{refl}
use Rattle.dep_answers.specs.declared.read_set.ReadSet.TheVariants as read_set
use Rattle.dep_views.specs.Ahead.{AreRowsAhead}
use Rattle.dep_views.proofs.Shows.{by_files, may_shown, row_shown, shown_at_once, shown_by_row}
use Rattle.dep_views.proofs.shown.show_object.Goals as goal

pub returns-in-Object : goal.returns-in-Object
returns-in-Object g c = record {
  does = shown_by_row (λ n. read_set.Object n) c.in-Object.field-0 c.args.row (λ s. AreRowsAhead s c.args.rows.now) (λ s. refl) c.in-Object.is (may_shown c.show_rest.ensures.does);
  rows = c.show_rest.ensures.rows;
}

pub returns-in-Payload : goal.returns-in-Payload
returns-in-Payload g c = record {
  does = shown_by_row (λ n. read_set.Payload n) c.in-Payload.field-0 c.args.row (λ s. AreRowsAhead s c.args.rows.now) (λ s. refl) c.in-Payload.is (by_files (may_shown c.show_hashed.ensures.does));
  rows = λ s are. record { texts = are.texts; files = c.show_hashed.ensures.files s are.files };
}

pub returns-in-Files : goal.returns-in-Files
returns-in-Files g c = record {
  does = shown_by_row (λ n. read_set.Files n) c.in-Files.field-0 c.args.row (λ s. AreRowsAhead s c.args.rows.now) (λ s. refl) c.in-Files.is (by_files (may_shown c.show_listed.ensures.does));
  rows = λ s are. record { texts = are.texts; files = c.show_listed.ensures.files s are.files };
}

pub returns-in-Metadata : goal.returns-in-Metadata
returns-in-Metadata g c = record {
  does = shown_by_row (λ n. read_set.Metadata n) c.in-Metadata.field-0 c.args.row (λ s. AreRowsAhead s c.args.rows.now) (λ s. refl) c.in-Metadata.is c.show_texts.ensures.does;
  rows = c.show_texts.ensures.rows;
}

pub returns-in_default : goal.returns-in_default
returns-in_default g c = record {
  does = shown_at_once _ (λ s sound reported. row_shown s c.args.read_set.now c.args.row c.in_default.not-Object c.in_default.not-Payload c.in_default.not-Files c.in_default.not-Metadata reported.0);
  rows = λ s are. are;
}
