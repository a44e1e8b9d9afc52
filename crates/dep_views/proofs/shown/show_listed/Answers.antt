use Rattle.std.proofs.Common.{[], ◌∙◌}
use Rattle.dep_answers.specs.declared.read_set.Shown.TheVariants as shown
use Rattle.dep_tables.proofs.Chains.{reads_ok, reads_err}
use Rattle.dep_views.proofs.Shows.{listed_shown, shown_failed}
use Rattle.dep_views.proofs.shown.show_listed.Goals as goal

pub returns : goal.returns
returns g c = record {
  does = record {
    map = record {
      found = λ clean inside ours s are sound told.
          (λ i. shown.Files (record { object = c.args.row; metadata = c.new.ensures i; files = c.in_ok-listed.listed; sha512s = c.empty.ensures i }))
          ∙ listed_shown (λ _. []) s c.args.row c.in_ok-listed.listed told.0 (c.in_ok-listed.ensures.does.map clean ours s are told.0 told.1);
      keeps = reads_ok c.in_ok-listed.ensures.does.keeps;
    };
  };
  files = c.in_ok-listed.ensures.left;
}

pub returns-in_err-listed : goal.returns-in_err-listed
returns-in_err-listed g c = record {
  does = shown_failed c.from_residual.ensures.0 (reads_err c.from_residual.ensures.0 c.in_err-listed.ensures.does.keeps);
  files = c.in_err-listed.ensures.left;
}
