use Rattle.std.proofs.Common.{◌∙◌}
use Rattle.dep_types.specs.Rows.{sha512s_of}
use Rattle.dep_answers.specs.declared.read_set.Shown.TheVariants as shown
use Rattle.dep_tables.proofs.Chains.{reads_ok, reads_err}
use Rattle.dep_views.proofs.Shows.{listed_shown, shown_failed}
use Rattle.dep_views.proofs.shown.show_hashed.Goals as goal

pub returns : goal.returns
returns g c = record {
  does = record {
    map = record {
      found = λ clean inside ours s are sound told.
          let its = c.in_ok-hashed.ensures.does.found clean inside ours s are told.0 told.1 in
          (λ i. shown.Files (record { object = c.args.row; metadata = c.new.ensures i; files = c.in_ok-hashed.hashed.rows; sha512s = its.1 i }))
          ∙ listed_shown sha512s_of s c.args.row c.in_ok-hashed.hashed.rows told.0 its.0;
      keeps = reads_ok c.in_ok-hashed.ensures.does.keeps;
    };
  };
  files = c.in_ok-hashed.ensures.left;
}

pub returns-in_err-hashed : goal.returns-in_err-hashed
returns-in_err-hashed g c = record {
  does = shown_failed c.from_residual.ensures.0 (reads_err c.from_residual.ensures.0 c.in_err-hashed.ensures.does.keeps);
  files = c.in_err-hashed.ensures.left;
}
