use Rattle.std.proofs.Common.{ℕ, Option, ap, sym, ◌∙◌}
use Rattle.std.specs.Prelude.{option_and_then, option_map}
use Rattle.dep_types.specs.Rows.{file_row}
use Rattle.dep_types.specs.State.{file_at}
use Rattle.dep_tables.proofs.Chains.{may_put, may_read}
use Rattle.dep_tables.proofs.Results.{if_then}
use Rattle.dep_views.proofs.touched.find_file_at_path.Goals as goal

pub returns-in-Some : goal.returns-in-Some
returns-in-Some g c = record {
  map = record {
    found = λ clean inside ours s are.
        let n = c.args.object in
        if_then c.find_file.result (c.find_file.ensures.does.map clean ours s are)
        (λ row is. is ∙ ap (λ (o : Option ℕ). option_and_then (λ f. option_map (file_row n f) (file_at s n f)) o) (sym c.in-Some.is ∙ c.file_number.ensures.reported));
    keeps = may_read c.find_file.ensures.does.keeps;
  };
}

pub returns-in-None : goal.returns-in-None
returns-in-None g c = record {
  map = record {
    found = λ clean inside ours s are.
        let n = c.args.object in
        ap (λ (o : Option ℕ). option_and_then (λ f. option_map (file_row n f) (file_at s n f)) o) (sym c.in-None.is ∙ c.file_number.ensures.reported);
    keeps = may_put g.T.Statements.lenders g.T.Statements.state c.args.tx.now _;
  };
}
