use Rattle.std.proofs.Common.{sym, ◌∙◌}
use Rattle.std.specs.Prelude.{option_map}
use Rattle.dep_types.specs.Maps.{◌>>=◌}
use Rattle.dep_types.specs.Rows.{file_row}
use Rattle.dep_types.specs.State.{file_at}
use Rattle.dep_tables.proofs.Chains.{may_put, may_read}
use Rattle.dep_tables.proofs.Results.{if_then}
use Rattle.dep_views.proofs.touched.find_touched_file.Goals.{in_default-via-in-Some+in_default, in_default-via-in_default}
use Rattle.dep_views.proofs.touched.find_touched_file.Goals as goal

pub returns-in-Some-Some : goal.returns-in-Some-Some
returns-in-Some-Some g c = record {
  map = record {
    found = λ clean inside ours s are.
        let object = sym c.in-Some-Some.is-0 in
        let file = sym c.in-Some-Some.is-1 in
        if_then c.find_file.result (c.find_file.ensures.does.map clean ours s are)
        (λ row is. is ∙ (λ i. object i >>= (λ n. file i >>= (λ f. option_map (file_row n f) (file_at s n f)))));
    keeps = may_read c.find_file.ensures.does.keeps;
  };
}

pub returns-in_default : goal.returns-in_default
returns-in_default g c = record {
  map = record {
    found = λ clean inside ours s are.
        elim c.in_default.branch [
          | in_default-via-in-Some+in_default w ↦
              let object = sym w.in_default.is-0 in
              let file = sym w.in_default.is-1 in
              λ i. object i >>= (λ n. file i >>= (λ f. option_map (file_row n f) (file_at s n f)))
          | in_default-via-in_default w ↦
              let object = sym w.in_default.is-0 in
              λ i. object i >>= (λ n. c.args.touched.now.file >>= (λ f. option_map (file_row n f) (file_at s n f)))
        ];
    keeps = may_put g.T.Statements.lenders g.T.Statements.state c.args.tx.now _;
  };
}
