use Rattle.std.proofs.Common.{ℕ, Option, ap, sym, ◌∙◌}
use Rattle.std.specs.Prelude.{option_map}
use Rattle.std.specs.FinMap as finmap
use Rattle.dep_types.specs.Maps.{◌>>=◌}
use Rattle.dep_types.specs.Rows.{object_row}
use Rattle.dep_tables.proofs.Chains.{may_put, may_read}
use Rattle.dep_tables.proofs.Results.{if_then}
use Rattle.dep_views.proofs.touched.find_touched_object.Goals as goal

pub returns-in-Some : goal.returns-in-Some
returns-in-Some g c = record {
  map = record {
    found = λ clean inside ours s are.
        if_then c.find_object.result (c.find_object.ensures.does.map clean ours s are)
        (λ row is. is ∙ ap (λ (o : Option ℕ). o >>= (λ n. option_map (object_row n) (finmap.get s.objects n))) (sym c.in-Some.is));
    keeps = may_read c.find_object.ensures.does.keeps;
  };
}

pub returns-in-None : goal.returns-in-None
returns-in-None g c = record {
  map = record {
    found = λ clean inside ours s are. ap (λ (o : Option ℕ). o >>= (λ n. option_map (object_row n) (finmap.get s.objects n))) (sym c.in-None.is);
    keeps = may_put g.T.Statements.lenders g.T.Statements.state c.args.tx.now _;
  };
}
