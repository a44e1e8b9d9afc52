use Rattle.std.proofs.Common.{OnOk, subst}
use Rattle.dep_types.specs.State.{Texts}
use Rattle.dep_row_maps.specs.Clauses.{SeesState}
use Rattle.dep_row_maps.specs.TablesAre.{with_metadata, with_object}
use Rattle.dep_requests.proofs.deposits.clear_metadata.Goals as goal

pub returns : goal.returns
returns g c = record {
  map = record {
    done = λ o clean inside ours s are there. subst (λ (texts : Texts). OnOk c.set_metadata-2.result (SeesState (g.T.Statements.state c.set_metadata-2.new.tx) (with_object s c.args.object (with_metadata o texts)))) c.new.ensures
        (c.set_metadata-2.ensures.does.map clean inside ours s are o there);
    keeps = c.set_metadata-2.ensures.does.keeps;
  };
}
