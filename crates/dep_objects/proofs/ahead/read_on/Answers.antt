use Rattle.dep_tables.proofs.Chains.{reads_ok}
use Rattle.dep_tables.proofs.Results.{if_then}
use Rattle.dep_row_maps.specs.TablesAre.{metadata_at}
use Rattle.dep_objects.proofs.ahead.read_on.Goals as goal

pub returns : goal.returns
returns g c = record {
  does = record {
    map = λ clean ours s are part is.
        let n = c.args.object in
        if_then c.with_page.result c.with_page.ensures (λ now reads. reads n (metadata_at s.objects n) part is (c.in_ok-page.ensures.does.map clean ours s are));
    keeps = reads_ok c.in_ok-page.ensures.does.keeps;
  };
}
