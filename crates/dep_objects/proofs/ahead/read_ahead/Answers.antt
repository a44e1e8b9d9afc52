use Rattle.std.proofs.Common.{◌∙◌, IfSome, subst, sym}
use Rattle.dep_tables.proofs.Chains.{clean_before, reads_ok, reads_then, still_ours}
use Rattle.dep_tables.specs.Tables.{Tables}
use Rattle.dep_row_maps.specs.TablesAre.{TablesAre}
use Rattle.dep_files.specs.Held.{IsReadPart}
use Rattle.dep_files.proofs.Results.{same_tables}
use Rattle.dep_objects.specs.Ahead.{AreTextsSoFar}
use Rattle.dep_objects.proofs.AheadTexts.{held_texts}
use Rattle.dep_objects.proofs.Puts.{has_row}
use Rattle.dep_objects.proofs.ahead.read_ahead.Goals as goal

pub returns : goal.returns
returns g c =
    let old = g.T.Statements.state c.args.tx.now in
    let mid = g.T.Statements.state c.find_object.new.tx in
    let row = c.in-Some.row in
    let one = c.in_ok-row.ensures.does in
    let two = c.in_ok-read.ensures.does in
    record {
      does = record {
        map = λ clean ours s are sound ahead.
            let before = clean_before two.keeps.stays clean in
            let same = one.keeps.same before ours in
            let has = has_row s c.args.object row (sym c.in-Some.is ∙ one.map before ours s are) in
            let more = two.map clean (still_ours old mid same ours) s (subst (λ (t : Tables). TablesAre t s) (sym (same_tables old mid same)) are) c.if-read.false (c.in-Some-take_on.ensures.taken s ahead has) in
            subst (λ x. IfSome x (IsReadPart (λ n o read. AreTextsSoFar n o.metadata read) s)) (sym c.put-2.ensures) (held_texts s row has c.in_ok-read.read sound more);
        keeps = reads_ok (reads_then one.keeps two.keeps);
      };
    }
