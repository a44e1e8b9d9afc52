use Rattle.std.proofs.Common.{◌<◌, length, map, Ok, ap, arith, subst, sym, ◌∙◌}
use Rattle.std.proofs.lemmas.List.{take_all}
use Rattle.sqlite.specs.Effect.{Database}
use Rattle.dep_types.specs.MetadataEntries.{joined, name_and_texts}
use Rattle.dep_tables.proofs.Chains.{clean_before, stays_ok, stays_put, stays_then, still_ours}
use Rattle.dep_tables.specs.Tables.{Tables, tables_in, tables_of}
use Rattle.dep_row_maps.specs.TablesAre.{TablesAre, with_metadata, with_object}
use Rattle.dep_row_maps.proofs.Calling.{changes_failed}
use Rattle.dep_objects.proofs.Appending.{appended, none_appended, one_more_appended}
use Rattle.dep_objects.proofs.metadata.append_metadata.Goals as goal

pub entries-init : goal.entries-init
entries-init g c = (
  stays_put g.T.Statements.lenders g.T.Statements.state c.args.tx.now (Ok tt),
  λ clean inside ours. (
    ours,
    λ s are o there. none_appended (tables_of (g.T.Statements.state c.args.tx.now)) s c.args.object o c.entries-entry-items.result.now are there,
  ),
)

pub entries-preserved : goal.entries-preserved
entries-preserved g c =
    let mid = g.T.Statements.state c.entries.tx in
    let counted = g.T.Statements.state c.count_of.new.tx in
    let new = g.T.Statements.state c.put_texts.new.tx in
    let all = c.entries-entry-items.result.now in
    let i = c.entries.entry-index in
    let inv = c.entries.invariant in
    let count = c.in_ok-start.ensures.does in
    let put = c.in_ok-put_texts.ensures.does in
    let within : i < length all = omega (arith, c.entries-test.true) in (
      stays_ok (stays_then {r = Ok tt} inv.0 (stays_then {r = Ok tt} count.keeps.stays put.stays)),
      λ clean inside ours.
          let clean_counted = clean_before put.stays clean in
          let clean_mid = clean_before count.keeps.stays clean_counted in
          let was = inv.1 clean_mid inside ours in
          let same = count.keeps.same clean_counted was.0 in
          let still = still_ours mid counted same was.0 in
          let sees = put.ok clean (count.keeps.stays.inside clean_counted (inv.0.inside clean_mid inside)) still in (
            sees.ours,
            λ s are o there.
                let next = with_object s c.args.object (appended all i o) in
                let are_mid = was.1 s are o there in
                let are_counted = subst (λ (t : Tables). TablesAre t next) (sym (ap (λ (db : Database). tables_in db.trees) same.0.now_is)) are_mid in
                one_more_appended (tables_of counted) (tables_of new) s c.args.object o all i c.entry-item.result within c.entry-item.is are_counted still.trees.ordered.1.1.1.0 c.in_ok-start.start
                (count.map clean_counted was.0 next are_mid) sees.rows,
          ),
    )

pub returns : goal.returns
returns g c =
    let inv = c.entries.invariant in
    let all = c.entries-entry-items.result.now in
    record {
      does = record {
        map = λ clean inside ours s are o there.
            let entries = ap (map name_and_texts) (take_all c.entries.entry-index all c.entries-test.false) ∙ c.entries-entry-items.ensures in
            subst (λ es. TablesAre (tables_of (g.T.Statements.state c.entries.tx)) (with_object s c.args.object (with_metadata o (joined es o.metadata)))) entries ((inv.1 clean inside ours).1 s are o there);
        keeps = record { stays = stays_ok inv.0; ours = λ clean inside ours. (inv.1 clean inside ours).0 };
      };
    }

pub returns-in_err-start : goal.returns-in_err-start
returns-in_err-start g c = record {
  does =
      changes_failed c.from_residual.ensures.1 (λ s o there. tt)
      (stays_then c.entries.invariant.0 c.in_err-start.ensures.does.keeps.stays);
}

pub returns-in_err-put_texts : goal.returns-in_err-put_texts
returns-in_err-put_texts g c = record {
  does =
      changes_failed c.from_residual-in_err-put_texts.ensures.1 (λ s o there. tt)
      (stays_then c.entries.invariant.0 (stays_then c.in_ok-start.ensures.does.keeps.stays c.in_err-put_texts.ensures.does.stays));
}
