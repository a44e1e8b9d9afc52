use Rattle.std.proofs.Common.{◌≡◌, ◌+◌, List, length, slice_get, Some, Ok, refl, ap, subst, arith}
use Rattle.dep_types.specs.declared.counters.Counters.{Counters}
use Rattle.dep_row_maps.proofs.Lens.{get_here}
use Rattle.dep_tables.proofs.Chains.{clean_before, stays_ok, stays_put, stays_then}
use Rattle.dep_tables.specs.Tables.{tables_of}
use Rattle.dep_decisions.specs.declared.decision.NewFile.{NewFile}
use Rattle.dep_requests.proofs.Added.{with_new_files, state_before, object_before, its_source, one_more, none_yet}
use Rattle.std.proofs.lemmas.Option.{slice_get_read}
use Rattle.std.proofs.lemmas.List.{take_all}
use Rattle.dep_row_maps.specs.TablesAre.{TablesAre}
use Rattle.dep_row_maps.proofs.Changing.{each_failed}
use Rattle.dep_requests.proofs.new_files.put_new_files.Goals as goal

pub files-preserved : goal.files-preserved
files-preserved g c =
    let new = g.T.Statements.state c.put_new_file.new.tx in
    let inv = c.files.invariant in
    let clean_mid = clean_before c.put_new_file.ensures.map.keeps.stays in (
      stays_ok (stays_then {r = Ok tt} inv.0 c.in_ok-put_new_file.ensures.map.keeps.stays),
      λ clean inside ours. c.in_ok-put_new_file.ensures.map.keeps.ours clean (inv.0.inside (clean_mid clean) inside) (inv.1 (clean_mid clean) inside ours),
      λ clean inside ours s are o numbers there sources.
          let content = c.args.numbered.now.change.now.content.now in
          let seen = c.args.numbered.now.change.now.view.now.uploads in
          let files = c.args.numbered.now.files.now in
          let i = c.files.index in
          let x = c.index-files-index.result in
          let n = c.args.object in
          let at : slice_get files i ≡ Some x = slice_get_read files (length files) i x refl (omega arith) c.index-files-index.is in
          let so_far = inv.2 (clean_mid clean) inside ours s are o numbers there sources in
          one_more s content seen n o files i x at sources (tables_of new) (c.args.numbered.now.change.now.view.now.next.file + i) (ap (λ (k : Counters). k.file + i) numbers.1)
          (c.in_ok-put_new_file.ensures.map.done (object_before s content seen n o files i x at sources) clean (inv.0.inside (clean_mid clean) inside) (inv.1 (clean_mid clean) inside ours)
          (state_before s content seen n o files i x at sources) so_far ((numbers, its_source s content seen n o files i x at sources), get_here s.objects n _)),
    )

pub returns-in_err-put_new_file : goal.returns-in_err-put_new_file
returns-in_err-put_new_file g c = record { map = each_failed _ c.from_residual.ensures.0 (stays_then c.files.invariant.0 c.put_new_file.ensures.map.keeps.stays) }

pub files-init : goal.files-init
files-init g c = (
  stays_put g.T.Statements.lenders g.T.Statements.state c.args.tx.now _,
  λ clean inside ours. ours,
  λ clean inside ours s are o numbers there sources. none_yet (tables_of (g.T.Statements.state c.args.tx.now)) s c.args.numbered.now.change.now.content.now c.args.object o there are,
)

pub returns : goal.returns
returns g c = record {
  map = record {
    done = λ o clean inside ours s are reported.
        let now = g.T.Statements.state c.files.tx in
        subst (λ (new : List NewFile). TablesAre (tables_of now) (with_new_files s c.args.numbered.now.change.now.content.now c.args.object o new)) (take_all c.files.index c.args.numbered.now.files.now c.files-test.false)
        (c.files.invariant.2 clean inside ours s are o reported.0.0 reported.1 reported.0.1);
    keeps = record { stays = stays_ok c.files.invariant.0; ours = c.files.invariant.1 };
  };
}
