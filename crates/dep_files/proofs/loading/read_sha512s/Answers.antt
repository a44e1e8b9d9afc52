use Rattle.std.proofs.Common.{◌≡◌, ◌<◌, ◌∙◌, Ok, Some, ◌++◌, [], ◌∷◌, length, max, take, is_err, refl, sym, ap, subst, arith}
use Rattle.std.specs.List.{slice_get}
use Rattle.std.proofs.lemmas.Option.{slice_get_read}
use Rattle.dep_types.specs.Rows.{sha512s_of}
use Rattle.dep_types.specs.declared.rows.FileRow.{FileRow}
use Rattle.dep_tables.proofs.Chains.{may_ok, may_read, may_then}
use Rattle.dep_row_maps.specs.TablesAre.{files_at}
use Rattle.dep_files.proofs.Behind.{behind_any}
use Rattle.dep_files.proofs.FileValues.{IsValueOf, one_more_value}
use Rattle.dep_files.proofs.Results.{pushed}
use Rattle.dep_files.proofs.loading.read_sha512s.Goals as goal

pub loop-place-preserved : goal.loop-place-preserved
loop-place-preserved g c =
    let inv = c.loop-place.invariant in (
      may_ok (may_then {r = Ok c.in_ok-value.value} inv.0 (may_read c.in_ok-value.ensures.does.keeps)),
      λ is_open clean ours s are n first values.
          let mid = behind_any inv.0 c.load_sha512.ensures.does.keeps.stays is_open clean ours s are in
          let rows = c.args.rows.now in
          let place = c.loop-place.place in
          let before = c.loop-place.values.items in
          let value = c.in_ok-value.value in
          let row = c.index-rows-place.result in
          let within : place < length rows = omega (arith, c.requires, c.loop-place-test.true) in
          let at : slice_get rows place ≡ Some row = slice_get_read rows (length rows) place row refl within c.index-rows-place.is in
          let its = subst (λ (r : FileRow). IsValueOf s r value) (sym c.index-rows-place.is) (c.in_ok-value.ensures.does.map clean mid.ours s mid.are) in
          let grown = pushed c.push.result c.push.new.self.items (before ++ value ∷ []) before (ap is_err c.in_ok-push.was) c.push.ensures.items in
          one_more_value s n rows first place row value before c.push.new.self.items at its (inv.1 is_open mid.clean ours s are n first values) grown,
      omega (arith, c.loop-place-test.true),
    )

pub returns : goal.returns
returns g c = record {
  does = record {
    map = λ is_open clean ours s are n first values.
        let end : c.loop-place.place ≡ max c.args.end (length c.args.first.items) = omega (arith, c.loop-place.invariant.2, c.loop-place-test.false, c.loop-place.auto.place, c.len-place.ensures) in
        c.loop-place.invariant.1 is_open clean ours s are n first values ∙ ap (λ k. take k (sha512s_of (files_at s.objects n))) end;
    keeps = may_ok c.loop-place.invariant.0;
  };
}
