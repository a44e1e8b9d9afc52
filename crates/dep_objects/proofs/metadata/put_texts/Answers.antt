use Rattle.std.specs.Prelude.{⊤}
use Rattle.std.proofs.Common.{◌<◌, ◌≡◌, ◌+◌, length, take, get_or, ap, ◌∙◌, Ok, Err, arith, refl}
use Rattle.std.proofs.lemmas.List.{take_all}
use Rattle.dep_tables.specs.Rowids.{put_next}
use Rattle.dep_tables.proofs.Chains.{clean_before, stays_err, stays_ok, stays_then}
use Rattle.dep_tables.specs.Rows.{metadata_values}
use Rattle.dep_tables.specs.Tables.{tables_of}
use Rattle.dep_objects.proofs.Appending.{one_more_text}
use Rattle.dep_types.specs.declared.store_fault.StoreFault.TheVariants.{Memory}
use Rattle.dep_row_maps.proofs.Calling.{tables_failed}
use Rattle.dep_objects.proofs.metadata.put_texts.Goals as goal

pub texts-preserved : goal.texts-preserved
texts-preserved g c =
    let old = g.T.Statements.state c.args.tx.now in
    let mid = g.T.Statements.state c.texts.tx in
    let new = g.T.Statements.state c.insert_metadata-inserted.new.tx in
    let inv = c.texts.invariant in
    let within : c.texts.text-index < length c.args.entry.now.texts = omega (arith, ap length inv.3, c.texts-test.true) in
    let next_place : c.texts.place + 1 ≡ c.args.start + (c.texts.text-index + 1) = omega (arith, inv.2) in (
      stays_ok (stays_then {r = Ok tt} inv.0 c.in_ok-inserted.ensures.does.keeps.stays),
      λ clean inside ours.
          let before = clean_before c.insert_metadata-inserted.ensures.does.keeps.stays clean in
          let was = inv.1 before inside ours in
          let leads = c.in_ok-inserted.ensures.does.ok clean (inv.0.inside before inside) was.ours in
          record {
            ours = leads.ours;
            rows = one_more_text (tables_of old) (tables_of mid) (tables_of new) c.args.object c.args.entry.now.name c.args.start c.texts.place c.args.entry.now.texts c.texts.text-index c.text-item.result within
                (c.text-item.is ∙ ap (λ xs. get_or xs c.texts.text-index c.text-item.result) inv.3) inv.2 was.rows
                (leads.rows ∙ ap (λ row. record (tables_of mid) { metadata = put_next (metadata_values row) (tables_of mid).metadata }) c.in_ok-row.ensures);
          },
      next_place,
      inv.3,
    )

pub returns-in_err-inserted : goal.returns-in_err-inserted
returns-in_err-inserted g c = record {
  does =
      let inv = c.texts.invariant in
      tables_failed c.from_residual-in_err-inserted.ensures.1
      (stays_then inv.0 c.in_err-inserted.ensures.does.keeps.stays);
}

pub returns : goal.returns
returns g c = record {
  does = record {
    ok =
        let texts = c.args.entry.now.texts in
        let whole : take c.texts.text-index texts ≡ texts = take_all c.texts.text-index texts (omega (arith, ap length c.texts.invariant.3, c.texts-test.false)) in
        rw whole at c.texts.invariant.1;
    stays = stays_ok c.texts.invariant.0;
  };
}

pub returns-in_err-row : goal.returns-in_err-row
returns-in_err-row g c = record {
  does =
      let inv = c.texts.invariant in
      tables_failed {B = ⊤} c.from_residual.ensures.1
      (stays_err {s = Err Memory} refl inv.0);
}
