use Rattle.std.proofs.Common.{◌+◌, ap, sym, ◌∙◌}
use Rattle.std.specs.Option.{option_map_or}
use Rattle.dep_tables.specs.Tables.{tables_of}
use Rattle.dep_row_maps.proofs.Calling.{queried_ok, reads_failed}
use Rattle.dep_row_maps.proofs.PickedTexts.{last_text_read}
use Rattle.dep_objects.proofs.metadata.count_of.Goals as goal

pub returns : goal.returns
returns g c = record {
  does = queried_ok c.in_ok-place.ensures.does (λ clean ours s are.
      ap (λ found. option_map_or (λ place. place + 1) found 0) (sym c.in-Some.is)
      ∙ last_text_read (tables_of (g.T.Statements.state c.args.tx.now)) s are c.args.object c.args.name.now c.in_ok-place.field-0 (c.in_ok-place.ensures.does.ok clean ours));
}

pub returns-in_default : goal.returns-in_default
returns-in_default g c = record {
  does = queried_ok c.in_ok-place.ensures.does (λ clean ours s are.
      ap (λ found. option_map_or (λ place. place + 1) found 0) (sym c.in_default.is)
      ∙ last_text_read (tables_of (g.T.Statements.state c.args.tx.now)) s are c.args.object c.args.name.now c.in_ok-place.field-0 (c.in_ok-place.ensures.does.ok clean ours));
}

pub returns-in_err-place : goal.returns-in_err-place
returns-in_err-place g c = record { does = reads_failed c.from_residual.ensures.1 c.in_err-place.ensures.does.keeps }
