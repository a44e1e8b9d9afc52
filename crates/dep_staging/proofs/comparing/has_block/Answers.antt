use Rattle.std.proofs.Common.{ℕ, ap, sym, ◌∙◌}
use Rattle.std.specs.Prelude.{bytes_eq, false, option_map}
use Rattle.std.specs.Global.{Vec}
use Rattle.std.specs.Option.{option_map_or}
use Rattle.dep_tables.proofs.Chains.{reads_ok}
use Rattle.dep_row_maps.proofs.Calling.{reads_failed}
use Rattle.dep_staging.proofs.comparing.has_block.Goals as goal

pub returns-in-Some : goal.returns-in-Some
returns-in-Some g c = record {
  does = record {
    map = λ clean ours s are.
        c.eq.ensures ∙ ap (λ stored. bytes_eq stored c.args.block.now) c.as_slice.ensures.value ∙ ap (λ o. option_map_or (λ stored. bytes_eq stored c.args.block.now) o false)
        (ap (option_map (λ (bytes : Vec ℕ). bytes.items)) (sym c.in-Some.is) ∙ c.in_ok-stored.ensures.does.map clean ours s are);
    keeps = reads_ok c.in_ok-stored.ensures.does.keeps;
  };
}

pub returns-in-None : goal.returns-in-None
returns-in-None g c = record {
  does = record {
    map = λ clean ours s are.
        ap (λ o. option_map_or (λ stored. bytes_eq stored c.args.block.now) o false)
        (ap (option_map (λ (bytes : Vec ℕ). bytes.items)) (sym c.in-None.is) ∙ c.in_ok-stored.ensures.does.map clean ours s are);
    keeps = reads_ok c.in_ok-stored.ensures.does.keeps;
  };
}

pub returns-in_err-stored : goal.returns-in_err-stored
returns-in_err-stored g c = record { does = reads_failed c.from_residual.ensures.1 c.in_err-stored.ensures.does.keeps }
