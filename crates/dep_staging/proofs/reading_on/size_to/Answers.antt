use Rattle.std.proofs.Common.{◌+◌, ◌*◌, ◌∙◌, ap, sym}
use Rattle.std.specs.Prelude.{option_map}
use Rattle.std.proofs.lemmas.Result.{IfOk-weaker}
use Rattle.dep_tables.proofs.Chains.{reads_ok}
use Rattle.dep_staging.specs.FileBlocks.{part_of}
use Rattle.dep_staging.proofs.NextBytes.{sized_by_last}
use Rattle.dep_row_maps.proofs.Calling.{reads_failed}
use Rattle.dep_staging.proofs.reading_on.size_to.Goals as goal

pub returns-in-Some : goal.returns-in-Some
returns-in-Some g c = record {
  does = record {
    map = λ clean ours s are.
        IfOk-weaker c.part_size.result _ _
        (λ size e. λ h ends.
        let found = sym (ap (option_map (λ bytes. bytes.items)) c.in-Some.is) ∙ c.in_ok-block.ensures.does.map clean ours s are h in
        sized_by_last (λ bytes. bytes.items) (part_of h c.args.file 1) c.args.last size c.in-Some.block found ends (e ∙ ap (λ n. c.args.last * 65536 + n) (c.len.ensures ∙ c.in-Some.block.ok.0)))
        c.part_size.ensures;
    keeps = reads_ok c.in_ok-block.ensures.does.keeps;
  };
}

pub returns-in-None : goal.returns-in-None
returns-in-None g c = record {
  does = record {
    map = λ clean ours s are. tt;
    keeps = reads_ok c.in_ok-block.ensures.does.keeps;
  };
}

pub returns-in_err-block : goal.returns-in_err-block
returns-in_err-block g c = record { does = reads_failed c.from_residual.ensures.1 c.in_err-block.ensures.does.keeps }
