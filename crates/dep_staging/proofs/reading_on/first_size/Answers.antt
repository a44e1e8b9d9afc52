use Rattle.std.proofs.Common.{◌+◌, ◌∙◌, ap, subst}
use Rattle.std.specs.Option.{option_map_or}
use Rattle.std.proofs.lemmas.Result.{IfOk-weaker}
use Rattle.dep_tables.specs.Tables.{Tables}
use Rattle.dep_tables.proofs.Chains.{reads_ok, reads_then}
use Rattle.dep_files.proofs.Behind.{behind}
use Rattle.dep_staging.specs.FileBlocks.{part_of}
use Rattle.dep_staging.specs.NextBytes.{CountsTo}
use Rattle.dep_staging.proofs.NextBytes.{sized_by_none}
use Rattle.dep_row_maps.proofs.Calling.{reads_failed}
use Rattle.dep_staging.proofs.reading_on.first_size.Goals as goal

pub returns-in-Some : goal.returns-in-Some
returns-in-Some g c = record {
  does = record {
    map = λ clean ours s are.
        let mid = behind c.in_ok-last.ensures.does.keeps c.size_to.ensures.does.keeps.stays clean ours s are in
        IfOk-weaker c.size_to.result _ _
        (λ size counts. λ h.
        let ends = c.in_ok-last.ensures.does.map mid.clean ours s are h ∙ ap (λ o. option_map_or (λ last. last + 1) o 0) c.in-Some.is in
        subst (λ (t : Tables). CountsTo t s c.args.file c.in-Some.last size) mid.tables counts h ends)
        (c.size_to.ensures.does.map clean mid.ours s mid.are);
    keeps = reads_then c.in_ok-last.ensures.does.keeps c.size_to.ensures.does.keeps;
  };
}

pub returns-in-None : goal.returns-in-None
returns-in-None g c = record {
  does = record {
    map = λ clean ours s are h. sized_by_none (part_of h c.args.file 1) (c.in_ok-last.ensures.does.map clean ours s are h ∙ ap (λ o. option_map_or (λ last. last + 1) o 0) c.in-None.is);
    keeps = reads_ok c.in_ok-last.ensures.does.keeps;
  };
}

pub returns-in_err-last : goal.returns-in_err-last
returns-in_err-last g c = record { does = reads_failed c.from_residual.ensures.1 c.in_err-last.ensures.does.keeps }
