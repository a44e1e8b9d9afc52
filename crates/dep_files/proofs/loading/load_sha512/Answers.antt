use Rattle.std.proofs.Common.{◌≡◌, Some, sym, ◌∙◌}
use Rattle.sha2.specs.Sha512.{sha512}
use Rattle.dep_tables.specs.Tables.{tables_of}
use Rattle.dep_tables.specs.declared.owner.BlockOwner.TheVariants as owner
use Rattle.dep_tables.proofs.Chains.{reads_ok}
use Rattle.dep_row_maps.proofs.Calling.{queried_ok, reads_failed}
use Rattle.dep_row_maps.proofs.Sha512s.{sha512_read}
use Rattle.dep_files.proofs.loading.load_sha512.Goals as goal

pub returns-in-Some : goal.returns-in-Some
returns-in-Some g c = record {
  does = queried_ok c.in_ok-value.ensures.does
      (λ clean ours s are n it there.
      let read = sha512_read (tables_of (g.T.Statements.state c.args.tx.now)) s are (owner.File c.args.file) c.in_ok-value.field-0 (c.in_ok-value.ensures.does.ok clean ours) in
      let same : Some c.in-Some.value ≡ Some (sha512 it.content) = sym c.in-Some.is ∙ read.0 n it there in
      cc);
}

pub returns-in-None : goal.returns-in-None
returns-in-None g c = record { does = record { map = λ clean ours s are. tt; keeps = reads_ok c.in_ok-value.ensures.does.keeps } }

pub returns-in_err-value : goal.returns-in_err-value
returns-in_err-value g c = record { does = reads_failed c.from_residual.ensures.1 c.in_err-value.ensures.does.keeps }
