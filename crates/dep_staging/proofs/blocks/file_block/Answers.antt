use Rattle.dep_tables.specs.Tables.{tables_of}
use Rattle.dep_row_maps.proofs.Calling.{queried}
use Rattle.dep_staging.proofs.StoredBlocks.{file_at_place}
use Rattle.dep_staging.proofs.blocks.file_block.Goals as goal

pub returns : goal.returns
returns g c = record {
  does = queried c.read_block.ensures.does (λ s are found read. λ h. file_at_place (λ bytes. bytes.items) (tables_of (g.T.Statements.state c.args.tx.now)) s c.args.file c.args.at.part c.args.at.place found h read);
}
