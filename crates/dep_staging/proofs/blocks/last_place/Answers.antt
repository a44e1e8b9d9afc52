use Rattle.dep_tables.specs.declared.owner.BlockOwner.TheVariants as owner
use Rattle.dep_row_maps.proofs.Calling.{queried}
use Rattle.dep_row_maps.proofs.LastBlock.{part_ends}
use Rattle.dep_staging.proofs.blocks.last_place.Goals as goal

pub returns : goal.returns
returns g c = record {
  does = queried c.last_block.ensures.does (λ s are found read. λ h. part_ends _ h.common.parts h.common.blocks (owner.File c.args.file) 1 found read);
}
