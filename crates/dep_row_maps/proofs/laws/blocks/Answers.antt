use Rattle.dep_row_maps.proofs.Contents.{content_put}
use Rattle.dep_row_maps.proofs.Picked.{block_read}
use Rattle.dep_row_maps.proofs.Pieces.{blocks-sized}
use Rattle.dep_row_maps.proofs.Readings.{content_read, assembled_read}
use Rattle.dep_row_maps.proofs.Whole.{block_put, blocks_deleted, blocks_moved, blocks_joined}
use Rattle.dep_row_maps.proofs.laws.blocks.Goals as goal

pub returns : goal.returns
returns c = record { put = block_put; content_put = content_put; deleted = blocks_deleted; moved = blocks_moved; join = blocks_joined; sized = blocks-sized; block_read = block_read; content_read = content_read; assembled_read = assembled_read }
