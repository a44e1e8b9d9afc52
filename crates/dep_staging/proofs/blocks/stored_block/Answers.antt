use Rattle.dep_tables.specs.Tables.{tables_of}
use Rattle.dep_row_maps.proofs.Calling.{queried}
use Rattle.dep_files.proofs.Results.{ok_both}
use Rattle.dep_staging.proofs.StoredBlocks.{asked_below, stored_at}
use Rattle.dep_staging.proofs.blocks.stored_block.Goals as goal

pub returns-clause-does : goal.returns-clause-does
returns-clause-does g c = queried c.read_block.ensures.does (λ s are found read. stored_at (λ bytes. bytes.items) (tables_of (g.T.Statements.state c.args.tx.now)) s c.args.upload c.args.segment c.args.place found are read)

pub returns-clause-few : goal.returns-clause-few
returns-clause-few g c =
    let refuses = c.read_block.ensures.does.numbers in
    ok_both c.read_block.result (asked_below c.args.segment c.read_block.result (λ key. key.part) refuses) (asked_below c.args.place c.read_block.result (λ key. key.place) refuses) (λ segment place. (segment, place))
