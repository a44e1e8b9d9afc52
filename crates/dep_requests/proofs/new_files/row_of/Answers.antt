use Rattle.dep_decisions.specs.Effects.{bytes_from}
use Rattle.dep_requests.proofs.Assembled.{made_row}
use Rattle.dep_requests.proofs.new_files.row_of.Goals as goal

pub returns : goal.returns
returns c = record {
  reported = λ s reported.
      made_row c.args.change.now s c.args.numbers c.args.new.now c.in_ok-extent.extent (bytes_from s c.args.change.now.content.now c.args.new.now.source) c.in_ok-new_row.field-0 c.in_ok-new_row.ensures reported.0
      (c.in_ok-extent.ensures s reported.1);
}
