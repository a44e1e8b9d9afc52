use Rattle.std.proofs.Common.{◌++◌, false}
use Rattle.dep_message.specs.Places.{Open, place_with}
use Rattle.dep_message.proofs.Reading.{reads_more}
use Rattle.dep_message.proofs.OneReading.{reads_prefix}
use Rattle.dep_message.proofs.laws.items_grow.Goals as goal

pub returns : goal.returns
returns c = λ limit stream piece xs ys p q f g.
    let k = reads_prefix limit xs ys (Open false (stream ++ piece)) (place_with p piece) q (reads_more limit xs (Open false stream) p piece f.reads) g.reads g.waits in
    (k.0, k.1)
