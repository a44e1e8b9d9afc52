use Rattle.std.proofs.Common.{refl}
use Rattle.dep_message.specs.Places.{Open}
use Rattle.dep_message.specs.Working.{kept_bytes}
use Rattle.dep_message.proofs.Shown.{none_waits, shows_kept, waits_on}
use Rattle.dep_message.proofs.unparsed.Unparsed.preview.Goals as goal

pub returns-in-First-clause-shows : goal.returns-in-First-clause-shows
returns-in-First-clause-shows g c =
    let w = c.args.self.now in
    shows_kept g.P.Preview.sees c.args.by.now c.show.new.by w.limit w.continued (kept_bytes w) c.read_on.new.self c.in_ok-read_on.ensures.0
    c.in-First.first c.in-First.is c.show.result c.show.ensures.shows

pub returns-in_default : goal.returns-in_default
returns-in_default g c =
    let w = c.args.self.now in
    let waits = waits_on w.limit w.continued (kept_bytes w) c.read_on.new.self.progress c.in_ok-read_on.ensures.1 c.in_default.not-First in
    record { keeps = c.in_ok-read_on.ensures.0; shows = (none_waits w.limit (Open w.continued (kept_bytes w)) waits, refl) }
