use Rattle.std.proofs.Common.{◌∙◌, sym}
use Rattle.dep_row_maps.specs.TablesAre.{metadata_at}
use Rattle.dep_objects.proofs.AheadTexts.{taken_texts}
use Rattle.dep_objects.proofs.ahead.TextsAhead.take_on.Goals as goal

pub returns-in-None-clause-taken : goal.returns-in-None-clause-taken
returns-in-None-clause-taken c s are has = c.none.ensures c.args.row.now.object (metadata_at s.objects c.args.row.now.object)

pub returns-in-Some-clause-taken : goal.returns-in-Some-clause-taken
returns-in-Some-clause-taken c s are has = taken_texts s c.args.row.now has c.in-Some.read (sym c.passes_over.ensures ∙ c.in-Some.ensures.taken.0) are
