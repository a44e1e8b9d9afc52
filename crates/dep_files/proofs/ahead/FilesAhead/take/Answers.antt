use Rattle.std.proofs.Common.{sym, subst}
use Rattle.dep_types.specs.Maps.{Numbered}
use Rattle.dep_types.specs.State.{File}
use Rattle.dep_row_maps.specs.TablesAre.{files_at}
use Rattle.dep_files.specs.Ahead.{AreFilesSoFar}
use Rattle.dep_files.proofs.AheadFiles.{files_are, its_object, taken_part}
use Rattle.dep_files.proofs.ahead.FilesAhead.take.Goals as goal

pub returns-in-Some-clause-taken : goal.returns-in-Some-clause-taken
returns-in-Some-clause-taken c s has are =
    let row = c.args.row.now in
    let its = its_object s row has in
    subst (λ (files : Numbered File). AreFilesSoFar row.object files c.in-Some.read) (sym (files_are s row.object its.0 its.1.0))
    (taken_part (λ n o read. AreFilesSoFar n o.files read) s row has c.in-Some.read c.in-Some.ensures.taken.0 are its.0 its.1.0)

pub returns-in-None-clause-taken : goal.returns-in-None-clause-taken
returns-in-None-clause-taken c s has are = c.none.ensures c.args.row.now.object (files_at s.objects c.args.row.now.object)
