use Rattle.std.proofs.Common.{◌∙◌, ap, sym}
use Rattle.std.specs.Option.{option_copied}
use Rattle.std.specs.FinMap as finmap
use Rattle.std.proofs.lemmas.Bool.{eqb-true}
use Rattle.dep_staging.proofs.AheadLemmas.{lacks_none}
use Rattle.dep_staging.proofs.Kept.{under_some, under_found}
use Rattle.dep_staging.proofs.running.RunningHashes.is_hashed_whole.Goals as goal

pub returns-in-Some-peek : goal.returns-in-Some-peek
returns-in-Some-peek c whole s are it there same =
    let run = c.in-Some-peek.run'.now in
    let found = under_found s c.args.upload c.in-Some.kept.entries run (under_some s c.args.self.now c.in-Some.kept c.in-Some.is are) (sym c.peek.ensures ∙ ap option_copied c.in-Some-peek.is) in
    lacks_none s it run found.0 (ap (finmap.get s.uploads) found.1 ∙ there) (eqb-true run.segments c.args.count whole ∙ same)
