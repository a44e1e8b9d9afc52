use Rattle.std.proofs.Common.{Err, refl, subst}
use Rattle.sqlite.specs.Held.{state}
use Rattle.dep_types.specs.Streams.{IsStreamed}
use Rattle.dep_schema.specs.Faults.{IsStreamStoppedBy}
use Rattle.dep_schema.specs.Causes.{FailsToStream}
use Rattle.dep_schema.specs.Causes.FailsToLoad.{not_streamed, not_kept}
use Rattle.dep_schema.proofs.loading.load_content.Goals as goal

pub returns-in-Err-NoSuchFile-clause-loads : goal.returns-in-Err-NoSuchFile-clause-loads
returns-in-Err-NoSuchFile-clause-loads g c clean ours s are =
    let it = c.in-Err-NoSuchFile.ensures.streams in
    (subst (λ e. IsStreamed {X = Unit {0}} s c.args.file it.0 (Err e)) c.in-Err-NoSuchFile.field-0-is (it.2 clean ours s are)).1

pub returns-in-Err-Store-clause-cause : goal.returns-in-Err-Store-clause-cause
returns-in-Err-Store-clause-cause g c clean ours =
    not_streamed (subst (IsStreamStoppedBy (FailsToStream c.args.file (state g.S.Store c.args.connection.now) (state g.S.Store c.stream_content.new.connection)))
    c.in-Err-Store.field-0-is (c.in-Err-Store.ensures.why clean ours))

pub returns-in-Err-Memory-clause-cause : goal.returns-in-Err-Memory-clause-cause
returns-in-Err-Memory-clause-cause g c clean ours =
    not_streamed (subst (IsStreamStoppedBy (FailsToStream c.args.file (state g.S.Store c.args.connection.now) (state g.S.Store c.stream_content.new.connection)))
    c.in-Err-Memory.field-0-is (c.in-Err-Memory.ensures.why clean ours))

pub returns-clause-cause : goal.returns-clause-cause
returns-clause-cause g c clean ours =
    let it = c.in-Err-Writer.ensures.streams in
    not_kept (λ s are. (it.0, subst (λ e. IsStreamed {X = Unit {0}} s c.args.file it.0 (Err e)) c.in-Err-Writer.field-0-is (it.2 clean ours s are))) refl
