use Rattle.std.proofs.Common.{ℕ, List, ◌++◌, subst, sym}
use Rattle.dep_body.specs.ReaderValue.{ReaderValue}
use Rattle.dep_body.specs.Feeding.{HasFed, HasChunkByte, ReportsFed}
use Rattle.dep_body.proofs.FeedLemmas.{all_used, feeds, feeds_fed, reports}
use Rattle.dep_body.proofs.reader.ChunkReader.feed.Goals as goal

pub returns-clause-fed : goal.returns-clause-fed
returns-clause-fed c = λ fed h.
    let old : ReaderValue = record { limit = c.self.inside.max_upload; content = c.self.inside.content; stage = c.self.inside.stage } in
    let new : ReaderValue = record { limit = c.self.inside.max_upload; content = c.advance.new.content; stage = c.in-Ok.advanced.0 } in
    let was = subst (λ (r : ReaderValue). HasFed r fed) (sym c.self.view_is) h in
    subst (λ (r : ReaderValue). HasFed r (fed ++ c.args.piece.now)) (sym c.hash_early.ensures)
    (feeds_fed new fed c.args.piece.now c.in-Ok.advanced.1
    (feeds old new fed c.args.piece.now c.in-Ok.advanced.1 was c.in-Ok.ensures.stands c.in-Ok.ensures.within c.in-Ok.ensures.all c.in-Ok.ensures.settled))

pub returns-clause-reported : goal.returns-clause-reported
returns-clause-reported c = λ fed h.
    let old : ReaderValue = record { limit = c.self.inside.max_upload; content = c.self.inside.content; stage = c.self.inside.stage } in
    let new : ReaderValue = record { limit = c.self.inside.max_upload; content = c.advance.new.content; stage = c.in-Ok.advanced.0 } in
    let was = subst (λ (r : ReaderValue). HasFed r fed) (sym c.self.view_is) h in
    subst (λ (r : ReaderValue). ReportsFed r fed c.args.piece.now c.answer.result) (sym c.hash_early.ensures)
    (subst (ReportsFed new fed c.args.piece.now) (sym c.answer.ensures)
    (reports c.self.inside.max_upload c.advance.new.content fed c.args.piece.now c.in-Ok.advanced.0 c.in-Ok.advanced.1
    (feeds old new fed c.args.piece.now c.in-Ok.advanced.1 was c.in-Ok.ensures.stands c.in-Ok.ensures.within c.in-Ok.ensures.all c.in-Ok.ensures.settled)))

pub returns-in-Err-clause-wanted : goal.returns-in-Err-clause-wanted
returns-in-Err-clause-wanted c = λ fed h.
    let old : ReaderValue = record { limit = c.self.inside.max_upload; content = c.self.inside.content; stage = c.self.inside.stage } in
    let was = subst (λ (r : ReaderValue). HasFed r fed) (sym c.self.view_is) h in
    subst (λ (r : ReaderValue). HasChunkByte r.limit fed c.args.piece.now) c.self.view_is
    (subst (λ (l : List ℕ). HasChunkByte c.self.inside.max_upload l c.args.piece.now) (sym (all_used old fed was c.in-Err.ensures.unsettled)) (c.in-Err.ensures.wanted was.text was.stands))
