use Rattle.std.proofs.Common.{rules, subst, sym, le_refl, take_all}
use Rattle.std.proofs.lemmas.List.{append-nil}
use Rattle.dep_head.proofs.AnyError.{on_err}
use Rattle.dep_body.specs.Standing.{StandsAt}
use Rattle.dep_body.proofs.reader.step.Goals as goal

pub returns-in-Line-clause-stands : goal.returns-in-Line-clause-stands
returns-in-Line-clause-stands c = search rules

pub returns-in-Line-clause-kept : goal.returns-in-Line-clause-kept
returns-in-Line-clause-kept c = take_all _ _ (le_refl _)

pub returns-in-Data-clause-wanted : goal.returns-in-Data-clause-wanted
returns-in-Data-clause-wanted c = on_err c.take_data.result (c.in-Data.left, c.in-Data.is)

pub returns-in-ChunkEnd-clause-stands : goal.returns-in-ChunkEnd-clause-stands
returns-in-ChunkEnd-clause-stands c = search rules

pub returns-in-ChunkEnd-clause-kept : goal.returns-in-ChunkEnd-clause-kept
returns-in-ChunkEnd-clause-kept c = take_all _ _ (le_refl _)

pub returns-in-Section-clause-stands : goal.returns-in-Section-clause-stands
returns-in-Section-clause-stands c = search rules

pub returns-in-Section-clause-kept : goal.returns-in-Section-clause-kept
returns-in-Section-clause-kept c = take_all _ _ (le_refl _)

pub returns-in-Done-clause-stands : goal.returns-in-Done-clause-stands
returns-in-Done-clause-stands c = λ text h. subst (StandsAt c.args.limit c.args.content.now c.args.stage) (sym (append-nil text)) h

pub returns-in-Done-clause-kept : goal.returns-in-Done-clause-kept
returns-in-Done-clause-kept c = take_all _ _ (le_refl _)
