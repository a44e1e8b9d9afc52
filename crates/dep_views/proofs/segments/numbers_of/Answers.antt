use Rattle.std.proofs.Common.{◌∙◌, ◌++◌, [], ◌∷◌, map, get_or, is_err, sym, ap}
use Rattle.std.proofs.lemmas.List.{map_more, take_all}
use Rattle.dep_tables.specs.declared.segments.SegmentRow.{SegmentRow}
use Rattle.dep_files.proofs.Results.{pushed}
use Rattle.dep_views.proofs.segments.numbers_of.Goals as goal

pub loop-segment-preserved : goal.loop-segment-preserved
loop-segment-preserved c =
    let f = λ (row : SegmentRow). row.number in
    let xs = c.args.segments.now in
    let i = c.loop-segment.segment-index in
    let none : SegmentRow = record { upload = 0; number = 0; size = 0 } in
    let number = (get_or xs i none).number in
    let before = c.loop-segment.numbers.items in
    let grown = pushed c.push.result c.push.new.self.items (before ++ number ∷ []) before (ap is_err c.in_ok-push.was) c.push.ensures.items in
    grown ∙ ap (λ l. l ++ number ∷ []) c.loop-segment.invariant ∙ sym (map_more f xs i none c.loop-segment-test.true)

pub returns : goal.returns
returns c = record {
  ok = let f = λ (row : SegmentRow). row.number in
      c.from_vec.ensures ∙ c.loop-segment.invariant ∙ ap (map f) (take_all c.loop-segment.segment-index c.args.segments.now c.loop-segment-test.false);
}
