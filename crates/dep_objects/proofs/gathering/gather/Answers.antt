use Rattle.std.proofs.Common.{sym, ap, ◌∙◌}
use Rattle.std.proofs.Math.Dec.{eqb}
use Rattle.std.proofs.lemmas.Bool.{eqb-true, eq-eqb}
use Rattle.std.proofs.lemmas.Slice.Eq.{slice_eq-Decides}
use Rattle.dep_row_maps.specs.Stored.{with_added_text}
use Rattle.dep_row_maps.specs.ReadLaws.{pair_of}
use Rattle.dep_objects.specs.Texts.{closed}
use Rattle.dep_objects.proofs.Named.{one_more}
use Rattle.dep_objects.proofs.gathering.gather.Goals as goal

pub returns-then-eq-clause-reported : goal.returns-then-eq-clause-reported
returns-then-eq-clause-reported c =
    let same = (slice_eq-Decides {E = eqb} (λ a b. (eqb-true a b, eq-eqb a b)) c.as_str.result.now c.as_str-in-Some.result.now _ c.eq.ensures).0 c.if-eq.true in
    one_more c.args.metadata.now c.in-Some.last.name c.args.row.name c.in-Some.last.texts.items c.push.new.self.items c.args.row.value (sym c.as_str.ensures ∙ same ∙ c.as_str-in-Some.ensures) (rw c.in_ok-push.was at c.push.ensures.items)
    ∙ ap (λ last. with_added_text (closed c.args.metadata.now last) (pair_of c.args.row)) (sym c.in-Some.is)
