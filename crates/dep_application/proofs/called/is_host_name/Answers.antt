use Rattle.std.proofs.Common.{◌≢◌, ◌∙◌, codes, sym, true≢false}
use Rattle.std.proofs.lemmas.Bool.Decides.{Decides-eqb}
use Rattle.std.proofs.lemmas.Slice.Eq.{slice_eq-Decides}
use Rattle.dep_application.proofs.CalledLemmas.{is_behind}
use Rattle.dep_application.proofs.called.is_host_name.Goals as goal

pub returns-else-eq : goal.returns-else-eq
returns-else-eq c =
    let other : c.args.path.now ≢ codes "swordd_host" =
    λ same. true≢false (sym ((slice_eq-Decides Decides-eqb c.args.path.now (codes "swordd_host") c.eq.result c.eq.ensures).1 same) ∙ c.if-eq.false) in
    is_behind c.args.path.now c.ends_with.result other c.ends_with.ensures.value
