use Rattle.std.proofs.Common.{rules, nat_cmp, ◌≡◌}
use Rattle.std.proofs.lemmas.Fn.{always_returns_same}
use Rattle.std.specs.Cmp.Lexicographic.{slice_cmp}
use Rattle.dep_types.proofs.Metadatas.{placed}
use Rattle.dep_types.proofs.metadata.place_of.Goals as goal

pub returns-clause-place : goal.returns-clause-place
returns-clause-place c =
    placed c.args.entries.now c.args.name.now c.binary_search_by.result c.requires
    (c.binary_search_by.ensures.position (λ e. slice_cmp nat_cmp e.name c.args.name.now)
    (always_returns_same _ (λ a r. r ≡ slice_cmp nat_cmp a.0.now.name c.args.name.now) _ (λ a r f k. (search rules, search rules))))
