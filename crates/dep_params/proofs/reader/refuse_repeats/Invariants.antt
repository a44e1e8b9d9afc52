use Rattle.std.proofs.Common.{◌≡◌, ℕ, List, map, take, bytes_eq, Bor}
use Rattle.std.specs.List.{IsDistinct, list_any}
use Rattle.std.specs.BTreeSet.{contains}
use Rattle.std.specs.Ordering.{nat_cmp}
use Rattle.std.specs.Cmp.Lexicographic.{slice_cmp}
use Rattle.dep_params.proofs.reader.refuse_repeats.Given as goal

abbrev pub invariant-loop-parameter : goal.invariant-loop-parameter
invariant-loop-parameter l = record {
  held : (k : Bor (List ℕ)) → contains (λ a b. slice_cmp nat_cmp a.now b.now) l.names k ≡ list_any (λ n. bytes_eq k.now n) (map (λ p. p.name.items) (take l.parameter-index l.parameters));
  distinct : IsDistinct bytes_eq (map (λ p. p.name.items) (take l.parameter-index l.parameters));
}
