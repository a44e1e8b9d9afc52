use Rattle.std.proofs.Common.{◌≡◌, ◌++◌, Some, true, map, is_some}
use Rattle.std.specs.List.{list_all}
use Rattle.dep_octets.specs.Octets.{members}
use Rattle.dep_fixity.specs.Fixity.{name_and_value, one_digest, spelled_under}
use Rattle.dep_fixity.proofs.field.read_promise.Given as goal

abbrev pub invariant-loop-member : goal.invariant-loop-member
invariant-loop-member g l = record {
  left : members l.text ≡ map (λ m. m.now) l.yielded ++ l.member-iterator;
  named : list_all (λ member. is_some (name_and_value member)) (map (λ m. m.now) l.yielded) ≡ true;
  promised : one_digest (spelled_under g.row.N l.algorithm (map (λ m. m.now) l.yielded)) ≡ Some l.promised;
}
