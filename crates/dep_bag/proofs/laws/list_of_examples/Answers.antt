use Rattle.std.proofs.Common.{refl}
use Rattle.std.specs.Fmt.{digits}
use Rattle.dep_bag.proofs.laws.list_of_examples.Goals as goal

pub returns : goal.returns
unfolding digits
returns c = record { none = refl; octets = refl; plain = refl; percent = refl }
