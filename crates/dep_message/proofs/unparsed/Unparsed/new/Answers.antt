use Rattle.std.proofs.Common.{refl}
use Rattle.dep_message.proofs.SearchOn.{searched_none}
use Rattle.dep_message.proofs.unparsed.Unparsed.new.Goals as goal

pub returns : goal.returns
returns c = record {
  limit_is = refl;
  continued_is = refl;
  bytes_are = c.new.ensures;
  known = searched_none c.new.result;
}
