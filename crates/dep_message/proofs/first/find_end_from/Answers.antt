use Rattle.std.proofs.Common.{◌+◌, arith, sym, Some}
use Rattle.dep_head.proofs.HeadEnd.{end_within}
use Rattle.dep_message.proofs.SearchOn.{end_found}
use Rattle.dep_message.proofs.first.find_end_from.Goals as goal

pub overflow_add-result : goal.overflow_add-result
overflow_add-result c =
    let end = end_found c.args.front.searched c.saturating_sub-from.result c.args.front.bytes.now (Some c.in-Some.end) c.args.front.is_searched c.saturating_sub-from.ensures c.in-Some.ensures in
    let within = (end_within c.args.front.bytes.now (c.saturating_sub-from.result + c.in-Some.end) (sym end)).1 in
    omega (arith, within)

pub returns-in-Some : goal.returns-in-Some
returns-in-Some c = end_found c.args.front.searched c.saturating_sub-from.result c.args.front.bytes.now (Some c.in-Some.end) c.args.front.is_searched c.saturating_sub-from.ensures c.in-Some.ensures

pub returns-in-None : goal.returns-in-None
returns-in-None c = end_found c.args.front.searched c.saturating_sub-from.result c.args.front.bytes.now _ c.args.front.is_searched c.saturating_sub-from.ensures c.in-None.ensures
