use Rattle.std.proofs.Common.{◌≡◌, ap, arith, rules, ◌*◌, ◌<◌, length}
use Rattle.dep_files.proofs.Cuts.{before_end, block_is}
use Rattle.dep_files.proofs.content.HashedOctetsContent.block.Goals as goal

pub overflow_mul-start : goal.overflow_mul-start
overflow_mul-start c =
    let len : length c.as_slice-octets.result.now ≡ length c.args.self.now = ap length c.as_slice-octets.ensures in
    let inside : c.args.place * 65536 < length c.args.self.now = before_end c.args.self.now c.args.place c.requires in omega (arith, inside, len, c.as_slice-octets.type_inv.1)

pub overflow_add-start : goal.overflow_add-start
overflow_add-start c =
    let len : length c.as_slice-octets.result.now ≡ length c.args.self.now = ap length c.as_slice-octets.ensures in
    let inside : c.args.place * 65536 < length c.args.self.now = before_end c.args.self.now c.args.place c.requires in omega (arith, inside, len, c.as_slice-octets.type_inv.1)

pub slice_bounds-result-count : goal.slice_bounds-result-count
slice_bounds-result-count c =
    let len : length c.as_slice-octets.result.now ≡ length c.args.self.now = ap length c.as_slice-octets.ensures in
    let inside : c.args.place * 65536 < length c.args.self.now = before_end c.args.self.now c.args.place c.requires in omega (arith, inside, len, c.min-end.ensures)

pub slice_bounds-result-start : goal.slice_bounds-result-start
slice_bounds-result-start c =
    let len : length c.as_slice-octets.result.now ≡ length c.args.self.now = ap length c.as_slice-octets.ensures in
    let inside : c.args.place * 65536 < length c.args.self.now = before_end c.args.self.now c.args.place c.requires in search (rules, inside, len)

pub returns : goal.returns
returns c = rw c.as_slice-octets.ensures (block_is c.args.self.now c.args.place c.min-end.result c.requires (rw c.as_slice-octets.ensures at c.min-end.ensures))
