use Rattle.std.proofs.Common.{◌<◌, ◌^◌, length, sym, subst, arith}
use Rattle.dep_files.proofs.Cuts.{block_count, few_blocks}
use Rattle.dep_files.proofs.content.HashedOctetsContent.count.Goals as goal

pub returns-clause-exact : goal.returns-clause-exact
returns-clause-exact c = rw (c.div_ceil.ensures, c.as_slice.ensures) (block_count c.args.self.now)

pub returns-clause-few : goal.returns-clause-few
returns-clause-few c = subst (λ n. n < 2 ^ 63) (sym c.div_ceil.ensures) (few_blocks (length c.as_slice.result.now) (omega (arith, c.as_slice.type_inv.1)))
