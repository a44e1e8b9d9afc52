use Rattle.std.proofs.Common.{arith}
use Rattle.std.proofs.lemmas.Bool.Decides.{nat_tests}
use Rattle.dep_types.proofs.Rooms.{have_room}
use Rattle.dep_types.proofs.counters.Counters.after_taking.Goals as goal

pub overflow_add-result : goal.overflow_add-result
overflow_add-result c = let room = (have_room c.args.self.now c.args.taken.now c.requires).object in grind (arith, nat_tests, c.fits-self, c.fits-taken)

pub overflow_add-result-2 : goal.overflow_add-result-2
overflow_add-result-2 c = let room = (have_room c.args.self.now c.args.taken.now c.requires).file in grind (arith, nat_tests, c.fits-self, c.fits-taken)

pub overflow_add-result-3 : goal.overflow_add-result-3
overflow_add-result-3 c = let room = (have_room c.args.self.now c.args.taken.now c.requires).upload in grind (arith, nat_tests, c.fits-self, c.fits-taken)

pub overflow_add-result-4 : goal.overflow_add-result-4
overflow_add-result-4 c = let room = (have_room c.args.self.now c.args.taken.now c.requires).change in grind (arith, nat_tests, c.fits-self, c.fits-taken)
