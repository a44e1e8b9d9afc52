-- What a new store keeps is sound.
use Rattle.std.proofs.Common.{nat_cmp, arith}
use Rattle.std.specs.FinMap as map
use Rattle.std.specs.FinSet as set
use Rattle.dep_types.specs.State.{Object, Upload, empty_state}
use Rattle.dep_types.specs.Sound.{IsSound}

pub empty_sound : IsSound empty_state
empty_sound = record {
  clock = omega arith;
  next_object = omega arith;
  next_file = omega arith;
  next_upload = omega arith;
  next_change = omega arith;
  object_bound = omega arith;
  file_bound = omega arith;
  upload_bound = omega arith;
  change_bound = omega arith;
  objects = λ n o e. absurd (let none = map.get-empty {X = Object} nat_cmp n in cc);
  one_place = λ n m f a b e. let none = map.get-empty {X = Object} nat_cmp n in absurd (let gone = rw none at e in cc);
  uploads = λ n u e. absurd (let none = map.get-empty {X = Upload} nat_cmp n in cc);
  timed_out = λ n e. absurd (let none = set.contains-empty nat_cmp n in cc);
}
