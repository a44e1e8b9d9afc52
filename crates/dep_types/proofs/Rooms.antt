-- Room for numbers, counter by counter.
use Rattle.std.proofs.Common.{◌≡◌, ◌&&◌, Bool, true, false, refl}
use Rattle.dep_types.specs.Numbers.{has_room, room_for}
use Rattle.dep_types.specs.declared.counters.Counters.{Counters}

both : (a b : Bool) → (a && b) ≡ true → (a ≡ true) × (b ≡ true)
both true b e = (refl, e)
both false b e = absurd (cc)

-- each counter with what is taken of it
pub record HaveRoom (next taken : Counters) : Type 0 where
  pub object : has_room next.object taken.object ≡ true
  pub file : has_room next.file taken.file ≡ true
  pub upload : has_room next.upload taken.upload ≡ true
  pub change : has_room next.change taken.change ≡ true

pub have_room : (next taken : Counters) → room_for next taken ≡ true → HaveRoom next taken
unfolding room_for
have_room next taken e =
    let three = both (has_room next.object taken.object && has_room next.file taken.file && has_room next.upload taken.upload) (has_room next.change taken.change) e in
    let two = both (has_room next.object taken.object && has_room next.file taken.file) (has_room next.upload taken.upload) three.0 in
    let one = both (has_room next.object taken.object) (has_room next.file taken.file) two.0 in
    record { object = one.0; file = one.1; upload = two.1; change = three.1 }
