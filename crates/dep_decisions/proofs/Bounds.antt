-- Counters that have room stay below the bound of a table's numbers.
use Rattle.std.proofs.Common.{◌≡◌, ℕ, ◌+◌, ◌<◌, ◌^◌, ◌==◌, ◌||◌, ◌⊎◌, inl, inr, nat_le, Bool, true, false, refl, arith}
use Rattle.std.proofs.lemmas.Bool.Decides.{nat_tests}
use Rattle.dep_types.specs.State.{State}
use Rattle.dep_types.specs.Sound.{IsSound}
use Rattle.dep_types.specs.Numbers.{counters_after, greatest_number, has_room, room_for}
use Rattle.dep_types.specs.declared.counters.Counters.{Counters}
use Rattle.dep_types.proofs.Rooms.{have_room}

pub record AreBounded (next : Counters) : Type 0 where
  pub object : next.object < 2 ^ 63
  pub file : next.file < 2 ^ 63
  pub upload : next.upload < 2 ^ 63
  pub change : next.change < 2 ^ 63

one_of : (a b : Bool) → (a || b) ≡ true → (a ≡ true) ⊎ (b ≡ true)
one_of true b e = inl refl
one_of false b e = inr e

bounded_by : (n k : ℕ) → n < 2 ^ 63 → has_room n k ≡ true → n + k < 2 ^ 63
bounded_by n k h e = elim (one_of (k == 0) (nat_le (n + k) greatest_number) e) [
  | inl none ↦ grind (arith, nat_tests)
  | inr fits ↦ grind (arith, nat_tests)
]

pub bounded_after : (s : State) → IsSound s → (taken : Counters) → room_for s.next taken ≡ true → AreBounded (counters_after s.next taken)
bounded_after s sound taken room =
    let have = have_room s.next taken room in
    record {
      object = bounded_by s.next.object taken.object sound.object_bound have.object;
      file = bounded_by s.next.file taken.file sound.file_bound have.file;
      upload = bounded_by s.next.upload taken.upload sound.upload_bound have.upload;
      change = bounded_by s.next.change taken.change sound.change_bound have.change;
    }
