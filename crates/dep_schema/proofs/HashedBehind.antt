-- The blocks of an owner that are hashed behind a call that only read: all is told of the tables before that call.
use Rattle.std.proofs.Common.{None, Result, Ok, subst}
use Rattle.sqlite.specs.Held.{Held, state}
use Rattle.sqlite.specs.State.{HasCleanDisk}
use Rattle.sqlite_trees.specs.declared.store.Store.{Ghosts}
use Rattle.dep_fixity.specs.declared.hasher.Digests.{Digests}
use Rattle.dep_types.specs.declared.store_fault.StoreFault.{StoreFault}
use Rattle.dep_tables.specs.Tables.{Tables, tables_of, IsKnown}
use Rattle.dep_tables.specs.declared.owner.BlockOwner.{BlockOwner}
use Rattle.dep_schema.specs.Causes.{FailsToGiveBlocks}
use Rattle.dep_schema.specs.Clauses.{ReadsOverTables}
use Rattle.dep_schema.specs.Fixity.{AreDigestsOf}
use Rattle.dep_schema.proofs.KnownTables.{blocks_plain}
use Rattle.dep_files.proofs.Results.{same_tables}
use Rattle.dep_schema.proofs.Stills.{known_still, still_same}
use Rattle.dep_schema.proofs.Streams.{blocks_from}

module _ {S A E B F : Type 0} {g : Ghosts S} {a b c : Held S} {x : A} {r : Result B F} (first : ReadsOverTables {A = A} {E = E} g a b (Ok x)) (second : ReadsOverTables g b c r) (o : BlockOwner) where
  known_behind : HasCleanDisk (state g c) → IsKnown (state g a) → IsKnown (state g b)
  known_behind clean known = known_still (state g a) (state g b) (still_same (state g a) (state g b) (first.same (second.stays.honest clean))) known

  pub hashed_behind : (digests : Digests) → (HasCleanDisk (state g c) → IsKnown (state g b) → AreDigestsOf (tables_of (state g b)) o digests)
      → HasCleanDisk (state g c) → IsKnown (state g a) → AreDigestsOf (tables_of (state g a)) o digests
  hashed_behind digests hashes clean known =
      subst (λ (t : Tables). AreDigestsOf t o digests) (same_tables (state g a) (state g b) (first.same (second.stays.honest clean))) (hashes clean (known_behind clean known))

  pub unread_behind : (fault : StoreFault) → (HasCleanDisk (state g c) → IsKnown (state g b) → FailsToGiveBlocks o None (state g b) (state g c) fault)
      → HasCleanDisk (state g c) → IsKnown (state g a) → FailsToGiveBlocks o None (state g a) (state g c) fault
  unread_behind fault cause clean known =
      blocks_from o None (state g a) (state g b) (state g c) fault (blocks_plain (state g a) known) (first.same (second.stays.honest clean)) first.stays.survives (cause clean (known_behind clean known))
