use Rattle.sqlite.specs.State.{HasCleanDisk}
use Rattle.sqlite.specs.Held.{state}
use Rattle.dep_tables.specs.Tables.{tables_of, IsKnown}
use Rattle.dep_schema.specs.Clauses.{StaysOver}
use Rattle.dep_schema.proofs.Stills.{IsStill}
use Rattle.dep_schema.proofs.Valued.{AreValuesTo}
use Rattle.dep_schema.proofs.upgrading.hash_files.Given as goal

-- the files up to the last one have their values
abbrev pub invariant-files : goal.invariant-files
invariant-files g l =
    let old = state g.S.Store l.fn.connection in
    let now = state g.S.Store l.connection in
    StaysOver g.S.Store l.fn.connection l.connection
    × (HasCleanDisk now → IsStill old now)
    × (HasCleanDisk now → IsKnown old → AreValuesTo (tables_of old) l.values.items l.last l.counter)
