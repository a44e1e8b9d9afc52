use Rattle.std.proofs.Common.{◌≡◌, List, take}
use Rattle.std.specs.List.{AllZip, flat_map}
use Rattle.sqlite.specs.State.{HasCleanDisk}
use Rattle.sqlite.specs.Held.{state}
use Rattle.dep_tables.specs.Tables.{tables_of, IsOurs}
use Rattle.dep_schema.specs.Fixity.{HasFixity, number_if_damaged, sha256_rows}
use Rattle.dep_schema.specs.declared.auditing.FileFixity.{FileFixity}
use Rattle.dep_schema.proofs.Stills.{HasRead}
use Rattle.dep_schema.proofs.auditing.audit_files.Given as goal

-- the files so far were checked
abbrev pub invariant-files : goal.invariant-files
invariant-files g l =
    let old = state g.S.Store l.fn.connection in
    let now = state g.S.Store l.connection in
    HasRead g.S.Store l.fn.connection l.connection
    × (HasCleanDisk now → IsOurs old → (l.row-items ≡ sha256_rows l.fn.object (tables_of old))
    × ((found : List FileFixity) × AllZip (HasFixity (tables_of old)) (take l.row-index l.row-items) found
    × (l.damaged.items ≡ flat_map number_if_damaged found)))
