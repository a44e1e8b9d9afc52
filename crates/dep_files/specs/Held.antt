-- What is read of an object ahead of a request, and held for it.
use Rattle.std.specs.Prelude.{◌≡◌, ◌<◌, ℕ, Some, IfSome}
use Rattle.std.specs.FinMap as map
use Rattle.dep_types.specs.State.{State, Object}
use Rattle.dep_types.specs.declared.rows.ObjectRow.{ObjectRow}
use Rattle.dep_files.specs.declared.held.ReadPart.{ReadPart}

-- this was read of the object of a row
abbrev pub read_part : {P : Type 0} → ObjectRow → P → ReadPart P
read_part row part = record { object = row.object; tag = row.object_tag; part = part }

-- its tag was given, and while the object has it this is a part of the object
pub record IsReadPart {P : Type 0} (IsPartOf : ℕ → Object → P → Type 0) (s : State) (read : ReadPart P)
    : Type 0 where
  pub given : read.tag < s.next.change
  pub part : (o : Object) → map.get s.objects read.object ≡ Some o → o.tag ≡ read.tag
      → IsPartOf read.object o read.part
