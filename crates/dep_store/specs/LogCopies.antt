-- When the log of a store is copied into its file.
use Rattle.std.specs.Prelude.{zero, suc, Bool, true, false, nat_le, not, ◌&&◌, ◌||◌, length}
use Rattle.dep_fields.specs.Kinds.{is_by_reference}
use Rattle.dep_types.specs.Methods.{is_safe}
use Rattle.dep_decisions.specs.declared.operation.Operation.{Operation}
use Rattle.dep_store.specs.declared.log_copy.LogCopy.{LogCopy}
use Rattle.dep_store.specs.declared.log_copy.LogCopy.TheVariants.{NotDue, DueAfter}

-- the request may write 4 MiB or more
abbrev pub writes_much : Operation → Bool
writes_much op = not (is_safe op.target.method)
    && (nat_le 4194304 (length op.content) || is_by_reference op.fields.disposition)

-- what is due once a call was made
abbrev pub after_call : LogCopy → LogCopy
after_call NotDue = NotDue
after_call (DueAfter zero) = NotDue
after_call (DueAfter (suc calls)) = DueAfter calls

-- a call is to come that copies it
abbrev pub has_call : LogCopy → Bool
has_call NotDue = false
has_call (DueAfter calls) = true
