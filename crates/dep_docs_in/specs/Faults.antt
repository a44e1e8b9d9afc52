-- How the result of a reader stands to what there is to be read, and what its faults are made of.
use Rattle.std.specs.Prelude.{◌≡◌, ℕ, Option, Some, None, Result, Ok, Err}
use Rattle.dep_params.specs.declared.disposition.ParamFault.{ParamFault}
use Rattle.dep_params.specs.declared.disposition.ParamFault.TheVariants as params
use Rattle.dep_docs_in.specs.declared.fault.DocFault.{DocFault}
use Rattle.dep_docs_in.specs.declared.fault.DocFault.TheVariants.{Malformed, Memory}

-- the number of each failure to read a document, 1 or 2
abbrev pub document_fault_number : DocFault → ℕ
document_fault_number Malformed = 1
document_fault_number Memory = 2

-- a fault of a disposition, or of the file name in it
abbrev pub fault_of_disposition : ParamFault → DocFault
fault_of_disposition params.Memory = Memory
fault_of_disposition _ = Malformed

-- there is nothing to be read, unless memory was wanting
abbrev pub IsUnreadable : {Y : Type 0} → DocFault → Option Y → Type 0
IsUnreadable Malformed read = read ≡ None
IsUnreadable Memory read = Unit {0}

-- what is answered, seen by view, is what there is to be read; unless memory was wanting
abbrev pub GivesBy : {X Y : Type 0} → (X → Y) → Result X DocFault → Option Y → Type 0
GivesBy view (Ok x) read = read ≡ Some (view x)
GivesBy view (Err e) read = IsUnreadable e read

-- the same of a result that is seen as it is
abbrev pub GivesRead : {X : Type 0} → Result X DocFault → Option X → Type 0
GivesRead result read = GivesBy (λ x. x) result read
