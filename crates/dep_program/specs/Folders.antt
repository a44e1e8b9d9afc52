-- Where the files of a folder stand, and how an export ends without one.
use Rattle.std.specs.Prelude.{ℕ, List, ◌++◌, codes}
use Rattle.std.specs.declared.io.ErrorKind.{ErrorKind}
use Rattle.std.specs.declared.io.ErrorKind.TheVariants.{OutOfMemory}
use Rattle.dep_program.specs.declared.outcome.Outcome.{Outcome}
use Rattle.dep_program.specs.declared.outcome.Outcome.TheVariants.{StoreFault, TransferFault}

-- the path of a file or a folder inside a folder
abbrev pub path_inside : (folder path : List ℕ) → List ℕ
path_inside folder path = folder ++ codes "/" ++ path

-- how an export ends where its folder can't be made
abbrev pub without_folder : ErrorKind → Outcome
without_folder OutOfMemory = StoreFault
without_folder _ = TransferFault
