-- What the words of the command line of `swordd` ask for.
use Rattle.std.specs.Prelude.{ℕ, zero, suc, ◌-◌, ◌^◌, List, [], ◌∷◌, Option, Some, None, option_map, codes, bytes_eq, if◌then◌else◌}
use Rattle.dep_octets.specs.Octets.{decimal_number, value_of}
use Rattle.dep_types.specs.Numbers.{number_in}
use Rattle.std.specs.declared.io.ErrorKind.{ErrorKind}
use Rattle.std.specs.declared.io.ErrorKind.TheVariants.{OutOfMemory}
use Rattle.dep_program.specs.declared.outcome.Outcome.{Outcome}
use Rattle.dep_program.specs.declared.outcome.Outcome.TheVariants.{Usage, StoreFault}
use Rattle.dep_program.specs.declared.command.Command.{Command}
use Rattle.dep_program.specs.declared.command.Command.TheVariants as command
use Rattle.dep_program.specs.declared.command.Job.{Job}
use Rattle.dep_program.specs.declared.command.Job.TheVariants as job

-- a moment and a base to replay at; a port, a file, and a count of connections to serve; a file, an object and a
-- folder to export it into; a file to audit
pub data AskedCommand : Type 0 where
  replay : (moment : ℕ) → (base : List ℕ) → AskedCommand
  serve : (port : ℕ) → (file : List ℕ) → (count : ℕ) → AskedCommand
  export : (file : List ℕ) → (object : ℕ) → (folder : List ℕ) → AskedCommand
  audit : (file : List ℕ) → AskedCommand

-- the moment of a word, in whole seconds since 1970
abbrev pub moment_of : List ℕ → Option ℕ
moment_of word = value_of (decimal_number word (2 ^ 64 - 1))

-- the same number, but no zero
abbrev pub from_one : Option ℕ → Option ℕ
from_one None = None
from_one (Some zero) = None
from_one (Some (suc n)) = Some (suc n)

abbrev pub port_of : List ℕ → Option ℕ
port_of word = from_one (value_of (decimal_number word 65535))

abbrev pub count_in : List ℕ → Option ℕ
count_in word = from_one (value_of (decimal_number word 1000000))

-- what the words after each name ask for, if they do
abbrev pub replay_of : List (List ℕ) → Option AskedCommand
replay_of (moment ∷ base ∷ []) = option_map (λ m. replay m base) (moment_of moment)
replay_of _ = None

abbrev pub serve_at : Option ℕ → List ℕ → Option ℕ → Option AskedCommand
serve_at None file count = None
serve_at (Some port) file count = option_map (λ c. serve port file c) count

abbrev pub serve_of : List (List ℕ) → Option AskedCommand
serve_of (port ∷ file ∷ count ∷ []) = serve_at (port_of port) file (count_in count)
serve_of _ = None

abbrev pub export_of : List (List ℕ) → Option AskedCommand
export_of (file ∷ object ∷ folder ∷ []) = option_map (λ n. export file n folder) (number_in object)
export_of _ = None

abbrev pub audit_of : List (List ℕ) → Option AskedCommand
audit_of (file ∷ []) = Some (audit file)
audit_of _ = None

abbrev pub command_named : (name : List ℕ) → List (List ℕ) → Option AskedCommand
command_named name words =
    if bytes_eq name (codes "replay") then replay_of words
    else if bytes_eq name (codes "serve") then serve_of words
    else if bytes_eq name (codes "export") then export_of words
    else if bytes_eq name (codes "audit") then audit_of words
    else None

-- what the words ask for, if they do
abbrev pub asked_of : List (List ℕ) → Option AskedCommand
asked_of [] = None
asked_of (name ∷ words) = command_named name words

-- what a job over the store in a file is
abbrev pub asked_over : (file : List ℕ) → Job → AskedCommand
asked_over file (job.Serve options) = serve options.port file options.count
asked_over file (job.Export object folder) = export file object folder.now
asked_over file job.Audit = audit file

-- what a command is
abbrev pub asked_in : Command → AskedCommand
asked_in (command.Replay moment base) = replay moment base.now
asked_in (command.WorkOn file its) = asked_over file.now its

-- how the program ends where the words can't be had: a word that isn't UTF-8 is a wrong one
abbrev pub unread_outcome : ErrorKind → Outcome
unread_outcome OutOfMemory = StoreFault
unread_outcome _ = Usage
