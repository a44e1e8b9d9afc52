-- What the words of the command line of `swordd_host` ask for.
use Rattle.std.specs.Prelude.{ℕ, ◌==◌, List, [], ◌∷◌, Option, Some, None, Bool, false, codes, bytes_eq, if◌then◌else◌}
use Rattle.dep_program.specs.declared.host_command.HostCommand.{HostCommand}
use Rattle.dep_program.specs.declared.host_command.HostCommand.TheVariants as command

-- a configuration file is served or looked at, or an example of one or the version is printed
pub data AskedHostCommand : Type 0 where
  serve : (file : List ℕ) → AskedHostCommand
  check : (file : List ℕ) → AskedHostCommand
  example : AskedHostCommand
  version : AskedHostCommand

-- a word that begins with a hyphen names no file
abbrev pub is_option : List ℕ → Bool
is_option [] = false
is_option (c ∷ word) = c == 45

-- what one word asks for
abbrev pub asked_of_one : List ℕ → Option AskedHostCommand
asked_of_one word =
    if bytes_eq word (codes "--example") then Some example
    else if bytes_eq word (codes "--version") then Some version
    else if is_option word then None
    else Some (serve word)

-- what the words ask for, if they do
abbrev pub asked_of : List (List ℕ) → Option AskedHostCommand
asked_of (word ∷ []) = asked_of_one word
asked_of (word ∷ file ∷ []) =
    if bytes_eq word (codes "--check") then Some (check file) else None
asked_of _ = None

-- what a command is
abbrev pub asked_in : HostCommand → AskedHostCommand
asked_in (command.Serve file) = serve file.now
asked_in (command.Check file) = check file.now
asked_in command.Example = example
asked_in command.Version = version
