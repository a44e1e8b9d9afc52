-- The text that looks for the version of the tables.
use Rattle.std.specs.Prelude.{ℕ, List, codes}

abbrev pub find_format_text : List ℕ
find_format_text = codes "SELECT id, version FROM format"
