-- What an outlet that gathers took, what it holds back, and what its writer has.
use Rattle.std.specs.Prelude.{ℕ, List, Option}
use Rattle.std.specs.Io.Buffered.{writer_buffer, writer_contents, writer_inner}
use Rattle.dep_program.specs.declared.gathered.Gathered.{Gathered}

module _ {W : Type 0} where
  -- the bytes that it holds back
  abbrev pub held_in : Gathered W → List ℕ
  held_in outlet = writer_buffer outlet.writer

  -- the bytes that its writer has
  abbrev pub given : (W → Option (List ℕ)) → Gathered W → Option (List ℕ)
  given contents outlet = contents (writer_inner outlet.writer)

  -- the bytes that it took: those that its writer has, and those that it holds back behind them
  abbrev pub gathered_bytes : (W → Option (List ℕ)) → Gathered W → Option (List ℕ)
  gathered_bytes contents outlet = writer_contents contents outlet.writer
