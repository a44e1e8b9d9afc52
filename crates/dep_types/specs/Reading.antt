-- How a read ended, and the parts of an inlet over a reader.
use Rattle.std.specs.Prelude.{ℕ, zero, suc, Result, Ok, Err}
use Rattle.dep_types.specs.declared.inlet.LastRead.{LastRead}
use Rattle.dep_types.specs.declared.inlet.LastRead.TheVariants.{Bytes, Nothing, Failed}
use Rattle.dep_types.specs.declared.reader_inlet.ReaderInlet.{ReaderInlet}

-- how the read with this result ended
abbrev pub end_of_read : {E : Type 0} → Result ℕ E → LastRead
end_of_read (Ok zero) = Nothing
end_of_read (Ok (suc n)) = Bytes
end_of_read (Err e) = Failed

-- what the inlet reads from
abbrev pub reader_of : {R : Type 0} → ReaderInlet R → R
reader_of inlet = inlet.reader

-- how many reads the inlet has made
abbrev pub reads_of : {R : Type 0} → ReaderInlet R → ℕ
reads_of inlet = inlet.reads

-- how the last read of the inlet ended
abbrev pub last_of : {R : Type 0} → ReaderInlet R → LastRead
last_of inlet = inlet.last
