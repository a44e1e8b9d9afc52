-- What a sink of files was given, as one transcript: bytes represent themselves, and marks above
-- all bytes say where a folder was made, and where a file begins and ends.
use Rattle.std.specs.Prelude.{◌≡◌, ℕ, List, [], ◌∷◌, ◌++◌, flat_map}

-- a path and its bytes
abbrev pub PathAndBytes : Type 0
PathAndBytes = List ℕ × List ℕ

abbrev pub folder_mark : ℕ
folder_mark = 256

abbrev pub file_mark : ℕ
file_mark = 257

abbrev pub path_end : ℕ
path_end = 258

abbrev pub file_end : ℕ
file_end = 259

-- a folder was made
abbrev pub folder_made : (path : List ℕ) → List ℕ
folder_made path = folder_mark ∷ path ++ path_end ∷ []

-- a file was begun
abbrev pub file_begun : (path : List ℕ) → List ℕ
file_begun path = file_mark ∷ path ++ path_end ∷ []

-- the file that was begun last was ended
abbrev pub file_ended : List ℕ
file_ended = file_end ∷ []

-- a whole file, from its beginning to its end
abbrev pub file_given : PathAndBytes → List ℕ
file_given file = file_begun file.0 ++ file.1 ++ file_ended

-- these folders, and then these files
abbrev pub transcript : (folders : List (List ℕ)) (files : List PathAndBytes) → List ℕ
transcript folders files = flat_map folder_made folders ++ flat_map file_given files

-- the prefix of some bytes, perhaps all of them
pub record IsPrefix (front whole : List ℕ) : Type 0 where
  pub rest : List ℕ
  pub joined : whole ≡ front ++ rest
