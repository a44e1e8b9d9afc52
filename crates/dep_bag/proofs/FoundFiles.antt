-- The first file that stands at a path.
use Rattle.std.proofs.Common.{◌≡◌, ℕ, suc, ◌<◌, true, cond, List, ◌∷◌, length, drop, get_or, Some, sym, ap, ◌∙◌, drop-cons, map as each}
use Rattle.std.specs.Prelude.{Option, option_map, find, bytes_eq}
use Rattle.dep_types.specs.declared.rows.FileRow.{FileRow}
use Rattle.dep_bag.specs.declared.part.BagPart.{BagPart}
use Rattle.dep_bag.specs.declared.part.BagPart.TheVariants.{Stored}
use Rattle.dep_manifest.specs.Reported.{row_path}
use Rattle.dep_bag.specs.Parts.{stored_part}

-- what is found at a path among these
abbrev found : List ℕ → List FileRow → Option (List ℕ × BagPart)
found path rows = find (λ part. bytes_eq path part.0) (each stored_part rows)

-- the first of the rest stands there
pub found_here : (path : List ℕ) (rows : List FileRow) (i : ℕ) (row : FileRow) → i < length rows → row ≡ get_or rows i row
    → found path rows ≡ found path (drop i rows) → true ≡ bytes_eq path (row_path row)
    → Some (Stored row.file) ≡ option_map (λ part. part.1) (found path rows)
found_here path rows i row inside is before here =
    let rest = found path (drop (suc i) rows) in
    ap (λ b. option_map (λ part. part.1) (cond b (Some (stored_part row)) rest)) here
    ∙ ap (λ r. option_map (λ part. part.1) (found path (r ∷ drop (suc i) rows))) is
    ∙ ap (λ l. option_map (λ part. part.1) (found path l)) (sym (drop-cons rows i row inside))
    ∙ ap (option_map (λ part. part.1)) (sym before)
