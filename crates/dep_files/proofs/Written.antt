-- Blocks that are put in one after another.
use Rattle.std.proofs.Common.{◌≡◌, ℕ, ◌+◌, ◌<◌, List, [], ◌∷◌, ◌++◌, length, get_or, take, sym, ap, ◌∙◌, arith}
use Rattle.std.proofs.lemmas.List.{take_more, length-take-le}
use Rattle.sqlite_value.specs.Order.{Row}
use Rattle.dep_tables.specs.Rowids.{put_next}
use Rattle.dep_tables.specs.Rows.{block_values}
use Rattle.dep_tables.specs.Tables.{Tables}
use Rattle.dep_tables.specs.declared.owner.BlockOwner.{BlockOwner}
use Rattle.dep_row_maps.specs.Stored.{block_key, put_blocks}

put_last : (o : BlockOwner) (part place : ℕ) (blocks : List (List ℕ)) (b : List ℕ) (rows : List Row)
    → put_blocks o part place (blocks ++ b ∷ []) rows ≡ put_next (block_values (block_key o part (place + length blocks)) b) (put_blocks o part place blocks rows)
put_last o part place [] b rows = let same : place ≡ place + 0 = omega arith in ap (λ n. put_next (block_values (block_key o part n) b) rows) same
put_last o part place (x ∷ blocks) b rows =
    let same : (place + 1) + length blocks ≡ place + length (x ∷ blocks) = omega arith in
    put_last o part (place + 1) blocks b (put_next (block_values (block_key o part place) x) rows)
    ∙ ap (λ n. put_next (block_values (block_key o part n) b) (put_blocks o part (place + 1) blocks (put_next (block_values (block_key o part place) x) rows))) same

-- one more block is put in
pub one_more : (o : BlockOwner) (part : ℕ) (a b c : Tables) (blocks : List (List ℕ)) (i : ℕ) (block : List ℕ) → i < length blocks → block ≡ get_or blocks i []
    → b ≡ record a { blocks = put_blocks o part 0 (take i blocks) a.blocks } → c ≡ record b { blocks = put_next (block_values (block_key o part i) block) b.blocks }
    → c ≡ record a { blocks = put_blocks o part 0 (take (i + 1) blocks) a.blocks }
one_more o part a b c blocks i block within is so_far next =
    let place : i ≡ 0 + length (take i blocks) = omega (arith, length-take-le i blocks (omega (arith, within))) in
    let pushed : put_blocks o part 0 (take (i + 1) blocks) a.blocks ≡ put_next (block_values (block_key o part i) block) (put_blocks o part 0 (take i blocks) a.blocks) =
    ap (λ bs. put_blocks o part 0 bs a.blocks) (take_more blocks i [] within) ∙ put_last o part 0 (take i blocks) (get_or blocks i []) a.blocks
    ∙ ap (λ n. put_next (block_values (block_key o part n) (get_or blocks i [])) (put_blocks o part 0 (take i blocks) a.blocks)) (sym place)
    ∙ ap (λ x. put_next (block_values (block_key o part i) x) (put_blocks o part 0 (take i blocks) a.blocks)) (sym is) in
    next ∙ ap (λ (t : Tables). record t { blocks = put_next (block_values (block_key o part i) block) t.blocks }) so_far ∙ ap (λ rows. record a { blocks = rows }) (sym pushed)
