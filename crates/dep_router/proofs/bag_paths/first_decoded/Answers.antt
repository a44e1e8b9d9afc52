use Rattle.std.proofs.Common.{◌≡◌, ◌∷◌, [], take}
use Rattle.std.proofs.lemmas.List.{take_min}
use Rattle.percent_encoding.specs.Percent.{percent_decode}
use Rattle.dep_router.proofs.EscapeLemmas.{decodes_whole, decodes_first}
use Rattle.dep_router.proofs.bag_paths.first_decoded.Goals as goal

pub returns-in-Some-clause-decodes : goal.returns-in-Some-clause-decodes
returns-in-Some-clause-decodes c =
    let path = c.args.path.now in
    let front : take c.min.result path ≡ take 3 path = rw c.min.ensures (take_min 3 path) in
    let one : percent_decode (take 3 path) ≡ c.in-Some.octet ∷ [] = rw front at c.in-Some.ensures.one in
    rw front (decodes_whole path c.in-Some.octet c.requires one)

pub returns-in-None-clause-decodes : goal.returns-in-None-clause-decodes
returns-in-None-clause-decodes c =
    let path = c.args.path.now in
    let front : take c.min.result path ≡ take 3 path = rw c.min.ensures (take_min 3 path) in
    decodes_first path c.requires (rw front at (c.only_decoded.ensures.other c.in-None.is))
