-- The URL that all of the server's URLs begin with (the URL Standard).
use Rattle.std.specs.Prelude.{◌≡◌, ℕ, List, ◌++◌, codes, None, Ok}
use Rattle.url.specs.Parser.{parse_url}
use Rattle.url.specs.Parts.{Parts, serialize}

-- the text is an `http` URL whose own text is this one with a slash after it
pub record IsBase (text : List ℕ) : Type 0 where
  pub url : Parts
  pub reads : parse_url None text ≡ Ok url
  pub scheme : url.scheme ≡ codes "http"
  pub spelled : serialize url ≡ text ++ codes "/"
