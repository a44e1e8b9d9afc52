use Rattle.std.specs.Prelude.{⊤}
use Rattle.hex.specs.Hex.{encode_with, decode_pairs}
use Rattle.base64.specs.Rfc4648.{encode_symbols}
use Rattle.base64.specs.Decode.{groups_error, groups_bytes, scan_steps}
use Rattle.base64.specs.GeneralPurpose.{decoded_of}
use Rattle.sha2.specs.Sha256.{first_words, schedule, rounds, compress, hash_after, digest_bytes, sha256}
use Rattle.sha2.specs.Sha512.{first_words as first_words512, schedule as schedule512, rounds as rounds512, compress as compress512, hash_after as hash_after512, digest_bytes as digest_bytes512, sha512}
use Rattle.dep_octets.specs.Octets.{trimmed}
use Rattle.dep_fixity.specs.Fixity.{octets_of}

-- what an answer unfolds to compute the spellings of octets that are written out
unfoldable pub spelling_on_literals : ⊤
unfolding encode_with decode_pairs encode_symbols groups_error groups_bytes scan_steps decoded_of octets_of trimmed
spelling_on_literals = tt

-- and the SHA-256 of a message that is
unfoldable pub sha256_on_literals : ⊤
unfolding spelling_on_literals first_words schedule rounds compress hash_after digest_bytes sha256
sha256_on_literals = tt

-- and its SHA-512
unfoldable pub sha512_on_literals : ⊤
unfolding spelling_on_literals first_words512 schedule512 rounds512 compress512 hash_after512 digest_bytes512 sha512
sha512_on_literals = tt
