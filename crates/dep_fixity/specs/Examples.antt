-- FIPS 180-4's example of SHA-512 with two blocks, and the digests of `abc` as fields spell them.
use Rattle.std.specs.Prelude.{ℕ, List, ◌++◌, codes}

-- a message of two blocks, which has 112 octets
abbrev pub long_message : List ℕ
long_message =
    codes "abcdefghbcdefghicdefghijdefghijkefghijklfghijklmghijklmn"
    ++ codes "hijklmnoijklmnopjklmnopqklmnopqrlmnopqrsmnopqrstnopqrstu"

-- its SHA-512 in hexadecimal digits
abbrev pub long_message_sha512 : List ℕ
long_message_sha512 =
    codes "8e959b75dae313da8cf4f72814fc143f8f7779c6eb9f7fa17299aeadb6889018"
    ++ codes "501d289e4900f7e4331b99dec4b5433ac7d329eeb6dd26545e96e55b874be909"

-- the SHA-256 of `abc` in base64
abbrev pub abc_sha256_in_base64 : List ℕ
abc_sha256_in_base64 = codes "ungWv48Bz+pBQUDeXa4iI7ADYaOWF3qctBD/YfIAFa0="

-- the SHA-512 of `abc` in base64
abbrev pub abc_sha512_in_base64 : List ℕ
abc_sha512_in_base64 =
    codes "3a81oZNherrMQXNJriBBMRLm+k6JqX6iCp7u5ktV05ohkpkqJ0/BqDa6PCOj/uu9"
    ++ codes "RU1EI2Q86A4qmslPpUyknw=="

-- the SHA-512 of `abc` in hexadecimal digits, the second half of them in upper case
abbrev pub abc_sha512_in_digits : List ℕ
abc_sha512_in_digits =
    codes "ddaf35a193617abacc417349ae20413112e6fa4e89a97ea20a9eeee64b55d39a"
    ++ codes "2192992A274FC1A836BA3C23A3FEEBBD454D4423643CE80E2A9AC94FA54CA49F"
